use Rattle.trace_runs.proofs.Tables.{on_ok, one_more}
use Rattle.trace_runs.proofs.snapshot_table.SnapshotTable.see.Goals as goal

pub returns-in_ok-key-in-Some-clause-tells : goal.returns-in_ok-key-in-Some-clause-tells
returns-in_ok-key-in-Some-clause-tells c =
    on_ok _ _ c.note.result
    (λ noted es many told. one_more c.args.clusters c.args.index c.args.self.now.rows c.note.new.self.rows es c.args.entry.now c.in-Some.local c.in-Some.remote.now c.in_ok-key-in-Some.key
    c.in-Some.ensures c.in_ok-key-in-Some.ensures noted many told)
    c.note.ensures.rows

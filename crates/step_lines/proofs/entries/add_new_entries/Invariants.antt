use Rattle.std.proofs.Common.{◌≡◌, ◌++◌, drop}
use Rattle.geo_base.specs.Report.{entry_lines}
use Rattle.step_lines.specs.Changes.{stood_lines}
use Rattle.step_lines.proofs.entries.add_new_entries.Given as goal

-- the lines so far and the rest make the whole
abbrev pub invariant-loop-index : goal.invariant-loop-index
invariant-loop-index l =
    l.lines ++ stood_lines l.indent (entry_lines l.clusters l.store.ledgers l.index (drop l.index l.store.entries))
    ≡ l.initial.lines ++ stood_lines l.indent (entry_lines l.clusters l.store.ledgers l.first (drop l.first l.store.entries))

use Rattle.std.proofs.Common.{◌≡◌, ◌+◌, ◌∷◌, ◌++◌, [], List, ap, length, refl, subst, sym}
use Rattle.geo_base.specs.declared.entry.Entry.{Entry}
use Rattle.trace_runs.specs.SnapshotTables.{Row, Snapshots, Tells}
use Rattle.trace_runs.proofs.Tables.{seen_more}
use Rattle.trace_runs.proofs.snapshot_table.SnapshotTable.see_at.Goals as goal

pub returns-clause-known : goal.returns-clause-known
returns-clause-known g c =
    let es = g.S.EntryStore.entries c.args.store.now in let n = c.args.clusters in let e = c.in-Some.entry.now in
    let view = ap (λ (t : Snapshots). t.rows) c.self.view_is in
    let rows : c.see.new.self.rows ≡ c.self.inside.least.entries = cc in
    seen_more n c.args.self.now (record { rows = c.self.inside.least.entries; seen = c.args.index + 1 }) es c.args.index e c.requires.next c.requires.within (sym c.in-Some.ensures) refl
    (subst (λ (rs : List Row). (fs : List Entry) → length fs ≡ c.args.index → Tells n c.args.self.now.rows fs → Tells n rs (fs ++ e ∷ [])) rows c.in_ok-see-in-Some.ensures.tells)
    c.requires.known

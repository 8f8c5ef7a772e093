use Rattle.std.proofs.Common.{rules, sym, subst}
use Rattle.topic_compaction.specs.Last.{IsCompacted, Rows}
use Rattle.topic_compaction.proofs.Noted.{advanced}
use Rattle.topic_compaction.proofs.compacted.Compacted.advance.Goals as goal

pub returns-clause-ok : goal.returns-clause-ok
returns-clause-ok g c =
    let es = g.S.EntryStore.entries c.args.store.now in
    let old : Rows = record { horizon = c.self.inside.horizon; rows = c.self.inside.last.entries } in
    let known : IsCompacted es old = subst (λ (v : Rows). IsCompacted es v) (sym c.self.view_is) c.requires.known in
    advanced es old c.args.horizon c.in_ok-rows.rows.items c.note.new.last.entries known (search rules) (search rules) (search rules) (search rules)

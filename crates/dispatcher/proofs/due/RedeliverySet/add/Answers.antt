use Rattle.std.proofs.Common.{ℕ, ap, sym, ◌∙◌}
use Rattle.std.specs.List.{insert}
use Rattle.geo_base.specs.Ascending.{IsGap}
use Rattle.dispatcher.specs.Tables.{RedeliveryIndexes, index_itself}
use Rattle.geo_base.proofs.Ascending.{ascending_insert}
use Rattle.dispatcher.proofs.Ascending.{index_gap, index_here}
use Rattle.dispatcher.proofs.due.RedeliverySet.add.Goals as goal

pub returns-in-Ok-clause-indexes : goal.returns-in-Ok-clause-indexes
returns-in-Ok-clause-indexes c = sym (index_here c.args.self.now.indexes c.args.index c.in-Ok.field-0 c.in-Ok.ensures.here)

pub returns-in-Ok-insert-clause-indexes : goal.returns-in-Ok-insert-clause-indexes
returns-in-Ok-insert-clause-indexes c =
    let view = ap (λ (t : RedeliveryIndexes). insert t.indexes c.in-Err.at c.args.index) c.self.view_is in
    c.in-Ok-insert.ensures.items ∙ view ∙ sym (index_gap c.args.self.now.indexes c.args.index c.in-Err.at c.in-Err.ensures.gap)

pub invariant_of-self : goal.invariant_of-self
invariant_of-self c =
    let view = ap (λ (t : RedeliveryIndexes). t.indexes) c.self.view_is in
    let gap : IsGap ℕ index_itself c.self.inside.items.items c.args.index c.in-Err.at = rw view c.in-Err.ensures.gap in
    rw c.in-Ok-insert.ensures.items (ascending_insert index_itself c.self.inside.items.items c.args.index c.in-Err.at c.self.invariant gap)

use Rattle.std.proofs.Common.{◌≡◌, rules, ap}
use Rattle.std.specs.Prelude.{not}
use Rattle.std.specs.List.{filter}
use Rattle.std.proofs.lemmas.Fn.{filter_same}
use Rattle.geo_base.specs.Cursor.{has}
use Rattle.dispatcher.specs.Tables.{RedeliveryIndexes, index_itself}
use Rattle.dispatcher.proofs.due.RedeliverySet.forget.Goals as goal
use Rattle.geo_base.proofs.Ascending.{ascending_filter}

pub returns-clause-indexes : goal.returns-clause-indexes
returns-clause-indexes c =
    let view = ap (λ (t : RedeliveryIndexes). t.indexes) c.self.view_is in
    rw (← view) (filter_same _ _ _ (λ x b f' k. search rules) _ _ c.retain.ensures.filtered)

pub invariant_of-self : goal.invariant_of-self
invariant_of-self c =
    let kept : c.retain.new.self.items ≡ filter (λ i. not (has c.args.cursor.now.indexes i)) c.self.inside.items.items =
    filter_same _ _ _ (λ x b f' k. search rules) _ _ c.retain.ensures.filtered in
    rw kept (ascending_filter index_itself (λ i. not (has c.args.cursor.now.indexes i)) c.self.inside.items.items c.self.invariant)

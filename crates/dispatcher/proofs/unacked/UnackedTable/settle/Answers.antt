use Rattle.std.proofs.Common.{◌≡◌, ◌∙◌, rules, ap}
use Rattle.std.specs.List.{filter}
use Rattle.std.proofs.lemmas.Fn.{filter_same}
use Rattle.geo_base.proofs.Ascending.{ascending_filter}
use Rattle.dispatcher.specs.Slots.{is_out, outs_of, slot_index}
use Rattle.dispatcher.specs.Tables.{UnackedIndexes}
use Rattle.dispatcher.proofs.Slots.{none_empty, open_out, settled}
use Rattle.std.specs.Prelude.{true}
use Rattle.dispatcher.proofs.unacked.UnackedTable.settle.Goals as goal

pub returns-clause-items : goal.returns-clause-items
returns-clause-items c =
    let xs = c.self.inside.slots.items in
    let kept : c.retain.new.self.items ≡ filter is_out xs = filter_same _ _ _ (λ x b f' k. search rules) _ _ c.retain.ensures.filtered in
    ap (λ ss. outs_of ss) kept ∙ settled xs ∙ ap (λ (t : UnackedIndexes). t.items) c.self.view_is

pub invariant_of-self : goal.invariant_of-self
invariant_of-self c =
    let xs = c.self.inside.slots.items in
    let kept : c.retain.new.self.items ≡ filter is_out xs = filter_same _ _ _ (λ x b f' k. search rules) _ _ c.retain.ensures.filtered in
    rw kept (record { ascending = ascending_filter slot_index is_out xs c.self.invariant.ascending; counted = none_empty is_out xs (λ s h. open_out s.client true h) })

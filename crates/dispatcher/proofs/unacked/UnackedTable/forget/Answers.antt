use Rattle.std.proofs.Common.{◌≡◌, ◌∙◌, List, rules, ap, arith}
use Rattle.std.specs.Prelude.{length, not}
use Rattle.std.specs.List.{filter}
use Rattle.std.proofs.lemmas.Fn.{filter_same}
use Rattle.geo_base.proofs.Ascending.{ascending_filter}
use Rattle.geo_base.specs.declared.consumer.Unacked.{Unacked}
use Rattle.geo_base.specs.Cursor.{has}
use Rattle.dispatcher.specs.Slots.{is_open, outs_of, slot_index}
use Rattle.dispatcher.specs.Tables.{UnackedIndexes}
use Rattle.dispatcher.proofs.Slots.{few_left, none_empty, open_out, open_outs}
use Rattle.dispatcher.proofs.unacked.UnackedTable.forget.Goals as goal

pub returns-clause-items : goal.returns-clause-items
returns-clause-items c =
    let xs = c.self.inside.slots.items in
    let is = c.args.cursor.now.indexes in
    let kept : c.retain.new.self.items ≡ filter (is_open is) xs = filter_same _ _ _ (λ x b f' k. search rules) _ _ c.retain.ensures.filtered in
    ap (λ ss. outs_of ss) kept ∙ open_outs is xs ∙ ap (λ (t : UnackedIndexes). filter (λ (o : Unacked). not (has is o.index)) t.items) c.self.view_is

pub returns-clause-len : goal.returns-clause-len
returns-clause-len c =
    let items = returns-clause-items c in
    omega (arith, ap (λ (os : List Unacked). length os) items, few_left (λ (o : Unacked). not (has c.args.cursor.now.indexes o.index)) c.args.self.now.items)

pub invariant_of-self : goal.invariant_of-self
invariant_of-self c =
    let xs = c.self.inside.slots.items in
    let is = c.args.cursor.now.indexes in
    let kept : c.retain.new.self.items ≡ filter (is_open is) xs = filter_same _ _ _ (λ x b f' k. search rules) _ _ c.retain.ensures.filtered in
    rw kept (record { ascending = ascending_filter slot_index (is_open is) xs c.self.invariant.ascending; counted = none_empty (is_open is) xs (λ s h. open_out s.client (not (has is s.index)) h) })

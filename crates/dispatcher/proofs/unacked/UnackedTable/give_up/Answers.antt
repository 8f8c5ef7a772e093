use Rattle.std.proofs.Common.{◌≡◌, ◌∙◌, ◌==◌, rules, ap, arith}
use Rattle.std.specs.Prelude.{length, not}
use Rattle.std.specs.List.{filter}
use Rattle.std.proofs.lemmas.Fn.{filter_same}
use Rattle.geo_base.proofs.Ascending.{ascending_filter}
use Rattle.geo_base.specs.declared.consumer.Unacked.{Unacked}
use Rattle.dispatcher.specs.Slots.{is_with_other, outs_of, slot_index}
use Rattle.dispatcher.specs.Tables.{UnackedIndexes}
use Rattle.dispatcher.proofs.Kept.{length_kept}
use Rattle.dispatcher.proofs.Slots.{none_empty, other_out, other_outs}
use Rattle.dispatcher.proofs.unacked.UnackedTable.give_up.Goals as goal

pub returns-clause-items : goal.returns-clause-items
returns-clause-items c =
    let xs = c.self.inside.slots.items in
    let kept : c.retain.new.self.items ≡ filter (is_with_other c.args.client) xs = filter_same _ _ _ (λ x b f' k. search rules) _ _ c.retain.ensures.filtered in
    ap (λ ss. outs_of ss) kept ∙ other_outs c.args.client xs ∙ ap (λ (t : UnackedIndexes). filter (λ (o : Unacked). not (o.client == c.args.client)) t.items) c.self.view_is

pub returns-clause-len : goal.returns-clause-len
returns-clause-len c =
    let xs = c.self.inside.slots.items in
    let kept : c.retain.new.self.items ≡ filter (is_with_other c.args.client) xs = filter_same _ _ _ (λ x b f' k. search rules) _ _ c.retain.ensures.filtered in
    let outs : outs_of c.retain.new.self.items ≡ filter (λ (o : Unacked). not (o.client == c.args.client)) (outs_of xs) = ap (λ ss. outs_of ss) kept ∙ other_outs c.args.client xs in
    let view = ap (λ (t : UnackedIndexes). t.items) c.self.view_is in
    rw (← view) (omega (arith, ap length outs, length_kept c.args.client (outs_of xs)))

pub invariant_of-self : goal.invariant_of-self
invariant_of-self c =
    let xs = c.self.inside.slots.items in
    let kept : c.retain.new.self.items ≡ filter (is_with_other c.args.client) xs = filter_same _ _ _ (λ x b f' k. search rules) _ _ c.retain.ensures.filtered in
    rw kept (record { ascending = ascending_filter slot_index (is_with_other c.args.client) xs c.self.invariant.ascending; counted = none_empty (is_with_other c.args.client) xs (λ s h. other_out c.args.client s.client h) })

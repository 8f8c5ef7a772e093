use Rattle.std.proofs.Common.{List, map, take, sym, ◌∙◌, ap}
use Rattle.geo_base.specs.declared.client.Held.{Held}
use Rattle.client.proofs.HeldMessages.{as_many, one_more_position}
use Rattle.client.proofs.held.HeldTable.positions.Goals as goal

pub returns-then-len-most-clause-positions : goal.returns-then-len-most-clause-positions
returns-then-len-most-clause-positions c =
    as_many c.from_first-slot-items.result.now c.loop-slot.slot-index c.args.most c.loop-slot.positions c.loop-slot.invariant.same (sym c.len.ensures ∙ c.if-len-most.true)
    ∙ ap (λ (hs : List Held). map (λ (h : Held). h.position) (take c.args.most hs)) (c.from_first-slot-items.ensures ∙ c.self.view_is)

pub loop-slot-preserved : goal.loop-slot-preserved
loop-slot-preserved c =
    let next = one_more_position c.from_first-slot-items.result.now c.loop-slot.slot-index c.args.most c.slot-item.result c.loop-slot.positions c.add_position.new.positions
    c.loop-slot-test.true c.slot-item.is c.loop-slot.invariant.same c.loop-slot.invariant.few (λ e. c.if-len-most.false (c.len.ensures ∙ e)) c.in_ok-add_position.ensures in
    record { few = next.0; same = next.1 }

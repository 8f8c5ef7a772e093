use Rattle.std.proofs.Common.{◌≡◌, ◌∙◌, ◌==◌, List, ap, sym, subst, refl, arith}
use Rattle.std.specs.Prelude.{None, length, not}
use Rattle.std.specs.List.{filter}
use Rattle.geo_base.specs.declared.consumer.Unacked.{Unacked}
use Rattle.geo_base.specs.Ascending.{IsHere}
use Rattle.geo_base.proofs.Ascending.{gone_gap}
use Rattle.dispatcher.specs.declared.slot.Slot.{Slot}
use Rattle.dispatcher.specs.Slots.{outs_of, slot_index}
use Rattle.dispatcher.proofs.Slots.{emptied_at, few_left, outs_without, popped}
use Rattle.dispatcher.proofs.unacked.UnackedTable.remove.Goals as goal

pub returns-in-Ok-eq0-clause-items : goal.returns-in-Ok-eq0-clause-items
returns-in-Ok-eq0-clause-items c =
    let ss = c.args.self.now.slots in
    let k = c.args.index in
    let zero : c.in-Ok-eq0.field-0 ≡ 0 = first_of (omega (arith, c.in-Ok-eq0.field-0-test), cc) in
    let here : IsHere Slot slot_index ss k 0 = subst (λ n. IsHere Slot slot_index ss k n) zero c.in-Ok-eq0.ensures.here in
    c.tidy.ensures.items ∙ c.pop.ensures.items ∙ popped ss k (record { index = k; client = None }) c.search.ensures.ascending here
    ∙ ap (λ os. filter (λ (o : Unacked). not (o.index == k)) os) (sym c.search.ensures.items)

pub returns-in-Ok-clause-items : goal.returns-in-Ok-clause-items
returns-in-Ok-clause-items c =
    let ss = c.args.self.now.slots in
    let k = c.args.index in
    c.tidy-in-Ok.ensures.items ∙ c.put.ensures.items ∙ emptied_at ss k c.in-Ok.at (record { index = k; client = None }) refl c.search.ensures.ascending c.in-Ok.ensures.here
    ∙ ap (λ os. filter (λ (o : Unacked). not (o.index == k)) os) (sym c.search.ensures.items)

pub returns-in-Ok-clause-len : goal.returns-in-Ok-clause-len
returns-in-Ok-clause-len c =
    let items = returns-in-Ok-clause-items c in
    omega (arith, ap (λ (os : List Unacked). length os) items, few_left (λ (o : Unacked). not (o.index == c.args.index)) c.args.self.now.items)

pub returns-in-Ok-eq0-clause-len : goal.returns-in-Ok-eq0-clause-len
returns-in-Ok-eq0-clause-len c =
    let items = returns-in-Ok-eq0-clause-items c in
    omega (arith, ap (λ (os : List Unacked). length os) items, few_left (λ (o : Unacked). not (o.index == c.args.index)) c.args.self.now.items)

pub returns-in-Err-clause-items : goal.returns-in-Err-clause-items
returns-in-Err-clause-items c =
    let ss = c.args.self.now.slots in
    let k = c.args.index in
    c.search.ensures.items ∙ ap (λ ts. outs_of ts) (sym (gone_gap slot_index k ss c.in-Err.field-0 c.search.ensures.ascending c.in-Err.ensures.gap)) ∙ outs_without k ss
    ∙ ap (λ os. filter (λ (o : Unacked). not (o.index == k)) os) (sym c.search.ensures.items)

use Rattle.std.proofs.Common.{◌≡◌, ◌<◌, List, [], Option, Some, None, length, get_or, sym, ap, ◌∙◌, arith}
use Rattle.std.specs.Option.{option_copied}
use Rattle.geo_base.specs.declared.client.Held.{Held}
use Rattle.client.proofs.HeldSlots.{next_indexed, next_passed}
use Rattle.client.proofs.held.slots.HeldSlots.index_next.Goals as goal

pub invariant_of-self : goal.invariant_of-self
invariant_of-self c =
    let within : c.self.inside.indexed < length c.self.inside.slots.items = omega (arith, c.if-slot-len.false, c.len.ensures, c.self.inside.slots.ok.0) in
    let is : None ≡ get_or c.self.inside.slots.items c.self.inside.indexed None =
    ap (λ o. option_copied o) (sym c.in-None.is) ∙ (c.at.ensures ∙ ap (λ (xs : List (Option Held)). get_or xs c.self.inside.indexed None) c.as_slice.ensures.value) in
    next_passed c.self.inside.slots.items c.self.inside.count c.self.inside.front c.self.inside.indexed c.self.inside.idents c.self.inside.positions [] [] c.self.invariant within is

pub invariant_of-self-in-Ok : goal.invariant_of-self-in-Ok
invariant_of-self-in-Ok c =
    let within : c.self.inside.indexed < length c.self.inside.slots.items = omega (arith, c.if-slot-len.false, c.len.ensures, c.self.inside.slots.ok.0) in
    let is : Some c.in-Some.held.now ≡ get_or c.self.inside.slots.items c.self.inside.indexed None =
    ap (λ o. option_copied o) (sym c.in-Some.is) ∙ (c.at.ensures ∙ ap (λ (xs : List (Option Held)). get_or xs c.self.inside.indexed None) c.as_slice.ensures.value) in
    next_indexed c.self.inside.slots.items c.self.inside.count c.self.inside.front c.self.inside.indexed c.self.inside.idents c.self.inside.positions c.insert.new.self c.insert-in-Some.new.self c.self.invariant
    c.in-Some.held.now c.key_of-ident.result c.key_of-position.result within is (rw c.stream_sum.ensures at c.key_of-ident.ensures) c.key_of-position.ensures c.in_ok-insert-in-Some.ensures.ok c.in-Ok.ensures.ok

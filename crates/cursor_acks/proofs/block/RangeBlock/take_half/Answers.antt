use Rattle.std.proofs.Common.{◌≡◌, ◌∙◌, length, ap, arith}
use Rattle.std.proofs.lemmas.List.{length-append, length-take}
use Rattle.std.specs.Prelude.{take}
use Rattle.cursor_acks.proofs.block.RangeBlock.take_half.Goals as goal

pub slice_bounds-extend_from_slice-end : goal.slice_bounds-extend_from_slice-end
slice_bounds-extend_from_slice-end c = omega (arith, c.requires.full, ap length c.deref.ensures.value, length-take 32 c.deref.result.now)

pub unreachable-requires : goal.unreachable-requires
unreachable-requires c =
    let none : length c.self.inside.items.items ≡ 0 = ap length (c.self.view_is ∙ c.requires.empty) in
    omega (arith, c.in-Err.ensures.full, c.self.invariant.0, c.self.inside.items.ok.0, none, length-take 32 c.deref.result.now)

pub invariant_of-self : goal.invariant_of-self
invariant_of-self c =
    let none : length c.self.inside.items.items ≡ 0 = ap length (c.self.view_is ∙ c.requires.empty) in (
      omega (arith, c.extend_from_slice.ensures.capacity, c.self.invariant.0),
      omega (arith, ap length c.in-Ok.ensures.items, length-append c.self.inside.items.items (take 32 c.deref.result.now), length-take 32 c.deref.result.now, none),
    )

use Rattle.std.proofs.Common.{◌≡◌, ◌∙◌, ◌+◌, ◌-◌, ◌++◌, ◌∷◌, [], List, length, arith, ap, subst, ℕ, sym}
use Rattle.std.specs.Prelude.{min, take, drop}
use Rattle.std.specs.Int.{div_ceil}
use Rattle.std.specs.List.{concat}
use Rattle.std.proofs.lemmas.List.{length-append}
use Rattle.wire_ends.proofs.Cutting.{more_bytes, more_sizes, part_less}
use Rattle.wire_ends.specs.Parcels.{AreParts}
use Rattle.wire_ends.proofs.parcel.parts.Goals as goal

pub loop-at-preserved : goal.loop-at-preserved
loop-at-preserved c =
    let bytes = c.args.bytes.now in
    let at = c.loop-at.at in
    let left : ℕ = length bytes - at in
    let n : ℕ = c.min.result in
    let is : n ≡ min c.args.most left = grind (arith, c.min.ensures) in
    let span : at + n - at ≡ n = omega arith in
    let part : c.in_ok-from_slice.field-0 ≡ take n (drop at bytes) = c.in_ok-from_slice.ensures ∙ ap (λ (k : ℕ). take k (drop at bytes)) span in
    let items : c.push_back.new.self.items ≡ c.loop-at.parts.items ++ take n (drop at bytes) ∷ [] =
    c.in_ok-push_back.ensures.items ∙ ap (λ (p : List ℕ). c.loop-at.parts.items ++ p ∷ []) part in
    let less : div_ceil (left - min c.args.most left) c.args.most + 1 ≡ div_ceil left c.args.most = part_less left c.args.most (omega (arith, c.loop-at-test.true)) c.requires in
    let rest : length bytes - (at + n) ≡ left - min c.args.most left = omega (arith, is) in (
      omega (arith, is, c.loop-at-test.true),
      ap concat items ∙ more_bytes bytes at n c.loop-at.parts.items c.loop-at.invariant.1,
      ap (λ (ps : List (List ℕ)). length ps + div_ceil (length bytes - (at + n)) c.args.most) items
          ∙ ap (λ (k : ℕ). length (c.loop-at.parts.items ++ take n (drop at bytes) ∷ []) + div_ceil k c.args.most) rest
          ∙ omega (arith, less, length-append c.loop-at.parts.items (take n (drop at bytes) ∷ []), c.loop-at.invariant.2),
      subst (AreParts c.args.most) (sym items) (more_sizes bytes at n c.args.most c.loop-at.parts.items (omega (arith, is, c.loop-at-test.true, c.requires)) (omega (arith, is)) (omega (arith, is, c.loop-at-test.true)) c.loop-at.invariant.3),
    )

-- A list of clusters that are declared is a set with one of them.
use Rattle.std.proofs.Common.{◌≡◌, ℕ, ◌<◌, ◌==◌, true, false, not, List, [], ◌∷◌, length, Some, codes, inl, inr, arith, refl, sym, subst}
use Rattle.std.specs.List.{list_all}
use Rattle.std.specs.Str.{bytes_eq}
use Rattle.std.proofs.lemmas.Bool.{not-false, or_cases, or_left, or_parts}
use Rattle.std.proofs.lemmas.List.Splits.{length-slice_split}
use Rattle.std.proofs.lemmas.Option.{cond_some, same_Some}
use Rattle.std.proofs.lemmas.Slice.Eq.{bytes_eq-Decides}
use Rattle.geo_base.specs.declared.entry.Targets.{Targets}
use Rattle.geo_base.specs.declared.entry.Targets.TheVariants as targets
use Rattle.script_rows.specs.NameBytes.{bit, has_stranger, is_among, mask_of}
use Rattle.script_rows.specs.NameWords.{Word, given, has_name_bytes, listed}
use Rattle.script_rows.proofs.Masks.{mask-lt}
use Rattle.script_rows.specs.declared.value.Value.TheVariants as value
use Rattle.script_rows.specs.Columns.{target_names, targets_of}
use Rattle.script_rows.specs.Written.{IsTargetsValue}
use Rattle.script_rows.proofs.Chosen.{chosen}

mask-some : (xs names : List Word) (w : Word) → is_among xs w ≡ true → is_among names w ≡ true → 0 < mask_of xs names
mask-some [] names w e f = cc
mask-some (x ∷ xs) names w e f =
    elim (or_cases (bytes_eq x w) (is_among xs w) e) [
      | inl same ↦
          let is : is_among names x ≡ true = subst (λ (v : Word). is_among names v ≡ true) (sym ((bytes_eq-Decides x w).0 same)) f in
          let here : bit (is_among names x) ≡ 1 = rw is refl in
          omega (arith, here)
      | inr later ↦ omega (arith, mask-some xs names w later f)
    ]

mask-some_known : (xs names : List Word) → 0 < length names → has_stranger xs names ≡ false → 0 < mask_of xs names
mask-some_known xs [] some e = absurd (omega arith)
mask-some_known xs (w ∷ ws) some e =
    mask-some xs (w ∷ ws) w (not-false (is_among xs w) (or_parts (not (is_among xs w)) (has_stranger xs ws) e).0) (or_left (bytes_eq w w) (is_among ws w) ((bytes_eq-Decides w w).1 refl))

listed_known : (xs : List Word) (w : Word) → bytes_eq w (codes "*") ≡ false → has_stranger xs (target_names w) ≡ false → has_stranger xs (listed w) ≡ false
listed_known xs w other e =
    let same : target_names w ≡ listed w = rw other refl in
    subst (λ (names : List Word). has_stranger xs names ≡ false) same e

pub targets_fit : (xs : List Word) (w : Word) (t : Targets) → targets_of xs w ≡ Some t → has_stranger xs (target_names w) ≡ false → IsTargetsValue (length xs) (value.Targets t)
targets_fit xs w t e known =
    elim (chosen (bytes_eq w (codes "*")) (Some targets.All) (given (list_all has_name_bytes (listed w)) (targets.Only (mask_of xs (listed w)))) (Some t) e) [
      | inl all ↦ subst (λ (u : Targets). IsTargetsValue (length xs) (value.Targets u)) (same_Some targets.All t all.1) tt
      | inr some ↦
          let parts = cond_some (list_all has_name_bytes (listed w)) (targets.Only (mask_of xs (listed w))) t some.1 in
          let filled : 0 < length (listed w) = omega (arith, length-slice_split (λ (b : ℕ). b == 44) w) in
          subst (λ (u : Targets). IsTargetsValue (length xs) (value.Targets u)) parts.1 (mask-some_known xs (listed w) filled (listed_known xs w some.0 known), mask-lt xs (listed w) (length xs) (omega arith))
    ]

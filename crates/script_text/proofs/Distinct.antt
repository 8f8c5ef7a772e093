-- Names that are told apart.
use Rattle.std.proofs.Common.{◌≡◌, ℕ, ◌+◌, ◌<◌, false, List, [], ◌∷◌, ◌++◌, length, get_or, map, Some, inl, inr, arith, sym, ◌∙◌, ap, subst, refl}
use Rattle.std.specs.List.{list_any}
use Rattle.std.specs.Str.{bytes_eq}
use Rattle.std.proofs.lemmas.Bool.{both_ways, cases_lt, false_from_ne_true}
use Rattle.std.proofs.lemmas.List.{get_or_append_left, get_or_push, length_push}
use Rattle.std.proofs.lemmas.List.Folds.{list_any_at}
use Rattle.std.proofs.lemmas.Option.{get_or_from_slice_get, slice_get_within, slice_get-get_or}
use Rattle.geo_base.specs.Scripted.{AreDistinct}
use Rattle.geo_base.specs.Setup.{Declared}
use Rattle.script_rows.specs.NameBytes.{is_among}

-- a name that is not among the names is none of them
apart_from_new : (names : List (List ℕ)) (n : List ℕ) (k : ℕ) → is_among names n ≡ false → k < length names → bytes_eq (get_or names k []) n ≡ false
apart_from_new names n k new within =
    false_from_ne_true _ (λ same. both_ways (is_among names n) new (list_any_at (λ m. bytes_eq m n) names k [] within same))

pub AreDistinct-nil : AreDistinct []
AreDistinct-nil i j m n before at_i at_j = absurd (omega (arith, slice_get_within [] j n at_j))

pub AreDistinct-push : (names : List (List ℕ)) (new : List ℕ) → is_among names new ≡ false → AreDistinct names → AreDistinct (names ++ new ∷ [])
AreDistinct-push names new is apart i j m n before at_i at_j =
    let longer : length (names ++ new ∷ []) ≡ length names + 1 = length_push names new in
    let j_in : j < length names + 1 = omega (arith, slice_get_within (names ++ new ∷ []) j n at_j) in
    let i_in : i < length names = omega arith in
    let i_is : get_or names i [] ≡ m = sym (get_or_append_left names (new ∷ []) [] i i_in) ∙ get_or_from_slice_get (names ++ new ∷ []) i m [] at_i in
    elim (cases_lt j (length names)) [
      | inl within ↦
          let j_is : get_or names j [] ≡ n = sym (get_or_append_left names (new ∷ []) [] j within) ∙ get_or_from_slice_get (names ++ new ∷ []) j n [] at_j in
          apart i j m n before (slice_get-get_or names i [] i_in ∙ ap Some i_is) (slice_get-get_or names j [] within ∙ ap Some j_is)
      | inr past ↦
          let n_is : new ≡ n = sym (get_or_push names new [] j (omega arith)) ∙ get_or_from_slice_get (names ++ new ∷ []) j n [] at_j in
          subst (λ (x : List ℕ). bytes_eq m x ≡ false) n_is (subst (λ (x : List ℕ). bytes_eq x new ≡ false) i_is (apart_from_new names new i is i_in))
    ]

-- a client's name is among the clients' names
pub among_names : (ds : List Declared) (p : List ℕ) → is_among (map (λ (d : Declared). d.name) ds) p ≡ list_any (λ (d : Declared). bytes_eq d.name p) ds
among_names [] p = refl
among_names (d ∷ ds) p = rw (among_names ds p) refl

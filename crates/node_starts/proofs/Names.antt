-- The names of a topic's subscriptions so far.
use Rattle.std.proofs.Common.{◌≡◌, ℕ, suc, zero, ◌+◌, List, [], ◌∷◌, ◌++◌, take, refl, sym, ◌∙◌, ap, add-one}
use Rattle.std.proofs.lemmas.List.{take_more}
use Rattle.std.proofs.lemmas.Option.{get_or_from_slice_get, none-some, slice_get_within}
use Rattle.std.specs.Prelude.{Some, None, slice_get}

pub one_name_more : {X : Type 0} (xs : List X) (i : ℕ) (x : X) → slice_get xs i ≡ Some x → take (i + 1) xs ≡ take i xs ++ x ∷ []
one_name_more xs i x at = take_more xs i x (slice_get_within xs i x at) ∙ ap (λ (y : _). take i xs ++ y ∷ []) (get_or_from_slice_get xs i x x at)

no_more : {X : Type 0} (xs : List X) (i : ℕ) → slice_get xs i ≡ None → take (suc i) xs ≡ take i xs
no_more [] zero at = refl
no_more [] (suc i) at = refl
no_more (x ∷ xs) zero at = absurd (none-some x (sym at))
no_more (x ∷ xs) (suc i) at = ap (λ ys. x ∷ ys) (no_more xs i at)

pub no_name_more : {X : Type 0} (xs : List X) (i : ℕ) → slice_get xs i ≡ None → take (i + 1) xs ≡ take i xs
no_name_more xs i at = rw add-one (no_more xs i at)

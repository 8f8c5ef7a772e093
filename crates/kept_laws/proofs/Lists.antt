-- Lists whose items fit after those before them.
use Rattle.std.proofs.Common.{◌≡◌, ℕ, zero, suc, ◌<◌, List, [], ◌∷◌, ◌++◌, length, arith, refl}
use Rattle.std.specs.Prelude.{slice_index_or}
use Rattle.std.specs.List.{AllByRecursion, sum}
use Rattle.std.proofs.lemmas.List.Sums.{sum_by-cons}
use Rattle.state_items.specs.Fitting.{AllFit}
use Rattle.world_laws.proofs.Replicating.Effects.{Each}
use Rattle.world_laws.proofs.TopicOrder.Ledgers.{total}

-- of items that need not be told apart from those before
pub fits_each : {X : Type 0} (P : X → Type 0) (Fits : List X → X → Type 0) → ((before : List X) (x : X) → P x → Fits before x) → (before xs : List X) → Each P xs → AllFit Fits before xs
fits_each P Fits k before [] h = tt
fits_each P Fits k before (x ∷ xs) h = (k before x h.0, fits_each P Fits k (before ++ x ∷ []) xs h.1)

pub each_recursion : {X : Type 0} (P : X → Type 0) (xs : List X) → AllByRecursion P xs → Each P xs
each_recursion P [] h = tt
each_recursion P (x ∷ xs) h = (h.0, each_recursion P xs h.1)

pub sum_total : (ls : List ℕ) → sum ls ≡ total ls
sum_total [] = refl
sum_total (l ∷ ls) = let h = sum_total ls in omega (arith, h, sum_by-cons (λ (x : ℕ). x) l ls)

pub at_place : {X : Type 0} (P : X → Type 0) (xs : List X) (i : ℕ) (d : X) → Each P xs → i < length xs → P (slice_index_or xs i d)
at_place P [] i d h lt = absurd (omega (arith, lt))
at_place P (x ∷ xs) zero d h lt = h.0
at_place P (x ∷ xs) (suc i) d h lt = at_place P xs i d h.1 (omega (arith, lt))

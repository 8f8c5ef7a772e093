-- The names of a topic's subscriptions are numbered from 0, and there are few.
use Rattle.std.proofs.Common.{◌≡◌, ℕ, zero, suc, ◌<◌, ◌≤◌, List, [], ◌∷◌, length, sym, arith}
use Rattle.std.proofs.lemmas.Option.{none-some, slice_get_within}
use Rattle.std.specs.Prelude.{Some, None, slice_get}
use Rattle.geo_base.specs.Scripted.{IsScripted}
use Rattle.geo_base.specs.Setup.{Setup, sub_names}

pub within : {X : Type 0} (xs : List X) (i : ℕ) (x : X) → slice_get xs i ≡ Some x → i < length xs
within xs i x at = slice_get_within xs i x at

pub past : {X : Type 0} (xs : List X) (i : ℕ) → slice_get xs i ≡ None → i < length xs → ⊥
past [] i at lt = omega (arith, lt)
past (x ∷ xs) zero at lt = none-some x (sym at)
past (x ∷ xs) (suc i) at lt = past xs i at (omega (arith, lt))

pub few : (s : Setup) (t : ℕ) → IsScripted s → length (sub_names s t) ≤ 32
few s t h = (h.of_a_topic t).1

-- Tests on numbers.
use Rattle.std.proofs.Common.{◌≡◌, ℕ, ◌<◌, true, inl, inr}
use Rattle.std.specs.Prelude.{nat_lt}
use Rattle.std.proofs.lemmas.Bool.{cases_lt, le-ltb}
pub use Rattle.geo_base.proofs.Bools.{both_true as both}

pub lt_of : (m n : ℕ) → nat_lt m n ≡ true → m < n
lt_of m n h =
    elim (cases_lt m n) [
      | inl lt ↦ lt
      | inr le ↦ absurd (let test = le-ltb m n le in cc)
    ]

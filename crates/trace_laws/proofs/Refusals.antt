-- What holds where a rule refuses nothing.
use Rattle.std.proofs.Common.{◌≡◌, ℕ, Bool, true, false, refl, sym, ap, not}
use Rattle.std.specs.Prelude.{◌||◌, Option, Some, None, Result, Ok, Err}
use Rattle.std.proofs.lemmas.Bool.{false≢true}
use Rattle.std.proofs.lemmas.Option.{none-some}
use Rattle.geo_base.specs.Audit.{Refusal, judged, unless_broken}
pub use Rattle.geo_base.proofs.Bools.{or_other as or_true}

abbrev is_accepted : {A : Type 0} → Result A Refusal → Bool
is_accepted (Ok a) = true
is_accepted (Err r) = false

pub err_ok : {A : Type 0} {rule : Refusal} {a : A} → Err rule ≡ Ok a → ⊥
err_ok h = absurd (false≢true (ap is_accepted h))

-- an accepted line is not refused, and nor is what follows it
pub accepted : {A : Type 0} (n : ℕ) (o : Option ℕ) (r : Result A Refusal) (a : A) → judged n o r ≡ Ok a → (o ≡ None) × (r ≡ Ok a)
accepted n None r a h = (refl, h)
accepted n (Some rule) r a h = absurd (err_ok h)

pub not_broken : (rule : ℕ) (b : Bool) (rest : Option ℕ) → unless_broken rule b rest ≡ None → (b ≡ true) × (rest ≡ None)
not_broken rule true rest h = (refl, h)
not_broken rule false rest h = absurd (none-some rule (sym h))

pub not_true : (a b : Bool) → (not a || b) ≡ true → a ≡ true → b ≡ true
not_true true b h e = h
not_true false b h e = absurd (false≢true e)

-- What a choice or a part gives, taken apart.
use Rattle.std.proofs.Common.{◌≡◌, ℕ, ◌≤◌, nat_le, Bool, true, false, cond, ◌&&◌, Option, Some, None, refl, subst}
use Rattle.std.specs.List.{list_all}
use Rattle.std.proofs.lemmas.Bool.{and_parts, leb-true}
use Rattle.std.proofs.lemmas.Option.{cond_some, none-some}
use Rattle.script_rows.specs.Numbers.{has_number_form, is_digit, number_from, number_of, value_from}
use Rattle.script_rows.specs.NameWords.{Word}
use Rattle.script_rows.specs.Words.{◌>>=◌}
pub use Rattle.geo_base.proofs.Bools.{cond_cases as chosen}

pub some_part : {A B : Type 0} (o : Option A) (f : A → Option B) (y : B) → (o >>= f) ≡ Some y → (x : A) × (o ≡ Some x) × (f x ≡ Some y)
some_part None f y e = absurd (none-some y e)
some_part (Some x) f y e = (x, refl, e)

pub test_passed : {A : Type 0} (b : Bool) (o : Option A) (y : A) → cond b o None ≡ Some y → (b ≡ true) × (o ≡ Some y)
test_passed true o y e = (refl, e)
test_passed false o y e = absurd (none-some y e)

pub number_small : (most : ℕ) (w : Word) (n : ℕ) → number_of most w ≡ Some n → n ≤ most
number_small most w n e =
    let after = test_passed (has_number_form w) (number_from most 0 w) n e in
    let parts = cond_some (list_all is_digit w && nat_le (value_from 0 w) most) (value_from 0 w) n after.1 in
    let small : value_from 0 w ≤ most = leb-true _ _ (and_parts (list_all is_digit w) (nat_le (value_from 0 w) most) parts.0).1 in
    subst (λ (m : ℕ). m ≤ most) parts.1 small

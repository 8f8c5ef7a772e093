-- A part of a line that has to be there, a name that is declared, and the pieces of a text.
use Rattle.std.proofs.Common.{◌≡◌, ℕ, ◌<◌, ◌==◌, Bool, true, false, List, [], length, refl, subst, arith}
use Rattle.std.specs.Prelude.{Option, Some, None, if◌then◌else◌}
use Rattle.std.specs.Str.{bytes_eq}
use Rattle.std.proofs.lemmas.List.Splits.{length-slice_split}
use Rattle.std.proofs.lemmas.Option.{none-some, same_Some}
use Rattle.script_rows.proofs.Places.{place-in}
use Rattle.script_rows.specs.NameBytes.{is_among, number_in}
use Rattle.script_rows.specs.NameWords.{Word, cut_by}
use Rattle.script_rows.specs.Words.{◌>>=◌}
use Rattle.trace_lines.specs.Words.{declared}

-- a text is cut into one piece at least
pub some_piece : (at : ℕ) (bytes : List ℕ) → 0 < length (cut_by at bytes)
some_piece at bytes = let size = length-slice_split (λ b. b == at) bytes in omega (arith, size)

-- a part that there is, and what comes of it
pub record Bound {A B : Type 0} (o : Option A) (f : A → Option B) (b : B) : Type 0 where
  pub value : A
  pub is : o ≡ Some value
  pub then_is : f value ≡ Some b

pub bound : {A B : Type 0} (o : Option A) (f : A → Option B) (b : B) → (o >>= f) ≡ Some b → Bound o f b
bound None f b h = absurd (none-some b h)
bound (Some a) f b h = record { value = a; is = refl; then_is = h }

pub declared_within : (names : List Word) (w : Word) (n : ℕ) → declared names w ≡ Some n → n < length names
declared_within names w n h = by (is_among names w) refl h
  where
    by : (b : Bool) → is_among names w ≡ b → (if b then Some (number_in names w) else None) ≡ Some n → n < length names
    by true known g =
        subst (λ (k : ℕ). k < length names) (same_Some (number_in names w) n g)
        (place-in (λ m. bytes_eq m w) names [] known)
    by false known g = absurd (none-some n g)

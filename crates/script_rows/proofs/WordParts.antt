-- What a definition by parts or by tests gives, taken apart.
use Rattle.std.proofs.Common.{◌≡◌, ℕ, ◌+◌, ◌<◌, Bool, false, ◌++◌, List, [], ◌∷◌, length, get_or, drop, Option, Some, None, option_map, find, arith, refl}
use Rattle.std.specs.List.{slice_split}
use Rattle.std.proofs.lemmas.List.{drop_more, append_assoc}
use Rattle.std.proofs.lemmas.List.Splits.{length-slice_split}
use Rattle.script_rows.specs.Columns.{pair_of}
use Rattle.script_rows.specs.Words.{◌>>=◌}
use Rattle.script_rows.specs.NameWords.{Word}

-- a search passes over an element that fails
pub found_later : {X : Type 0} (p : X → Bool) (xs : List X) (i : ℕ) (d : X) → i < length xs → p (get_or xs i d) ≡ false → find p (drop i xs) ≡ find p (drop (i + 1) xs)
found_later p xs i d within fails = rw (drop_more xs i d within, fails) refl

-- three parts are no pair
pub no_pair : (l e : Word) (ws : List Word) → 0 < length ws → pair_of (l ∷ e ∷ ws) ≡ None
no_pair l e [] some = absurd (omega arith)
no_pair l e (w ∷ ws) some = refl

-- a value that was read goes to the end of those before it
pub one_more : {X : Type 0} (xs : List X) (x : X) (rest : Option (List X)) → option_map (λ ys. xs ++ ys) (rest >>= λ ys. Some (x ∷ ys)) ≡ option_map (λ ys. (xs ++ x ∷ []) ++ ys) rest
one_more xs x None = refl
one_more xs x (Some ys) = rw (append_assoc xs (x ∷ []) ys) refl

-- there is a part
pub has_parts : (p : ℕ → Bool) (xs : List ℕ) → 0 < length (slice_split p xs)
has_parts p xs = omega (arith, length-slice_split p xs)

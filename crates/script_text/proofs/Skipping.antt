-- Lines that are read over.
use Rattle.std.proofs.Common.{◌≡◌, ℕ, zero, suc, ◌+◌, ◌≤◌, List, [], ◌∷◌, drop, arith, refl, ap, sym, ◌∙◌}
use Rattle.std.proofs.Math.Seq.{drop-nil}
use native.Mathlib.Numerals.{unary_clauses}
use Rattle.script_text.specs.Lines.{TextLine}

drop_suc : (ls : List TextLine) (n : ℕ) → drop (suc n) ls ≡ drop 1 (drop n ls)
drop_suc ls zero = refl
drop_suc [] (suc n) = refl
drop_suc (x ∷ ls) (suc n) = drop_suc ls n

pub skip_one : (ls ks : List TextLine) (l : TextLine) (n : ℕ) → drop n ls ≡ l ∷ ks → ks ≡ drop (n + 1) ls
skip_one ls ks l n e = simp unary_clauses (sym (drop_suc ls n ∙ ap (drop 1) e))

-- where none is left, none is further on
pub skip_none : (ls : List TextLine) (n m : ℕ) → n ≤ m → drop n ls ≡ [] → drop m ls ≡ []
skip_none [] n m within none = drop-nil m
skip_none (x ∷ ls) zero m within none = cc
skip_none (x ∷ ls) (suc n) zero within none = absurd (omega arith)
skip_none (x ∷ ls) (suc n) (suc m) within none = skip_none ls n m (omega arith) none

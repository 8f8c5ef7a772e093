-- An index that a position counts to is one of an entry.
use Rattle.std.proofs.Common.{◌≡◌, ℕ, ◌+◌, ◌<◌, Bool, true, false, List, [], ◌∷◌, refl, arith, subst}
use Rattle.std.specs.Prelude.{◌==◌, nat_lt, if◌then◌else◌, Option, Some, None, IfSome}
use Rattle.std.specs.List.{fold, sum}
use Rattle.std.proofs.lemmas.Bool.{ltb-true}
use Rattle.geo_base.specs.declared.position.Position.{Position}
use Rattle.geo_base.specs.Topic.{index_from, index_of}

-- what follows a number is added to it
added : (ls : List ℕ) (m : ℕ) → fold ◌+◌ m ls ≡ m + fold ◌+◌ 0 ls
added [] m = omega arith
added (l ∷ ls) m = omega (arith, added ls (m + l), added ls (0 + l))

sum_next : (l : ℕ) (ls : List ℕ) → sum (l ∷ ls) ≡ l + sum ls
sum_next l ls = omega (arith, added ls (0 + l))

within_one : (before e l rest : ℕ) (t : Bool) → nat_lt e l ≡ t → IfSome (if t then Some (before + e) else None) (λ i. i < before + (l + rest))
within_one before e l rest true h = omega (arith, ltb-true e l h)
within_one before e l rest false h = tt

more_before : (o : Option ℕ) (m n : ℕ) → m ≡ n → IfSome o (λ i. i < m) → IfSome o (λ i. i < n)
more_before o m n e h = subst (λ (k : ℕ). IfSome o (λ i. i < k)) e h

choose : (n : ℕ) (b : Bool) (x y : Option ℕ) → IfSome x (λ i. i < n) → IfSome y (λ i. i < n) → IfSome (if b then x else y) (λ i. i < n)
choose n true x y hx hy = hx
choose n false x y hx hy = hy

from_within : (ls : List ℕ) (k before : ℕ) (p : Position) → IfSome (index_from ls k before p) (λ i. i < before + sum ls)
from_within [] k before p = tt
from_within (l ∷ ls) k before p =
    more_before (index_from (l ∷ ls) k before p) (before + (l + sum ls)) (before + sum (l ∷ ls)) (omega (arith, sum_next l ls))
    (choose (before + (l + sum ls)) (p.ledger == k) (if nat_lt p.entry l then Some (before + p.entry) else None) (index_from ls (k + 1) (before + l) p)
    (within_one before p.entry l (sum ls) (nat_lt p.entry l) refl)
    (more_before (index_from ls (k + 1) (before + l) p) (before + l + sum ls) (before + (l + sum ls)) (omega arith) (from_within ls (k + 1) (before + l) p)))

pub index_within : (ls : List ℕ) (n : ℕ) (p : Position) (o : Option ℕ) → sum ls ≡ n → o ≡ index_of ls p → IfSome o (λ i. i < n)
index_within ls n p o counted is = rw is (more_before (index_of ls p) (0 + sum ls) n (omega (arith, counted)) (from_within ls 0 0 p))

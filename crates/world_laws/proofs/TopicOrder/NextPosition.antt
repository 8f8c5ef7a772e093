-- Where the next entry goes: a position that nothing stands at yet, and that is its own once it is appended. And positions that
-- are stored are ordered as their indexes.
use Rattle.std.proofs.Common.{◌≡◌, ℕ, suc, ◌+◌, ◌-◌, ◌<◌, ◌≤◌, Bool, true, false, List, [], ◌∷◌, length, refl, sym, ap, ◌∙◌, ◌==◌, arith}
use Rattle.std.specs.Prelude.{Some, None, if◌then◌else◌, nat_lt, slice_index}
use Rattle.std.proofs.lemmas.Bool.{eq-eqb, eqb-true, false≢true}
use Rattle.std.proofs.lemmas.Bool.Decides.{nat_tests}
use Rattle.std.proofs.lemmas.Option.{none-some, same_Some}
use Rattle.world_laws.proofs.Types.{Position}
use Rattle.geo_base.specs.Position.{position_le}
use Rattle.geo_base.specs.Topic.{grown, index_from, index_of, last_length, next_position}
use Rattle.world_laws.proofs.TopicOrder.Ledgers.{found, grown_is, one_more, total}
use Rattle.world_laws.proofs.Walks.Walk.{on_if}

abbrev position : ℕ → ℕ → Position
position l e = record { ledger = l; entry = e }

-- the next position by recursion to the last ledger, the first of them being ledger k
abbrev next_from : ℕ → ℕ → List ℕ → Position
next_from per k [] = position k 0
next_from per k (l ∷ []) = if nat_lt l per then position k l else position (k + 1) 0
next_from per k (l ∷ m ∷ ls) = next_from per (k + 1) (m ∷ ls)

abbrev next_at : ℕ → ℕ → List ℕ → Position
next_at per k ls =
    if nat_lt (last_length ls) per then position (k + (length ls - 1)) (last_length ls) else position (k + length ls) 0

next_same : (per k : ℕ) (ls : List ℕ) → 0 < length ls → next_at per k ls ≡ next_from per k ls
next_same per k [] lt = absurd (omega (arith, lt))
next_same per k (l ∷ []) lt = two (nat_lt l per)
  where
    two : (b : Bool) → (if b then position (k + (length (l ∷ []) - 1)) l else position (k + length (l ∷ [])) 0)
        ≡ (if b then position k l else position (k + 1) 0)
    two true = let e : k + (length (l ∷ []) - 1) ≡ k = omega arith in λ i. position (e i) l
    two false = let e : k + length (l ∷ []) ≡ k + 1 = omega arith in λ i. position (e i) 0
next_same per k (l ∷ m ∷ ls) lt = two (last_length (l ∷ m ∷ ls)) (last_length (m ∷ ls)) same ∙ next_same per (k + 1) (m ∷ ls) (omega arith)
  where
    same : last_length (l ∷ m ∷ ls) ≡ last_length (m ∷ ls)
    same = let e : length (l ∷ m ∷ ls) - 1 ≡ suc (length (m ∷ ls) - 1) = omega arith in ap (slice_index (l ∷ m ∷ ls)) e

    two : (a b : ℕ) → a ≡ b
        → (if nat_lt a per then position (k + (length (l ∷ m ∷ ls) - 1)) a else position (k + length (l ∷ m ∷ ls)) 0)
        ≡ (if nat_lt b per then position ((k + 1) + (length (m ∷ ls) - 1)) b else position ((k + 1) + length (m ∷ ls)) 0)
    two a b is =
        let x : k + (length (l ∷ m ∷ ls) - 1) ≡ (k + 1) + (length (m ∷ ls) - 1) = omega arith in
        let y : k + length (l ∷ m ∷ ls) ≡ (k + 1) + length (m ∷ ls) = omega arith in
        λ i. if nat_lt (is i) per then position (x i) (is i) else position (y i) 0

next_is : (per : ℕ) (ls : List ℕ) → 0 < length ls → next_position per ls ≡ next_from per 0 ls
next_is per ls lt =
    let x : length ls - 1 ≡ 0 + (length ls - 1) = omega arith in
    let y : length ls ≡ 0 + length ls = omega arith in
    let whole : next_position per ls ≡ next_at per 0 ls =
    (λ i. if nat_lt (last_length ls) per then position (x i) (last_length ls) else position (y i) 0) in
    whole ∙ next_same per 0 ls lt

next_after : (per k : ℕ) (ls : List ℕ) → k ≤ (next_from per k ls).ledger
next_after per k [] = omega arith
next_after per k (l ∷ []) = on_if (λ (p : Position). k ≤ p.ledger) (nat_lt l per) _ _ (omega arith) (omega arith)
next_after per k (l ∷ m ∷ ls) = let h = next_after per (k + 1) (m ∷ ls) in omega (arith, h)

here : (l k before : ℕ) (ls : List ℕ) (e : ℕ) → index_from (l ∷ ls) k before (position k e) ≡ (if nat_lt e l then Some (before + e) else None)
here l k before ls e =
    ap (λ (b : Bool). if b then (if nat_lt e l then Some (before + e) else None) else index_from ls (k + 1) (before + l) (position k e)) (eq-eqb k k refl)

later : (l k before : ℕ) (ls : List ℕ) (p : Position) → k + 1 ≤ p.ledger → index_from (l ∷ ls) k before p ≡ index_from ls (k + 1) (before + l) p
later l k before ls p le =
    let other : (p.ledger == k) ≡ false = grind (arith, nat_tests, le) in
    ap (λ (b : Bool). if b then (if nat_lt p.entry l then Some (before + p.entry) else None) else index_from ls (k + 1) (before + l) p) other

stands_from : (per : ℕ) (ls : List ℕ) (k before : ℕ) → 0 < length ls → index_from (one_more per ls) k before (next_from per k ls) ≡ Some (before + total ls)
stands_from per [] k before lt = absurd (omega (arith, lt))
stands_from per (l ∷ []) k before lt = two (nat_lt l per)
  where
    two : (b : Bool) → index_from (if b then (l + 1) ∷ [] else l ∷ 1 ∷ []) k before (if b then position k l else position (k + 1) 0)
        ≡ Some (before + total (l ∷ []))
    two true =
        let lt' : nat_lt l (l + 1) ≡ true = grind (arith, nat_tests) in
        let e : before + l ≡ before + total (l ∷ []) = omega arith in
        here (l + 1) k before [] l ∙ ap (λ (b : Bool). if b then Some (before + l) else None) lt' ∙ ap (λ (n : ℕ). Some n) e
    two false =
        let e : before + l + 0 ≡ before + total (l ∷ []) = omega arith in
        later l k before (1 ∷ []) (position (k + 1) 0) (omega arith) ∙ here 1 (k + 1) (before + l) [] 0 ∙ ap (λ (n : ℕ). Some n) e
stands_from per (l ∷ m ∷ ls) k before lt =
    let e : before + l + total (m ∷ ls) ≡ before + total (l ∷ m ∷ ls) = omega arith in
    later l k before (one_more per (m ∷ ls)) (next_from per (k + 1) (m ∷ ls)) (next_after per (k + 1) (m ∷ ls))
    ∙ stands_from per (m ∷ ls) (k + 1) (before + l) (omega arith) ∙ ap (λ (n : ℕ). Some n) e

-- an appended entry stands at the position that was next
pub next_stands : (per : ℕ) (ls : List ℕ) → 0 < length ls → index_of (grown per ls) (next_position per ls) ≡ Some (total ls)
next_stands per ls lt =
    let e : 0 + total ls ≡ total ls = omega arith in
    ap (index_of (grown per ls)) (next_is per ls lt) ∙ ap (λ (r : List ℕ). index_of r (next_from per 0 ls)) (grown_is per ls lt)
    ∙ stands_from per ls 0 0 lt ∙ ap (λ (n : ℕ). Some n) e

unused_from : (per : ℕ) (ls : List ℕ) (k before : ℕ) → 0 < length ls → index_from ls k before (next_from per k ls) ≡ None
unused_from per [] k before lt = refl
unused_from per (l ∷ []) k before lt = two (nat_lt l per)
  where
    two : (b : Bool) → index_from (l ∷ []) k before (if b then position k l else position (k + 1) 0) ≡ None
    two true =
        let no : nat_lt l l ≡ false = grind (arith, nat_tests) in
        here l k before [] l ∙ ap (λ (b : Bool). if b then Some (before + l) else None) no
    two false = later l k before [] (position (k + 1) 0) (omega arith)
unused_from per (l ∷ m ∷ ls) k before lt =
    later l k before (m ∷ ls) (next_from per (k + 1) (m ∷ ls)) (next_after per (k + 1) (m ∷ ls)) ∙ unused_from per (m ∷ ls) (k + 1) (before + l) (omega arith)

-- and nothing stood there before
pub next_unused : (per : ℕ) (ls : List ℕ) → 0 < length ls → index_of ls (next_position per ls) ≡ None
next_unused per ls lt = ap (index_of ls) (next_is per ls lt) ∙ unused_from per ls 0 0 lt

le_from : (ls : List ℕ) (k before : ℕ) (p q : Position) (i j : ℕ) → index_from ls k before p ≡ Some i → index_from ls k before q ≡ Some j → position_le p q ≡ true → i ≤ j
le_from [] k before p q i j at_p at_q le = absurd (none-some i at_p)
le_from (l ∷ ls) k before p q i j at_p at_q le =
    go (p.ledger == k) (q.ledger == k) refl refl at_p at_q (λ g h. le_from ls (k + 1) (before + l) p q i j g h le)
  where
    within : (u : Bool) (n m : ℕ) → (if u then Some n else None) ≡ Some m → (n ≡ m) × (u ≡ true)
    within true n m h = (same_Some _ _ h, refl)
    within false n m h = absurd (none-some m h)

    go : (t u : Bool) → (p.ledger == k) ≡ t → (q.ledger == k) ≡ u
        → (if t then (if nat_lt p.entry l then Some (before + p.entry) else None) else index_from ls (k + 1) (before + l) p) ≡ Some i
        → (if u then (if nat_lt q.entry l then Some (before + q.entry) else None) else index_from ls (k + 1) (before + l) q) ≡ Some j
        → (index_from ls (k + 1) (before + l) p ≡ Some i → index_from ls (k + 1) (before + l) q ≡ Some j → i ≤ j) → i ≤ j
    go true true e f g h rest =
        let a = within (nat_lt p.entry l) (before + p.entry) i g in let b = within (nat_lt q.entry l) (before + q.entry) j h in
        let m : p.ledger ≡ k = eqb-true _ _ e in let n : q.ledger ≡ k = eqb-true _ _ f in
        let s = a.0 in let t = b.0 in
        let o : p.entry ≤ q.entry = grind (arith, nat_tests, le, m, n) in
        omega (arith, o, s, t)
    go true false e f g h rest =
        let a = within (nat_lt p.entry l) (before + p.entry) i g in let s = a.0 in
        let lt : p.entry < l = let r = a.1 in grind (arith, nat_tests, r) in
        let after = (found ls (k + 1) (before + l) q j h).after in
        omega (arith, s, lt, after)
    go false true e f g h rest =
        let first = (found ls (k + 1) (before + l) p i g).first in
        let n : q.ledger ≡ k = eqb-true _ _ f in
        let no : position_le p q ≡ false = grind (arith, nat_tests, first, n) in
        absurd (false≢true (sym no ∙ le))
    go false false e f g h rest = rest g h

-- what stands at a position that is not after another one stands at the same index or before it
pub le_index : (ls : List ℕ) (p q : Position) (i j : ℕ) → index_of ls p ≡ Some i → index_of ls q ≡ Some j → position_le p q ≡ true → i ≤ j
le_index ls p q i j at_p at_q le = le_from ls 0 0 p q i j at_p at_q le

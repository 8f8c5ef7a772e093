-- Positions and indexes: the position of a stored index counts to that index, and stays its position whatever is appended.
use Rattle.std.proofs.Common.{◌≡◌, ℕ, suc, ◌+◌, ◌-◌, ◌<◌, ◌≤◌, Bool, true, false, List, [], ◌∷◌, ◌++◌, length, refl, sym, ap, subst, ◌∙◌, ◌==◌, arith}
use Rattle.std.specs.Prelude.{Option, Some, None, if◌then◌else◌, nat_lt, slice_index, slice_set}
use Rattle.std.proofs.lemmas.Bool.{eq-eqb, eqb-true}
use Rattle.std.proofs.lemmas.Bool.Decides.{nat_tests}
use Rattle.std.proofs.lemmas.Option.{none-some, same_Some}
use Rattle.world_laws.proofs.Types.{Position}
use Rattle.geo_base.specs.Topic.{grown, index_from, index_of, last_length, or_first, position_at, position_from}
use Rattle.world_laws.proofs.Walks.Walk.{on_if}

-- how many entries ledgers have together
abbrev pub total : List ℕ → ℕ
total [] = 0
total (l ∷ ls) = l + total ls

-- the ledgers after one more entry, by recursion to the last one
abbrev pub one_more : ℕ → List ℕ → List ℕ
one_more per [] = 1 ∷ []
one_more per (l ∷ []) = if nat_lt l per then (l + 1) ∷ [] else l ∷ 1 ∷ []
one_more per (l ∷ m ∷ ls) = l ∷ one_more per (m ∷ ls)

below_first : (b : Bool) (l : ℕ) (xs ys : List ℕ) → (if b then l ∷ xs else l ∷ ys) ≡ l ∷ (if b then xs else ys)
below_first true l xs ys = refl
below_first false l xs ys = refl

pub grown_is : (per : ℕ) (ls : List ℕ) → 0 < length ls → grown per ls ≡ one_more per ls
grown_is per [] lt = absurd (omega (arith, lt))
grown_is per (l ∷ []) lt = refl
grown_is per (l ∷ m ∷ ls) lt =
    let back : length (l ∷ m ∷ ls) - 1 ≡ suc (length (m ∷ ls) - 1) = omega arith in
    let P : ℕ → Type 0 = λ k.
    (if nat_lt (slice_index (l ∷ m ∷ ls) k) per then slice_set (l ∷ m ∷ ls) k (slice_index (l ∷ m ∷ ls) k + 1) else (l ∷ m ∷ ls) ++ 1 ∷ []) ≡ l ∷ one_more per (m ∷ ls) in
    let h : P (suc (length (m ∷ ls) - 1)) =
    below_first (nat_lt (last_length (m ∷ ls)) per) l (slice_set (m ∷ ls) (length (m ∷ ls) - 1) (last_length (m ∷ ls) + 1)) ((m ∷ ls) ++ 1 ∷ [])
    ∙ ap (λ (r : List ℕ). l ∷ r) (grown_is per (m ∷ ls) (omega arith)) in
    subst P (sym back) h

total_more : (per : ℕ) (ls : List ℕ) → total (one_more per ls) ≡ total ls + 1
total_more per [] = refl
total_more per (l ∷ []) = on_if (λ (r : List ℕ). total r ≡ total (l ∷ []) + 1) (nat_lt l per) _ _ (omega arith) (omega arith)
total_more per (l ∷ m ∷ ls) = let h = total_more per (m ∷ ls) in omega (arith, h)

pub total_grown : (per : ℕ) (ls : List ℕ) → 0 < length ls → total (grown per ls) ≡ total ls + 1
total_grown per ls lt = ap total (grown_is per ls lt) ∙ total_more per ls

more_some : (per : ℕ) (ls : List ℕ) → 0 < length (one_more per ls)
more_some per [] = omega arith
more_some per (l ∷ []) = on_if (λ (r : List ℕ). 0 < length r) (nat_lt l per) _ _ (omega arith) (omega arith)
more_some per (l ∷ m ∷ ls) = omega arith

pub grown_some : (per : ℕ) (ls : List ℕ) → 0 < length ls → 0 < length (grown per ls)
grown_some per ls lt = subst (λ (r : List ℕ). 0 < length r) (sym (grown_is per ls lt)) (more_some per ls)

pub total_opened : (ls : List ℕ) → total (ls ++ 0 ∷ []) ≡ total ls
total_opened [] = refl
total_opened (l ∷ ls) = ap (λ (n : ℕ). l + n) (total_opened ls)

-- a stored position keeps its index where a test goes the same way or never finds anything
by_ledger : (t : Bool) (a a' b b' : Option ℕ) (i : ℕ) → (a ≡ Some i → a' ≡ Some i) → (b ≡ Some i → b' ≡ Some i) → (if t then a else b) ≡ Some i
    → (if t then a' else b') ≡ Some i
by_ledger true a a' b b' i f g h = f h
by_ledger false a a' b b' i f g h = g h

wider : (t u : Bool) (n i : ℕ) → (t ≡ true → u ≡ true) → (if t then Some n else None) ≡ Some i → (if u then Some n else None) ≡ Some i
wider true u n i f h = subst (λ (b : Bool). (if b then Some n else None) ≡ Some i) (sym (f refl)) h
wider false u n i f h = absurd (none-some i h)

still_more : (per : ℕ) (ls : List ℕ) (k before : ℕ) (p : Position) (i : ℕ) → index_from ls k before p ≡ Some i → index_from (one_more per ls) k before p ≡ Some i
still_more per [] k before p i h = absurd (none-some i h)
still_more per (l ∷ []) k before p i h =
    on_if (λ (r : List ℕ). index_from r k before p ≡ Some i) (nat_lt l per) _ _
    (by_ledger (p.ledger == k) _ _ _ _ i (wider (nat_lt p.entry l) (nat_lt p.entry (l + 1)) (before + p.entry) i (λ lt. grind (arith, nat_tests, lt))) (λ g. g) h)
    (by_ledger (p.ledger == k) _ _ _ _ i (λ g. g) (λ g. absurd (none-some i g)) h)
still_more per (l ∷ m ∷ ls) k before p i h = by_ledger (p.ledger == k) _ _ _ _ i (λ g. g) (still_more per (m ∷ ls) (k + 1) (before + l) p i) h

-- a stored position stays where it is when an entry is appended
pub still_grown : (per : ℕ) (ls : List ℕ) (p : Position) (i : ℕ) → 0 < length ls → index_of ls p ≡ Some i → index_of (grown per ls) p ≡ Some i
still_grown per ls p i lt h = subst (λ (r : List ℕ). index_of r p ≡ Some i) (sym (grown_is per ls lt)) (still_more per ls 0 0 p i h)

still_after : (ls more : List ℕ) (k before : ℕ) (p : Position) (i : ℕ) → index_from ls k before p ≡ Some i → index_from (ls ++ more) k before p ≡ Some i
still_after [] more k before p i h = absurd (none-some i h)
still_after (l ∷ ls) more k before p i h = by_ledger (p.ledger == k) _ _ _ _ i (λ g. g) (still_after ls more (k + 1) (before + l) p i) h

-- and when a ledger is opened
pub still_opened : (ls : List ℕ) (p : Position) (i : ℕ) → index_of ls p ≡ Some i → index_of (ls ++ 0 ∷ []) p ≡ Some i
still_opened ls p i h = still_after ls (0 ∷ []) 0 0 p i h

pub opened_some : (ls : List ℕ) → 0 < length (ls ++ 0 ∷ [])
opened_some [] = omega arith
opened_some (l ∷ ls) = omega arith

-- the position of an index is in the first ledger or after it
position_after : (ls : List ℕ) (k i : ℕ) → i < total ls → k ≤ (or_first (position_from ls k i)).ledger
position_after [] k i lt = absurd (omega (arith, lt))
position_after (l ∷ ls) k i lt = go (nat_lt i l) refl (position_after ls (k + 1) (i - l))
  where
    go : (t : Bool) → nat_lt i l ≡ t → (i - l < total ls → k + 1 ≤ (or_first (position_from ls (k + 1) (i - l))).ledger)
        → k ≤ (or_first (if t then Some (record { ledger = k; entry = i }) else position_from ls (k + 1) (i - l))).ledger
    go true e ih = omega arith
    go false e ih =
        let le : l ≤ i = grind (arith, nat_tests, e) in
        let h = ih (omega (arith, le, lt)) in omega (arith, h)

at_from : (ls : List ℕ) (k before i : ℕ) → i < total ls → index_from ls k before (or_first (position_from ls k i)) ≡ Some (before + i)
at_from [] k before i lt = absurd (omega (arith, lt))
at_from (l ∷ ls) k before i lt = go (nat_lt i l) refl (at_from ls (k + 1) (before + l) (i - l))
  where
    go : (t : Bool) → nat_lt i l ≡ t
        → (i - l < total ls → index_from ls (k + 1) (before + l) (or_first (position_from ls (k + 1) (i - l))) ≡ Some (before + l + (i - l)))
        → index_from (l ∷ ls) k before (or_first (if t then Some (record { ledger = k; entry = i }) else position_from ls (k + 1) (i - l))) ≡ Some (before + i)
    go true e ih =
        ap (λ (b : Bool). if b then (if nat_lt i l then Some (before + i) else None) else index_from ls (k + 1) (before + l) (record { ledger = k; entry = i })) (eq-eqb k k refl)
        ∙ ap (λ (b : Bool). if b then Some (before + i) else None) e
    go false e ih =
        let p = or_first (position_from ls (k + 1) (i - l)) in
        let le : l ≤ i = grind (arith, nat_tests, e) in
        let in_rest : i - l < total ls = omega (arith, le, lt) in
        let behind = position_after ls (k + 1) (i - l) in_rest in
        let other : (p.ledger == k) ≡ false = grind (arith, nat_tests, behind) in
        let back : before + l + (i - l) ≡ before + i = omega (arith, le) in
        ap (λ (b : Bool). if b then (if nat_lt p.entry l then Some (before + p.entry) else None) else index_from ls (k + 1) (before + l) p) other
        ∙ ih in_rest ∙ ap (λ (n : ℕ). Some n) back

-- the position of a stored index counts to it
pub at_index : (ls : List ℕ) (i : ℕ) → i < total ls → index_of ls (position_at ls i) ≡ Some i
at_index ls i lt = let e : 0 + i ≡ i = omega arith in at_from ls 0 0 i lt ∙ ap (λ (n : ℕ). Some n) e

-- what a position that is stored tells
pub record Found (ls : List ℕ) (k before : ℕ) (p : Position) (i : ℕ) : Type 0 where
  pub after : before ≤ i
  pub within : i < before + total ls
  pub first : k ≤ p.ledger
  pub last : p.ledger < k + length ls
  pub entry : before + p.entry ≤ i
  pub is : or_first (position_from ls k (i - before)) ≡ p

pub found : (ls : List ℕ) (k before : ℕ) (p : Position) (i : ℕ) → index_from ls k before p ≡ Some i → Found ls k before p i
found [] k before p i h = absurd (none-some i h)
found (l ∷ ls) k before p i h = go (p.ledger == k) refl h (found ls (k + 1) (before + l) p i)
  where
    here : (p.ledger == k) ≡ true → (u : Bool) → nat_lt p.entry l ≡ u → (if u then Some (before + p.entry) else None) ≡ Some i → Found (l ∷ ls) k before p i
    here e true f g =
        let at : before + p.entry ≡ i = same_Some _ _ g in
        let of : p.ledger ≡ k = eqb-true _ _ e in
        let lt : p.entry < l = grind (arith, nat_tests, f) in
        let back : i - before ≡ p.entry = omega (arith, at) in
        let is : nat_lt (i - before) l ≡ true = ap (λ (n : ℕ). nat_lt n l) back ∙ f in
        record {
          after = omega (arith, at);
          within = omega (arith, at, lt);
          first = omega (arith, of);
          last = omega (arith, of);
          entry = omega (arith, at);
          is = ap (λ (b : Bool). or_first (if b then Some (record { ledger = k; entry = i - before }) else position_from ls (k + 1) (i - before - l))) is
              ∙ (λ j. record { ledger = sym of j; entry = back j });
        }
    here e false f g = absurd (none-some i g)

    go : (t : Bool) → (p.ledger == k) ≡ t → (if t then (if nat_lt p.entry l then Some (before + p.entry) else None) else index_from ls (k + 1) (before + l) p) ≡ Some i
        → (index_from ls (k + 1) (before + l) p ≡ Some i → Found ls (k + 1) (before + l) p i) → Found (l ∷ ls) k before p i
    go true e g ih = here e (nat_lt p.entry l) refl g
    go false e g ih =
        let r = ih g in
        let after = r.after in let within = r.within in let first = r.first in let last = r.last in let entry = r.entry in
        let other : nat_lt (i - before) l ≡ false = grind (arith, nat_tests, after) in
        let back : i - before - l ≡ i - (before + l) = omega arith in
        record {
          after = omega (arith, after);
          within = omega (arith, within);
          first = omega (arith, first);
          last = omega (arith, last);
          entry = omega (arith, entry);
          is = ap (λ (b : Bool). or_first (if b then Some (record { ledger = k; entry = i - before }) else position_from ls (k + 1) (i - before - l))) other
              ∙ ap (λ (n : ℕ). or_first (position_from ls (k + 1) n)) back ∙ r.is;
        }

-- a stored position is that of its index, and stands below the end
pub of_index : (ls : List ℕ) (p : Position) (i : ℕ) → index_of ls p ≡ Some i → Found ls 0 0 p i
of_index ls p i h = found ls 0 0 p i h

pub position_is : (ls : List ℕ) (p : Position) (i : ℕ) → index_of ls p ≡ Some i → position_at ls i ≡ p
position_is ls p i h =
    let back : i - 0 ≡ i = omega arith in
    subst (λ (n : ℕ). or_first (position_from ls 0 n) ≡ p) back (of_index ls p i h).is

-- Lengths, positions and indexes read from the first index of each ledger.
use Rattle.std.proofs.Common.{◌≡◌, ◌∙◌, ℕ, zero, suc, ◌+◌, ◌-◌, ◌<◌, ◌≤◌, nat_lt, ◌==◌, Bool, true, false, List, [], ◌∷◌, ◌++◌, length, get_or, set, refl, ap, sym, arith}
use Rattle.std.specs.Prelude.{Option, Some, None, if◌then◌else◌}
use Rattle.std.specs.List.{sum}
use Rattle.std.proofs.lemmas.List.{get_or_default, get_or_past, get_or_append_left, get_or_push, length_push}
use Rattle.std.proofs.lemmas.List.Sums.{sum_by-cons}
use Rattle.std.proofs.lemmas.Bool.Decides.{nat_tests}
use Rattle.geo_base.specs.declared.position.Position.{Position}
use Rattle.geo_base.specs.Topic.{index_from, last_length, position_from}
use Rattle.topic_store.specs.Firsts.{lengths_of, AreFirsts, Rising}

abbrev pub place : ℕ → ℕ → Position
place ledger entry = record { ledger = ledger; entry = entry }

-- how many ledgers there are, and how long each is

pub count_of_lengths : (fs : List ℕ) (n : ℕ) → length (lengths_of fs n) ≡ length fs
count_of_lengths [] n = refl
count_of_lengths (f ∷ fs) n = ap suc (count_of_lengths fs n)

pub length_at : (fs : List ℕ) (n k : ℕ) → k < length fs → get_or (lengths_of fs n) k 0 ≡ get_or fs (suc k) n - get_or fs k 0
length_at [] n k h = absurd (omega arith)
length_at (f ∷ fs) n zero h = refl
length_at (f ∷ fs) n (suc k) h = length_at fs n k (omega arith)

last_at : (fs : List ℕ) (n k : ℕ) → k + 1 ≡ length fs → get_or (lengths_of fs n) k 0 ≡ n - get_or fs k 0
last_at fs n k h =
    length_at fs n k (omega arith) ∙ ap (λ m. m - get_or fs k 0) (get_or_past fs (suc k) n (omega arith))

pub last_of_lengths : (fs : List ℕ) (n : ℕ) → 0 < length fs → last_length (lengths_of fs n) ≡ n - get_or fs (length fs - 1) 0
last_of_lengths fs n h =
    ap (λ k. get_or (lengths_of fs n) (k - 1) 0) (count_of_lengths fs n) ∙ last_at fs n (length fs - 1) (omega arith)

-- the ledgers after one more entry, and after one more ledger

pub lengths_pushed : (fs : List ℕ) (n m : ℕ) → lengths_of (fs ++ n ∷ []) m ≡ lengths_of fs n ++ (m - n) ∷ []
lengths_pushed [] n m = refl
lengths_pushed (f ∷ []) n m = refl
lengths_pushed (f ∷ g ∷ gs) n m = ap (λ ls. (g - f) ∷ ls) (lengths_pushed (g ∷ gs) n m)

more_at : (fs : List ℕ) (n k : ℕ) → k + 1 ≡ length fs → get_or fs k 0 ≤ n → lengths_of fs (n + 1) ≡ set (lengths_of fs n) k (get_or (lengths_of fs n) k 0 + 1)
more_at [] n k h l = absurd (omega arith)
more_at (f ∷ []) n zero h l =
    let low : f ≤ n = l in
    let one : n + 1 - f ≡ n - f + 1 = omega arith in
    ap (λ (m : ℕ). m ∷ []) one
more_at (f ∷ []) n (suc k) h l = absurd (omega arith)
more_at (f ∷ g ∷ gs) n zero h l = absurd (omega arith)
more_at (f ∷ g ∷ gs) n (suc k) h l = ap (λ ls. (g - f) ∷ ls) (more_at (g ∷ gs) n k (omega arith) l)

pub lengths_raised : (fs : List ℕ) (n : ℕ) → AreFirsts fs n → lengths_of fs (n + 1) ≡ set (lengths_of fs n) (length (lengths_of fs n) - 1) (last_length (lengths_of fs n) + 1)
lengths_raised fs n a =
    let o : 0 < length fs = a.opened in
    let k : length fs - 1 < length fs = omega arith in
    rw (count_of_lengths fs n) (more_at fs n (length fs - 1) (omega arith) (a.rising.within (length fs - 1) k))

-- first indexes stay first indexes

pub rising_more : (fs : List ℕ) (n m : ℕ) → n ≤ m → AreFirsts fs n → AreFirsts fs m
rising_more fs n m h a = record {
  opened = a.opened;
  begun = a.begun;
  rising = record {
    rise = a.rising.rise;
    within = λ i l. let w = a.rising.within i l in omega arith;
  };
}

at_push : (fs : List ℕ) (n i : ℕ) → i < length fs → get_or (fs ++ n ∷ []) i 0 ≡ get_or fs i 0
at_push fs n i h = get_or_append_left fs (n ∷ []) 0 i h

is_last : (fs : List ℕ) (n i : ℕ) → length fs ≤ i → i < length (fs ++ n ∷ []) → i ≡ length fs
is_last fs n i low high = omega (arith, length_push fs n)

within_at : (fs : List ℕ) (n i : ℕ) (b : Bool) → nat_lt i (length fs) ≡ b → Rising fs n → i < length (fs ++ n ∷ []) → get_or (fs ++ n ∷ []) i 0 ≤ n
within_at fs n i true e r h =
    let k : i < length fs = grind (arith, nat_tests) in
    omega (arith, at_push fs n i k, r.within i k)
within_at fs n i false e r h =
    let k : length fs ≤ i = grind (arith, nat_tests) in
    omega (arith, get_or_push fs n 0 i (sym (is_last fs n i k h)))

pub within_push : (fs : List ℕ) (n i : ℕ) → Rising fs n → i < length (fs ++ n ∷ []) → get_or (fs ++ n ∷ []) i 0 ≤ n
within_push fs n i r h = within_at fs n i (nat_lt i (length fs)) refl r h

rise_at : (fs : List ℕ) (n i j : ℕ) (b : Bool) → nat_lt j (length fs) ≡ b → Rising fs n → i ≤ j → j < length (fs ++ n ∷ []) → get_or (fs ++ n ∷ []) i 0 ≤ get_or (fs ++ n ∷ []) j 0
rise_at fs n i j true e r l h =
    let k : j < length fs = grind (arith, nat_tests) in
    omega (arith, at_push fs n i (omega arith), at_push fs n j k, r.rise i j l k)
rise_at fs n i j false e r l h =
    let k : length fs ≤ j = grind (arith, nat_tests) in
    omega (arith, get_or_push fs n 0 j (sym (is_last fs n j k h)), within_push fs n i r (omega arith))

pub rise_push : (fs : List ℕ) (n i j : ℕ) → Rising fs n → i ≤ j → j < length (fs ++ n ∷ []) → get_or (fs ++ n ∷ []) i 0 ≤ get_or (fs ++ n ∷ []) j 0
rise_push fs n i j r l h = rise_at fs n i j (nat_lt j (length fs)) refl r l h

pub firsts_push : (fs : List ℕ) (n : ℕ) → AreFirsts fs n → AreFirsts (fs ++ n ∷ []) n
firsts_push fs n a = record {
  opened = omega (arith, length_push fs n);
  begun = at_push fs n 0 a.opened ∙ a.begun;
  rising = record {
    rise = λ i j l h. rise_push fs n i j a.rising l h;
    within = λ i h. within_push fs n i a.rising h;
  };
}

-- of the ledgers after the first one

rising_tail : (f : ℕ) (fs : List ℕ) (n : ℕ) → Rising (f ∷ fs) n → Rising fs n
rising_tail f fs n r = record {
  rise = λ i j l h. r.rise (suc i) (suc j) (omega arith) (omega arith);
  within = λ i h. r.within (suc i) (omega arith);
}

-- where the next ledger begins

next_from : (f : ℕ) (fs : List ℕ) (n : ℕ) → Rising (f ∷ fs) n → f ≤ get_or fs 0 n
next_from f [] n r = r.within 0 (omega arith)
next_from f (g ∷ gs) n r = r.rise 0 1 (omega arith) (omega arith)

next_within : (f : ℕ) (fs : List ℕ) (n : ℕ) → Rising (f ∷ fs) n → get_or fs 0 n ≤ n
next_within f [] n r = omega arith
next_within f (g ∷ gs) n r = r.within 1 (omega arith)

next_default : (fs : List ℕ) (n q : ℕ) → q < length fs → get_or fs 0 n ≡ get_or fs 0 0
next_default fs n q h = get_or_default fs 0 n 0 (omega arith)

-- the position of an index

skip_left : (i f g : ℕ) → f ≤ g → g ≤ i → i - f - (g - f) ≡ i - g
skip_left i f g h k = omega arith

reaches : (i f g : ℕ) → f ≤ i → i < g → nat_lt (i - f) (g - f) ≡ true
reaches i f g h k = let l : i - f < g - f = omega arith in grind (arith, nat_tests)

stops_before : (i f g : ℕ) → g ≤ i → nat_lt (i - f) (g - f) ≡ false
stops_before i f g h = let l : g - f ≤ i - f = omega arith in grind (arith, nat_tests)

pub position_in : (fs : List ℕ) (n k p i : ℕ) → Rising fs n → p < length fs → get_or fs p 0 ≤ i → i < get_or fs (suc p) n → position_from (lengths_of fs n) k (i - get_or fs 0 0) ≡ Some (place (k + p) (i - get_or fs p 0))
position_in [] n k p i r h b e = absurd (omega arith)
position_in (f ∷ fs) n k zero i r h b e =
    let here : k ≡ k + zero = omega arith in
    rw (reaches i f (get_or fs 0 n) b e) (ap (λ (m : ℕ). Some (place m (i - f))) here)
position_in (f ∷ fs) n k (suc q) i r h b e =
    let below : q < length fs = omega arith in
    let g : get_or fs 0 n ≡ get_or fs 0 0 = next_default fs n q below in
    let s = rising_tail f fs n r in
    let up : get_or fs 0 0 ≤ get_or fs q 0 = s.rise 0 q (omega arith) below in
    let begun : get_or fs q 0 ≤ i = b in
    let low : f ≤ get_or fs 0 n = next_from f fs n r in
    let high : get_or fs 0 n ≤ i = omega arith in
    let left : i - f - (get_or fs 0 n - f) ≡ i - get_or fs 0 0 = skip_left i f (get_or fs 0 n) low high ∙ ap (λ (m : ℕ). i - m) g in
    let there : k + 1 + q ≡ k + suc q = omega arith in
    rw (stops_before i f (get_or fs 0 n) high) (
    ap (λ (m : ℕ). position_from (lengths_of fs n) (k + 1) m) left
    ∙ position_in fs n (k + 1) q i s below begun e
    ∙ ap (λ (m : ℕ). Some (place m (i - get_or fs q 0))) there)

pub position_past : (fs : List ℕ) (n k i : ℕ) → Rising fs n → n ≤ i → position_from (lengths_of fs n) k (i - get_or fs 0 0) ≡ None
position_past [] n k i r h = refl
position_past (f ∷ []) n k i r h = rw (stops_before i f n h) refl
position_past (f ∷ g ∷ gs) n k i r h =
    let low : f ≤ g = next_from f (g ∷ gs) n r in
    let within : g ≤ n = next_within f (g ∷ gs) n r in
    let high : g ≤ i = omega arith in
    rw (stops_before i f g high) (
    ap (λ (m : ℕ). position_from (lengths_of (g ∷ gs) n) (k + 1) m) (skip_left i f g low high)
    ∙ position_past (g ∷ gs) n (k + 1) i (rising_tail f (g ∷ gs) n r) h)

-- the index of a position; a ledger's entries begin at an index and end before another

abbrev pub entry_at : ℕ → ℕ → ℕ → Option ℕ
entry_at first end entry = if nat_lt entry (end - first) then Some (first + entry) else None

pub index_in : (fs : List ℕ) (n k q : ℕ) (p : Position) → Rising fs n → q < length fs → p.ledger ≡ k + q → index_from (lengths_of fs n) k (get_or fs 0 0) p ≡ entry_at (get_or fs q 0) (get_or fs (suc q) n) p.entry
index_in [] n k q p r h e = absurd (omega arith)
index_in (f ∷ fs) n k zero p r h e =
    let same : p.ledger ≡ k = omega arith in
    let t : (p.ledger == k) ≡ true = grind (arith, nat_tests) in
    rw t refl
index_in (f ∷ fs) n k (suc q) p r h e =
    let other : k < p.ledger = omega arith in
    let t : (p.ledger == k) ≡ false = grind (arith, nat_tests) in
    let below : q < length fs = omega arith in
    let g : get_or fs 0 n ≡ get_or fs 0 0 = next_default fs n q below in
    let low : f ≤ get_or fs 0 n = next_from f fs n r in
    let before : f + (get_or fs 0 n - f) ≡ get_or fs 0 0 = omega arith in
    let there : p.ledger ≡ k + 1 + q = omega arith in
    rw t (
    ap (λ (m : ℕ). index_from (lengths_of fs n) (k + 1) m p) before
    ∙ index_in fs n (k + 1) q p (rising_tail f fs n r) below there)

pub index_past : (fs : List ℕ) (n k before : ℕ) (p : Position) → k + length fs ≤ p.ledger → index_from (lengths_of fs n) k before p ≡ None
index_past [] n k before p h = refl
index_past (f ∷ fs) n k before p h =
    let other : k < p.ledger = omega arith in
    let t : (p.ledger == k) ≡ false = grind (arith, nat_tests) in
    let rest : k + 1 + length fs ≤ p.ledger = omega arith in
    rw t (index_past fs n (k + 1) (before + (get_or fs 0 n - f)) p rest)

-- the ledgers have all entries together

sum_from : (fs : List ℕ) (n : ℕ) → Rising fs n → 0 < length fs → sum (lengths_of fs n) + get_or fs 0 0 ≡ n
sum_from [] n r h = absurd (omega arith)
sum_from (f ∷ []) n r h = let w : f ≤ n = r.within 0 (omega arith) in omega arith
sum_from (f ∷ g ∷ gs) n r h =
    let low : f ≤ g = next_from f (g ∷ gs) n r in
    let rest : sum (lengths_of (g ∷ gs) n) + g ≡ n = sum_from (g ∷ gs) n (rising_tail f (g ∷ gs) n r) (omega arith) in
    omega (arith, sum_by-cons (λ (x : ℕ). x) (g - f) (lengths_of (g ∷ gs) n), rest)

pub sum_of_lengths : (fs : List ℕ) (n : ℕ) → AreFirsts fs n → sum (lengths_of fs n) ≡ n
sum_of_lengths fs n a = let s = sum_from fs n a.rising a.opened in omega (arith, a.begun, s)

-- The definitions' answers from first indexes, as the code finds them.
use Rattle.std.proofs.Common.{◌≡◌, ◌∙◌, ℕ, suc, ◌+◌, ◌-◌, ◌<◌, ◌≤◌, nat_lt, Bool, true, false, List, [], ◌∷◌, ◌++◌, length, get_or, refl, ap, sym, arith}
use Rattle.std.specs.Prelude.{Some, None}
use Rattle.std.proofs.lemmas.List.{get_or_default, get_or_past}
use Rattle.std.proofs.lemmas.Bool.Decides.{nat_tests}
use Rattle.geo_base.specs.declared.position.Position.{Position}
use Rattle.geo_base.specs.Topic.{grown, index_from, index_of, last_length, next_position, position_of}
use Rattle.topic_store.specs.Firsts.{lengths_of, AreFirsts, IsLedgerOf}
use Rattle.topic_store.proofs.FirstIndexes.{count_of_lengths, index_in, index_past, last_of_lengths, lengths_pushed, lengths_raised, entry_at, place, position_in, position_past}

-- how many entries the last ledger has
abbrev in_last : List ℕ → ℕ → ℕ
in_last fs n = n - get_or fs (length fs - 1) 0

last_is : (fs : List ℕ) (n : ℕ) → AreFirsts fs n → last_length (lengths_of fs n) ≡ in_last fs n
last_is fs n a = last_of_lengths fs n a.opened

room_left : (fs : List ℕ) (n per : ℕ) → AreFirsts fs n → in_last fs n < per → nat_lt (last_length (lengths_of fs n)) per ≡ true
room_left fs n per a h = let l = last_is fs n a in grind (arith, nat_tests, l)

none_left : (fs : List ℕ) (n per : ℕ) → AreFirsts fs n → per ≤ in_last fs n → nat_lt (last_length (lengths_of fs n)) per ≡ false
none_left fs n per a h = let l = last_is fs n a in grind (arith, nat_tests, l)

pub next_here : (fs : List ℕ) (n per : ℕ) → AreFirsts fs n → in_last fs n < per → next_position per (lengths_of fs n) ≡ place (length fs - 1) (in_last fs n)
next_here fs n per a h = rw (room_left fs n per a h, last_is fs n a, count_of_lengths fs n) refl

pub next_opens : (fs : List ℕ) (n per : ℕ) → AreFirsts fs n → per ≤ in_last fs n → next_position per (lengths_of fs n) ≡ place (length fs) 0
next_opens fs n per a h = rw (none_left fs n per a h, count_of_lengths fs n) refl

pub grown_here : (fs : List ℕ) (n per : ℕ) → AreFirsts fs n → in_last fs n < per → lengths_of fs (n + 1) ≡ grown per (lengths_of fs n)
grown_here fs n per a h = rw (room_left fs n per a h) (lengths_raised fs n a)

one_entry : (fs : List ℕ) (n : ℕ) → lengths_of (fs ++ n ∷ []) (n + 1) ≡ lengths_of fs n ++ 1 ∷ []
one_entry fs n =
    let one : n + 1 - n ≡ 1 = omega arith in
    lengths_pushed fs n (n + 1) ∙ ap (λ (m : ℕ). lengths_of fs n ++ m ∷ []) one

pub grown_opens : (fs : List ℕ) (n per : ℕ) → AreFirsts fs n → per ≤ in_last fs n → lengths_of (fs ++ n ∷ []) (n + 1) ≡ grown per (lengths_of fs n)
grown_opens fs n per a h = rw (none_left fs n per a h) (one_entry fs n)

pub opened_lengths : (fs : List ℕ) (n : ℕ) → lengths_of (fs ++ n ∷ []) n ≡ lengths_of fs n ++ 0 ∷ []
opened_lengths fs n =
    let none : n - n ≡ 0 = omega arith in
    lengths_pushed fs n n ∙ ap (λ (m : ℕ). lengths_of fs n ++ m ∷ []) none

-- where the ledger of an index ends
ends_behind : (fs : List ℕ) (n i p : ℕ) (b : Bool) → nat_lt (suc p) (length fs) ≡ b → IsLedgerOf fs i p → i < n → i < get_or fs (suc p) n
ends_behind fs n i p true e l h =
    let k : suc p < length fs = grind (arith, nat_tests) in
    let d = get_or_default fs (suc p) n 0 k in
    let last = l.last (suc p) (omega arith) k in
    omega (arith, d, last)
ends_behind fs n i p false e l h =
    let k : length fs ≤ suc p = grind (arith, nat_tests) in
    omega (arith, get_or_past fs (suc p) n k)

pub position_found : (fs : List ℕ) (n i p : ℕ) → AreFirsts fs n → IsLedgerOf fs i p → i < n → position_of (lengths_of fs n) i ≡ Some (place p (i - get_or fs p 0))
position_found fs n i p a l h =
    let start : i ≡ i - get_or fs 0 0 = omega (arith, a.begun) in
    let there : 0 + p ≡ p = omega arith in
    ap (λ (m : ℕ). position_of (lengths_of fs n) m) start
    ∙ position_in fs n 0 p i a.rising l.one l.begun (ends_behind fs n i p (nat_lt (suc p) (length fs)) refl l h)
    ∙ ap (λ (m : ℕ). Some (place m (i - get_or fs p 0))) there

pub position_missing : (fs : List ℕ) (n i : ℕ) → AreFirsts fs n → n ≤ i → position_of (lengths_of fs n) i ≡ None
position_missing fs n i a h =
    let start : i ≡ i - get_or fs 0 0 = omega (arith, a.begun) in
    ap (λ (m : ℕ). position_of (lengths_of fs n) m) start ∙ position_past fs n 0 i a.rising h

found_from : (fs : List ℕ) (n : ℕ) (p : Position) → AreFirsts fs n → p.ledger < length fs → index_of (lengths_of fs n) p ≡ entry_at (get_or fs p.ledger 0) (get_or fs (p.ledger + 1) n) p.entry
found_from fs n p a h =
    let start : p.ledger ≡ 0 + p.ledger = omega arith in
    let next : suc p.ledger ≡ p.ledger + 1 = omega arith in
    ap (λ (m : ℕ). index_from (lengths_of fs n) 0 m p) (sym a.begun)
    ∙ index_in fs n 0 p.ledger p a.rising h start
    ∙ ap (λ (m : ℕ). entry_at (get_or fs p.ledger 0) (get_or fs m n) p.entry) next

pub index_before_next : (fs : List ℕ) (n : ℕ) (p : Position) → AreFirsts fs n → p.ledger + 1 < length fs → index_of (lengths_of fs n) p ≡ entry_at (get_or fs p.ledger 0) (get_or fs (p.ledger + 1) 0) p.entry
index_before_next fs n p a h =
    found_from fs n p a (omega arith)
    ∙ ap (λ (m : ℕ). entry_at (get_or fs p.ledger 0) m p.entry) (get_or_default fs (p.ledger + 1) n 0 h)

pub index_in_last : (fs : List ℕ) (n : ℕ) (p : Position) → AreFirsts fs n → p.ledger < length fs → length fs ≤ p.ledger + 1 → index_of (lengths_of fs n) p ≡ entry_at (get_or fs p.ledger 0) n p.entry
index_in_last fs n p a h l =
    found_from fs n p a h
    ∙ ap (λ (m : ℕ). entry_at (get_or fs p.ledger 0) m p.entry) (get_or_past fs (p.ledger + 1) n l)

pub no_index : (fs : List ℕ) (n : ℕ) (p : Position) → length fs ≤ p.ledger → index_of (lengths_of fs n) p ≡ None
no_index fs n p h = index_past fs n 0 0 p (omega arith)

-- a ledger ends after its beginning
pub next_above : (fs : List ℕ) (n k : ℕ) → AreFirsts fs n → k + 1 < length fs → get_or fs k 0 ≤ get_or fs (k + 1) 0
next_above fs n k a h = a.rising.rise k (k + 1) (omega arith) h

pub first_within : (fs : List ℕ) (n k : ℕ) → AreFirsts fs n → k < length fs → get_or fs k 0 ≤ n
first_within fs n k a h = a.rising.within k h

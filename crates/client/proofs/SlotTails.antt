-- Slots of which the first so many are in an index, and the others are looked through.
use Rattle.std.proofs.Common.{◌≡◌, ℕ, Bool, zero, suc, ◌+◌, ◌<◌, ◌≤◌, true, false, not, ◌&&◌, ◌||◌, List, [], ◌∷◌, ◌++◌, length, get_or, set, take, Option, Some, None, refl, sym, ap, subst, ◌∙◌, arith, ⊎_elim}
use Rattle.std.proofs.lemmas.Bool.{cases_eq, cases_lt}
use Rattle.std.proofs.lemmas.List.{get_or_past, take_more}
use Rattle.geo_base.specs.declared.client.Held.{Held}
use Rattle.geo_base.specs.declared.entry.Ident.{Ident}
use Rattle.geo_base.specs.declared.position.Position.{Position}
use Rattle.client.specs.declared.held.index.SlotKey.{SlotKey}
use Rattle.client.specs.SlotIndex.{has, same_key}
use Rattle.client.specs.HeldSlots.{IsFirstOf, IsIndex, is_of, is_under, is_up_to, key_of}
use Rattle.client.proofs.SlotIndexes.{emptied, is_of_within, no_slot, other_slot, pushed}

-- ---- the first so many slots

-- a slot of the first so many is that slot of all
taken_at : (slots : List (Option Held)) (n j : ℕ) → j < n → get_or (take n slots) j None ≡ get_or slots j None
taken_at slots zero j l = absurd (omega (arith, l))
taken_at [] (suc n) j l = refl
taken_at (o ∷ slots) (suc n) zero l = refl
taken_at (o ∷ slots) (suc n) (suc j) l = taken_at slots n j (omega (arith, l))

length_taken : (slots : List (Option Held)) (n : ℕ) → length (take n slots) ≤ n
length_taken slots zero = omega arith
length_taken [] (suc n) = omega arith
length_taken (o ∷ slots) (suc n) = omega (arith, length_taken slots n)

taken_long : (slots : List (Option Held)) (n : ℕ) → n ≤ length slots → length (take n slots) ≡ n
taken_long slots zero l = refl
taken_long [] (suc n) l = absurd (omega (arith, l))
taken_long (o ∷ slots) (suc n) l = omega (arith, taken_long slots n (omega (arith, l)))

taken_within : (slots : List (Option Held)) (n j : ℕ) → j < length (take n slots) → j < n
taken_within slots n j l = omega (arith, l, length_taken slots n)

-- one more slot after them changes none of them
pub taken_pushed : (slots : List (Option Held)) (o : Option Held) (n : ℕ) → n ≤ length slots → take n (slots ++ o ∷ []) ≡ take n slots
taken_pushed slots o zero l = refl
taken_pushed [] o (suc n) l = absurd (omega (arith, l))
taken_pushed (p ∷ slots) o (suc n) l = ap (λ (xs : List (Option Held)). p ∷ xs) (taken_pushed slots o n (omega (arith, l)))

-- a slot that is emptied is one of them, or none
pub taken_set : (slots : List (Option Held)) (o : Option Held) (n slot : ℕ) → take n (set slots slot o) ≡ set (take n slots) slot o
taken_set slots o zero slot = refl
taken_set [] o (suc n) slot = refl
taken_set (p ∷ slots) o (suc n) zero = refl
taken_set (p ∷ slots) o (suc n) (suc slot) = ap (λ (xs : List (Option Held)). p ∷ xs) (taken_set slots o n slot)

pub taken_before : (slots : List (Option Held)) (o : Option Held) (n slot : ℕ) → n ≤ slot → take n (set slots slot o) ≡ take n slots
taken_before slots o zero slot l = refl
taken_before [] o (suc n) slot l = refl
taken_before (p ∷ slots) o (suc n) zero l = absurd (omega (arith, l))
taken_before (p ∷ slots) o (suc n) (suc slot) l = ap (λ (xs : List (Option Held)). p ∷ xs) (taken_before slots o n slot (omega (arith, l)))

-- ---- searches

-- what is found among the first so many is found
pub first_taken : (slots taken : List (Option Held)) (n : ℕ) (i : Ident) (slot : ℕ) → taken ≡ take n slots → IsFirstOf taken i slot → IsFirstOf slots i slot
first_taken slots taken n i slot same found = by (subst (λ (xs : List (Option Held)). IsFirstOf xs i slot) same found)
  where
    by : IsFirstOf (take n slots) i slot → IsFirstOf slots i slot
    by f =
        let below = taken_within slots n slot f.within in
        let is : is_of i (get_or slots slot None) ≡ true = sym (ap (is_of i) (taken_at slots n slot below)) ∙ f.is_one in
        record {
          within = is_of_within i slots slot is;
          is_one = is;
          none_before = λ j l. sym (ap (is_of i) (taken_at slots n j (omega (arith, l, below)))) ∙ f.none_before j l;
        }

pub none_taken_of : (slots taken : List (Option Held)) (n : ℕ) (i : Ident) → taken ≡ take n slots → ((j : ℕ) → is_of i (get_or taken j None) ≡ false) → (j : ℕ) → j < n → is_of i (get_or slots j None) ≡ false
none_taken_of slots taken n i same none j l = sym (ap (is_of i) (taken_at slots n j l)) ∙ (sym (ap (λ (xs : List (Option Held)). is_of i (get_or xs j None)) same) ∙ none j)

pub none_of_all : (slots : List (Option Held)) (i : Ident) (n : ℕ) → ((j : ℕ) → j < n → is_of i (get_or slots j None) ≡ false) → length slots ≤ n → (j : ℕ) → is_of i (get_or slots j None) ≡ false
none_of_all slots i n none past j = ⊎_elim (λ l. none j l) (λ g. ap (is_of i) (get_or_past slots j None (omega (arith, g, past)))) (cases_lt j n)

came_within : (slots : List (Option Held)) (p : Position) (slot : ℕ) → is_up_to p (get_or slots slot None) ≡ true → slot < length slots
came_within slots p slot h = ⊎_elim (λ l. l) (λ g. let no : is_up_to p None ≡ true = sym (ap (is_up_to p) (get_or_past slots slot None g)) ∙ h in absurd cc) (cases_lt slot (length slots))

pub came_taken : (slots taken : List (Option Held)) (n : ℕ) (p : Position) (slot : ℕ) → taken ≡ take n slots → is_up_to p (get_or taken slot None) ≡ true → is_up_to p (get_or slots slot None) ≡ true
came_taken slots taken n p slot same found =
    let h : is_up_to p (get_or (take n slots) slot None) ≡ true = sym (ap (λ (xs : List (Option Held)). is_up_to p (get_or xs slot None)) same) ∙ found in
    sym (ap (is_up_to p) (taken_at slots n slot (taken_within slots n slot (came_within (take n slots) p slot h)))) ∙ h

pub none_taken_came : (slots taken : List (Option Held)) (n : ℕ) (p : Position) → taken ≡ take n slots → ((j : ℕ) → is_up_to p (get_or taken j None) ≡ false) → (j : ℕ) → j < n → is_up_to p (get_or slots j None) ≡ false
none_taken_came slots taken n p same none j l = sym (ap (is_up_to p) (taken_at slots n j l)) ∙ (sym (ap (λ (xs : List (Option Held)). is_up_to p (get_or xs j None)) same) ∙ none j)

pub none_came_next : (slots : List (Option Held)) (p : Position) (slot : ℕ) → ((j : ℕ) → j < slot → is_up_to p (get_or slots j None) ≡ false) → is_up_to p (get_or slots slot None) ≡ false
    → (j : ℕ) → j < slot + 1 → is_up_to p (get_or slots j None) ≡ false
none_came_next slots p slot before here j l = ⊎_elim (λ m. before j m) (λ g. let e : j ≡ slot = omega arith in rw e here) (cases_lt j slot)

pub none_came_all : (slots : List (Option Held)) (p : Position) (n : ℕ) → ((j : ℕ) → j < n → is_up_to p (get_or slots j None) ≡ false) → length slots ≤ n → (j : ℕ) → is_up_to p (get_or slots j None) ≡ false
none_came_all slots p n none past j = ⊎_elim (λ l. none j l) (λ g. ap (is_up_to p) (get_or_past slots j None (omega (arith, g, past)))) (cases_lt j n)

-- ---- indexes

index_of : (numbers : Held → ℕ × ℕ) (xs ys : List (Option Held)) (keys : List SlotKey) → xs ≡ ys → IsIndex numbers ys keys → IsIndex numbers xs keys
index_of numbers xs ys keys same i = record { at = λ k. i.at k ∙ sym (ap (λ (zs : List (Option Held)). is_under numbers (get_or zs k.slot None) k) same) }

-- a message after the indexed slots
pub pushed_behind : (numbers : Held → ℕ × ℕ) (slots : List (Option Held)) (n : ℕ) (keys : List SlotKey) (h : Held) → n ≤ length slots → IsIndex numbers (take n slots) keys → IsIndex numbers (take n (slots ++ Some h ∷ [])) keys
pushed_behind numbers slots n keys h within i = index_of numbers (take n (slots ++ Some h ∷ [])) (take n slots) keys (taken_pushed slots (Some h) n within) i

-- one more slot is indexed, one that has a message
pub one_indexed : (numbers : Held → ℕ × ℕ) (slots : List (Option Held)) (n : ℕ) (keys more : List SlotKey) (h : Held) → n < length slots → Some h ≡ get_or slots n None → IsIndex numbers (take n slots) keys
    → ((k : SlotKey) → has more k ≡ (same_key (key_of (numbers h) n) k || has keys k)) → IsIndex numbers (take (n + 1) slots) more
one_indexed numbers slots n keys more h within is i added =
    index_of numbers (take (n + 1) slots) (take n slots ++ Some h ∷ []) more (take_more slots n None within ∙ ap (λ (o : Option Held). take n slots ++ o ∷ []) (sym is))
    (pushed numbers (take n slots) keys more h n (sym (taken_long slots n (omega (arith, within)))) i added)

none_behind : (xs : List (Option Held)) (j : ℕ) → get_or (xs ++ None ∷ []) j None ≡ get_or xs j None
none_behind [] zero = refl
none_behind [] (suc j) = refl
none_behind (o ∷ xs) zero = refl
none_behind (o ∷ xs) (suc j) = none_behind xs j

-- and one that has none
pub one_passed : (numbers : Held → ℕ × ℕ) (slots : List (Option Held)) (n : ℕ) (keys : List SlotKey) → n < length slots → None ≡ get_or slots n None → IsIndex numbers (take n slots) keys → IsIndex numbers (take (n + 1) slots) keys
one_passed numbers slots n keys within is i =
    index_of numbers (take (n + 1) slots) (take n slots ++ None ∷ []) keys (take_more slots n None within ∙ ap (λ (o : Option Held). take n slots ++ o ∷ []) (sym is))
    (record { at = λ k. i.at k ∙ sym (ap (λ (o : Option Held). is_under numbers o k) (none_behind (take n slots) k.slot)) })

taken_below : (slots : List (Option Held)) (n j : ℕ) → j < n → j < length slots → j < length (take n slots)
taken_below slots zero j l w = absurd (omega (arith, l))
taken_below [] (suc n) j l w = absurd (omega (arith, w))
taken_below (o ∷ slots) (suc n) zero l w = omega arith
taken_below (o ∷ slots) (suc n) (suc j) l w = let below = taken_below slots n j (omega (arith, l)) (omega (arith, w)) in omega (arith, below)

and_none : (b c : Bool) → c ≡ false → (not b && c) ≡ c
and_none true c is = sym is
and_none false c is = refl

-- a key of a slot that is in no index is looked for in vain
taken_in_vain : (numbers : Held → ℕ × ℕ) (xs : List (Option Held)) (slot : ℕ) (keys less : List SlotKey) (h : Held) → length xs ≤ slot → IsIndex numbers xs keys
    → ((k : SlotKey) → has less k ≡ (not (same_key (key_of (numbers h) slot) k) && has keys k)) → IsIndex numbers xs less
taken_in_vain numbers xs slot keys less h past i taken = record {
  at = λ k. taken k ∙ (⊎_elim
      (λ e. and_none (same_key (key_of (numbers h) slot) k) (has keys k) (no_slot numbers xs keys k i (omega (arith, e, past))))
      (λ ne. ap (λ (b : Bool). not b && has keys k) (other_slot (key_of (numbers h) slot) k (λ e. ne (sym e))))
      (cases_eq k.slot slot) ∙ i.at k);
}

pub emptied_taken : (numbers : Held → ℕ × ℕ) (slots : List (Option Held)) (n slot : ℕ) (keys less : List SlotKey) (h : Held) → slot < length slots → get_or slots slot None ≡ Some h → IsIndex numbers (take n slots) keys
    → ((k : SlotKey) → has less k ≡ (not (same_key (key_of (numbers h) slot) k) && has keys k)) → IsIndex numbers (take n (set slots slot None)) less
emptied_taken numbers slots n slot keys less h within is i taken = ⊎_elim
    (λ l. index_of numbers (take n (set slots slot None)) (set (take n slots) slot None) less (taken_set slots None n slot)
    (emptied numbers (take n slots) keys less h slot (taken_below slots n slot l within) (taken_at slots n slot l ∙ is) i taken))
    (λ g. index_of numbers (take n (set slots slot None)) (take n slots) less (taken_before slots None n slot g)
    (taken_in_vain numbers (take n slots) slot keys less h (omega (arith, g, length_taken slots n)) i taken))
    (cases_lt slot n)

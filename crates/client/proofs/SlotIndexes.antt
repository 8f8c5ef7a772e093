-- What the keys of an index say of slots.
use Rattle.std.proofs.Common.{◌≡◌, ℕ, ◌+◌, ◌<◌, ◌≤◌, Bool, true, false, not, ◌&&◌, ◌||◌, ◌==◌, List, [], ◌∷◌, ◌++◌, length, get_or, set, Option, Some, None, IsTrue, refl, ap, sym, ◌∙◌, arith, ◌⊎◌, ⊎_elim}
use Rattle.std.specs.Ordering.{is_eq, nat_cmp, ordering_then}
use Rattle.std.specs.declared.cmp.Ordering.{Ordering}
use Rattle.std.specs.declared.cmp.Ordering.TheVariants.{Less, Equal, Greater}
use Rattle.std.specs.BTreeMap.Range.{IsLeBy}
use Rattle.std.specs.Str.{bytes_eq}
use Rattle.std.proofs.Math.Bool.{or-false}
use Rattle.std.proofs.lemmas.Bool.{and_parts, cases_eq, cases_lt, eqb-true, false_from_ne_true, false≢true}
use Rattle.std.proofs.lemmas.Bool.Decides.{nat_tests}
use Rattle.std.proofs.lemmas.List.{get_or_append_left, get_or_past, get_or_push, get_or-set_other, get_or-set_same, length_push}
use Rattle.std.proofs.lemmas.Map.Lookups.{exact_unsigned}
use Rattle.std.proofs.lemmas.Slice.Eq.{bytes_eq-Decides}
use Rattle.geo_base.specs.declared.client.Held.{Held}
use Rattle.geo_base.specs.declared.entry.Ident.{Ident}
use Rattle.geo_base.specs.declared.position.Position.{Position}
use Rattle.geo_base.specs.Entry.{same_ident}
use Rattle.geo_base.specs.Position.{position_le}
use Rattle.client.specs.declared.held.index.SlotKey.{SlotKey}
use Rattle.client.specs.SlotIndex.{has, key_cmp, same_key}
use Rattle.client.specs.HeldSlots.{IsIndex, ident_numbers, is_of, is_under, is_up_to, key_of, position_numbers}

-- ---- the order of keys

equal_parts : (p q r : Ordering) → is_eq (ordering_then p (ordering_then q r)) ≡ true → (p ≡ Equal) × ((q ≡ Equal) × (r ≡ Equal))
equal_parts Equal Equal Equal h = (refl, (refl, refl))
equal_parts Less q r h = absurd cc
equal_parts Greater q r h = absurd cc
equal_parts Equal Less r h = absurd cc
equal_parts Equal Greater r h = absurd cc
equal_parts Equal Equal Less h = absurd cc
equal_parts Equal Equal Greater h = absurd cc

-- the parts of keys that are the same
record AreSame (a b : SlotKey) : Type 0 where
  pub major : a.major ≡ b.major
  pub minor : a.minor ≡ b.minor
  pub slot : a.slot ≡ b.slot

same_parts : (a b : SlotKey) → same_key a b ≡ true → AreSame a b
same_parts a b h =
    let parts = equal_parts (nat_cmp a.major b.major) (nat_cmp a.minor b.minor) (nat_cmp a.slot b.slot) h in
    record { major = exact_unsigned _ _ parts.0; minor = exact_unsigned _ _ parts.1.0; slot = exact_unsigned _ _ parts.1.1 }

same_itself : (k : SlotKey) → same_key k k ≡ true
same_itself k = grind (arith, nat_tests)

pub other_slot : (a b : SlotKey) → (a.slot ≡ b.slot → ⊥) → same_key a b ≡ false
other_slot a b other = false_from_ne_true _ (λ h. other (same_parts a b h).slot)

-- what an order of keys says of their parts
le_parts : (a b : SlotKey) → IsLeBy key_cmp a b → (a.major < b.major) ⊎ ((a.major ≡ b.major) × ((a.minor < b.minor) ⊎ ((a.minor ≡ b.minor) × (a.slot ≤ b.slot))))
le_parts a b h = grind (arith, nat_tests)

not_and : (b : Bool) → (not b && b) ≡ false
not_and true = refl
not_and false = refl

-- ---- an index after a message more

pub no_slot : (numbers : Held → ℕ × ℕ) (slots : List (Option Held)) (keys : List SlotKey) (k : SlotKey) → IsIndex numbers slots keys → length slots ≤ k.slot → has keys k ≡ false
no_slot numbers slots keys k i past = i.at k ∙ ap (λ (o : Option Held). is_under numbers o k) (get_or_past slots k.slot None past)

same_before : (slots : List (Option Held)) (o : Option Held) (j : ℕ) → (j ≡ length slots → ⊥) → get_or (slots ++ o ∷ []) j None ≡ get_or slots j None
same_before slots o j other = ⊎_elim (λ l. get_or_append_left slots (o ∷ []) None j l)
    (λ g. get_or_past (slots ++ o ∷ []) j None (omega (arith, length_push slots o)) ∙ sym (get_or_past slots j None g)) (cases_lt j (length slots))

pub pushed : (numbers : Held → ℕ × ℕ) (slots : List (Option Held)) (keys more : List SlotKey) (h : Held) (n : ℕ) → n ≡ length slots → IsIndex numbers slots keys
    → ((k : SlotKey) → has more k ≡ (same_key (key_of (numbers h) n) k || has keys k)) → IsIndex numbers (slots ++ Some h ∷ []) more
pushed numbers slots keys more h n last i added = record {
  at = λ k. ⊎_elim
      (λ e. added k ∙ (ap (λ (b : Bool). same_key (key_of (numbers h) n) k || b) (no_slot numbers slots keys k i (omega arith)) ∙ (or-false (same_key (key_of (numbers h) n) k)
      ∙ (ap (λ (m : ℕ). same_key (key_of (numbers h) m) k) (last ∙ sym e) ∙ sym (ap (λ (o : Option Held). is_under numbers o k) (get_or_push slots (Some h) None k.slot (sym e)))))))
      (λ ne. added k ∙ (ap (λ (b : Bool). b || has keys k) (other_slot (key_of (numbers h) n) k (λ e. ne (sym e ∙ last)))
      ∙ (i.at k ∙ sym (ap (λ (o : Option Held). is_under numbers o k) (same_before slots (Some h) k.slot ne)))))
      (cases_eq k.slot (length slots));
}

-- ---- an index after a message fewer

pub emptied : (numbers : Held → ℕ × ℕ) (slots : List (Option Held)) (keys less : List SlotKey) (h : Held) (slot : ℕ) → slot < length slots → get_or slots slot None ≡ Some h
    → IsIndex numbers slots keys → ((k : SlotKey) → has less k ≡ (not (same_key (key_of (numbers h) slot) k) && has keys k)) → IsIndex numbers (set slots slot None) less
emptied numbers slots keys less h slot within is i taken = record {
  at = λ k. ⊎_elim
      (λ e. taken k ∙ (ap (λ (b : Bool). not (same_key (key_of (numbers h) slot) k) && b) (i.at k ∙ ap (λ (o : Option Held). is_under numbers o k) (ap (λ (j : ℕ). get_or slots j None) e ∙ is))
      ∙ (ap (λ (j : ℕ). not (same_key (key_of (numbers h) slot) k) && same_key (key_of (numbers h) j) k) e ∙ (not_and (same_key (key_of (numbers h) slot) k)
      ∙ sym (ap (λ (o : Option Held). is_under numbers o k) (ap (λ (j : ℕ). get_or (set slots slot None) j None) e ∙ get_or-set_same slots slot None None within))))))
      (λ ne. taken k ∙ (ap (λ (b : Bool). not b && has keys k) (other_slot (key_of (numbers h) slot) k (λ e. ne (sym e)))
      ∙ (i.at k ∙ sym (ap (λ (o : Option Held). is_under numbers o k) (get_or-set_other slots slot k.slot None None ne)))))
      (cases_eq k.slot slot);
}

-- ---- searches

same_numbers : (a b : Ident) → same_ident a b ≡ true → ident_numbers a ≡ ident_numbers b
same_numbers a b h =
    let parts = and_parts ((a.origin == b.origin) && bytes_eq a.producer b.producer) (a.seq == b.seq) h in
    let stream = and_parts (a.origin == b.origin) (bytes_eq a.producer b.producer) parts.0 in
    let origin : a.origin ≡ b.origin = eqb-true _ _ stream.0 in
    let producer : a.producer ≡ b.producer = (bytes_eq-Decides _ _).0 stream.1 in
    let seq : a.seq ≡ b.seq = eqb-true _ _ parts.1 in
    cc

under_one : (i : Ident) (o : Option Held) (slot : ℕ) → is_of i o ≡ true → is_under (λ h. ident_numbers h.ident) o (key_of (ident_numbers i) slot) ≡ true
under_one i None slot h = absurd cc
under_one i (Some g) slot h = ap (λ (n : ℕ × ℕ). same_key (key_of n slot) (key_of (ident_numbers i) slot)) (same_numbers g.ident i h) ∙ same_itself (key_of (ident_numbers i) slot)

-- a slot with a message of the identity is under the identity's numbers
under_ident : (slots : List (Option Held)) (keys : List SlotKey) (i : Ident) (slot : ℕ) → IsIndex (λ h. ident_numbers h.ident) slots keys
    → is_of i (get_or slots slot None) ≡ true → has keys (key_of (ident_numbers i) slot) ≡ true
under_ident slots keys i slot index is = index.at (key_of (ident_numbers i) slot) ∙ under_one i (get_or slots slot None) slot is

-- a slot with a message is under its position
under_position : (slots : List (Option Held)) (keys : List SlotKey) (slot : ℕ) (h : Held) → IsIndex (λ g. position_numbers g.position) slots keys
    → Some h ≡ get_or slots slot None → has keys (key_of (position_numbers h.position) slot) ≡ true
under_position slots keys slot h index is = index.at (key_of (position_numbers h.position) slot)
    ∙ (sym (ap (λ (o : Option Held). is_under (λ g. position_numbers g.position) o (key_of (position_numbers h.position) slot)) is) ∙ same_itself (key_of (position_numbers h.position) slot))

above : (p q : Position) (k : SlotKey) (slot : ℕ) → position_le (record { ledger = k.major; entry = k.minor }) p ≡ false → IsLeBy key_cmp k (key_of (position_numbers q) slot) → position_le q p ≡ false
above p q k slot past le = grind (arith, nat_tests, le_parts k (key_of (position_numbers q) slot) le)

-- where the least key is past a position, no message came up to it
none_up_to_at : (slots : List (Option Held)) (keys : List SlotKey) (p : Position) (k : SlotKey) (slot : ℕ) (o : Option Held) → IsIndex (λ h. position_numbers h.position) slots keys
    → ((q : SlotKey) → IsTrue (has keys q) → IsLeBy key_cmp k q) → position_le (record { ledger = k.major; entry = k.minor }) p ≡ false → o ≡ get_or slots slot None → is_up_to p o ≡ false
none_up_to_at slots keys p k slot None index least past is = refl
none_up_to_at slots keys p k slot (Some h) index least past is =
    above p h.position k slot past (least (key_of (position_numbers h.position) slot) (under_position slots keys slot h index is))

pub none_up_to : (slots : List (Option Held)) (keys : List SlotKey) (p : Position) (k : SlotKey) → IsIndex (λ h. position_numbers h.position) slots keys
    → ((q : SlotKey) → IsTrue (has keys q) → IsLeBy key_cmp k q) → position_le (record { ledger = k.major; entry = k.minor }) p ≡ false → (slot : ℕ) → is_up_to p (get_or slots slot None) ≡ false
none_up_to slots keys p k index least past slot = none_up_to_at slots keys p k slot _ index least past refl

-- where there is no key, there is no message
none_held_at : (slots : List (Option Held)) (keys : List SlotKey) (p : Position) (slot : ℕ) (o : Option Held) → IsIndex (λ h. position_numbers h.position) slots keys
    → ((q : SlotKey) → has keys q ≡ false) → o ≡ get_or slots slot None → is_up_to p o ≡ false
none_held_at slots keys p slot None index none is = refl
none_held_at slots keys p slot (Some h) index none is =
    absurd (false≢true (sym (none (key_of (position_numbers h.position) slot)) ∙ under_position slots keys slot h index is))

pub none_held : (slots : List (Option Held)) (keys : List SlotKey) (p : Position) → IsIndex (λ h. position_numbers h.position) slots keys
    → ((q : SlotKey) → has keys q ≡ false) → (slot : ℕ) → is_up_to p (get_or slots slot None) ≡ false
none_held slots keys p index none slot = none_held_at slots keys p slot _ index none refl

-- ---- the search for an identity

pub is_of_within : (i : Ident) (slots : List (Option Held)) (slot : ℕ) → is_of i (get_or slots slot None) ≡ true → slot < length slots
is_of_within i slots slot h = ⊎_elim (λ l. l) (λ g. absurd (false≢true (sym (ap (is_of i) (get_or_past slots slot None g)) ∙ h))) (cases_lt slot (length slots))

under_next : (slots : List (Option Held)) (keys : List SlotKey) (i : Ident) (from : SlotKey) (j : ℕ) → IsIndex (λ h. ident_numbers h.ident) slots keys → from ≡ key_of (ident_numbers i) from.slot
    → is_of i (get_or slots j None) ≡ true → has keys (record from { slot = j }) ≡ true
under_next slots keys i from j index same is = ap (λ (k : SlotKey). has keys (record k { slot = j })) same ∙ under_ident slots keys i j index is

-- no slot before the next one under the numbers has a message of the identity
pub none_before_next : (slots : List (Option Held)) (keys : List SlotKey) (i : Ident) (from : SlotKey) (slot : ℕ) → IsIndex (λ h. ident_numbers h.ident) slots keys
    → from ≡ key_of (ident_numbers i) from.slot → ((j : ℕ) → j < from.slot → is_of i (get_or slots j None) ≡ false)
    → ((j : ℕ) → from.slot ≤ j → IsTrue (has keys (record from { slot = j })) → slot ≤ j) → (j : ℕ) → j < slot → is_of i (get_or slots j None) ≡ false
none_before_next slots keys i from slot index same before first j l = ⊎_elim (before j)
    (λ g. false_from_ne_true _ (λ h. absurd (omega (arith, first j g (under_next slots keys i from j index same h))))) (cases_lt j from.slot)

-- where there is no next one under the numbers, no slot has a message of the identity
pub none_left : (slots : List (Option Held)) (keys : List SlotKey) (i : Ident) (from : SlotKey) → IsIndex (λ h. ident_numbers h.ident) slots keys
    → from ≡ key_of (ident_numbers i) from.slot → ((j : ℕ) → j < from.slot → is_of i (get_or slots j None) ≡ false)
    → ((j : ℕ) → from.slot ≤ j → has keys (record from { slot = j }) ≡ false) → (j : ℕ) → is_of i (get_or slots j None) ≡ false
none_left slots keys i from index same before none j = ⊎_elim (before j)
    (λ g. false_from_ne_true _ (λ h. false≢true (sym (none j g) ∙ under_next slots keys i from j index same h))) (cases_lt j from.slot)

pub none_of_next : (slots : List (Option Held)) (i : Ident) (slot : ℕ) → ((j : ℕ) → j < slot → is_of i (get_or slots j None) ≡ false) → is_of i (get_or slots slot None) ≡ false
    → (j : ℕ) → j < slot + 1 → is_of i (get_or slots j None) ≡ false
none_of_next slots i slot before here j l = ⊎_elim (λ m. before j m) (λ g. let e : j ≡ slot = omega arith in rw e here) (cases_lt j slot)

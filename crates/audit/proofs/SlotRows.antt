-- What a change of slots leaves of the table that finds them.
use Rattle.std.proofs.Common.{◌≡◌, ℕ, zero, suc, ◌<◌, Bool, true, false, List, [], ◌∷◌, ◌++◌, length, inl, inr, refl, sym, ap, subst, ◌∙◌, arith}
use Rattle.std.specs.Prelude.{◌⊎◌, Option, Some, None, String, string_bytes, if◌then◌else◌, slice_get, slice_set}
use Rattle.std.specs.Str.{bytes_eq}
use Rattle.std.specs.String.{string_eq}
use Rattle.std.specs.declared.alloc.Global.{Global}
use Rattle.std.proofs.lemmas.Bool.{false≢true}
use Rattle.std.proofs.lemmas.Option.{none-some, same_Some, slice_get_within}
use Rattle.std.proofs.lemmas.Slice.Eq.{bytes_eq-Decides}
use Rattle.geo_base.specs.Mirror.{MirrorSub}
use Rattle.indexmap.specs.IndexMap.{insert_entry}
use Rattle.audit.specs.Subs.{FindsSlots, IsNamedIn, NoneNamed, Slot, SlotRow, is_named_at, slot_at, slot_in}

pub finds_none : FindsSlots [] []
finds_none = record { at = λ k v at. absurd (none-some v at) }

-- ---- a row more

pub slot_noted : (rows : List SlotRow) (t : String Global) (k : ℕ) (n : List ℕ) → slot_in n (insert_entry string_eq rows t k) ≡ (if bytes_eq n (string_bytes t) then Some k else slot_in n rows)
slot_noted [] t k n = refl
slot_noted (r ∷ rows) t k n = by (string_eq t r.0) refl (slot_noted rows t k n)
  where
    one : (a b : Bool) (x y z : Option ℕ) → a ≡ b → (if a then x else z) ≡ (if b then x else if a then y else z)
    one true true x y z e = refl
    one false false x y z e = refl
    one true false x y z e = absurd (false≢true (sym e))
    one false true x y z e = absurd (false≢true e)

    turn : (a b : Bool) (x y z : Option ℕ) → (a ≡ true → b ≡ true → ⊥) → (if a then x else if b then y else z) ≡ (if b then y else if a then x else z)
    turn true true x y z h = absurd (h refl refl)
    turn true false x y z h = refl
    turn false b x y z h = refl

    by : (b : Bool) → string_eq t r.0 ≡ b → slot_in n (insert_entry string_eq rows t k) ≡ (if bytes_eq n (string_bytes t) then Some k else slot_in n rows)
        → slot_in n (if b then (r.0, k) ∷ rows else r ∷ insert_entry string_eq rows t k)
        ≡ (if bytes_eq n (string_bytes t) then Some k else if bytes_eq n (string_bytes r.0) then Some r.1 else slot_in n rows)
    by true e ih =
        let same : string_bytes t ≡ string_bytes r.0 = (bytes_eq-Decides (string_bytes t) (string_bytes r.0)).0 e in
        one (bytes_eq n (string_bytes r.0)) (bytes_eq n (string_bytes t)) (Some k) (Some r.1) (slot_in n rows) (ap (bytes_eq n) (sym same))
    by false e ih =
        ap (λ (o : Option ℕ). if bytes_eq n (string_bytes r.0) then Some r.1 else o) ih
        ∙ turn (bytes_eq n (string_bytes r.0)) (bytes_eq n (string_bytes t)) (Some r.1) (Some k) (slot_in n rows)
        (λ a b.
        let mine : n ≡ string_bytes r.0 = (bytes_eq-Decides n (string_bytes r.0)).0 a in
        let other : n ≡ string_bytes t = (bytes_eq-Decides n (string_bytes t)).0 b in
        false≢true (sym e ∙ (bytes_eq-Decides (string_bytes t) (string_bytes r.0)).1 (sym other ∙ mine)))

-- where a slot stands among those with one more after them
behind : (slots : List Slot) (o : Slot) (k : ℕ) (v : MirrorSub) → slot_at (slots ++ o ∷ []) k ≡ Some v → (slot_at slots k ≡ Some v) × (k < length slots) ⊎ (k ≡ length slots) × (o ≡ Some v)
behind [] o zero v at = inr (refl, at)
behind [] o (suc k) v at = absurd (none-some v at)
behind (q ∷ slots) o zero v at = inl (at, omega arith)
behind (q ∷ slots) o (suc k) v at =
    elim (behind slots o k v at) [
      | inl old ↦ inl (old.0, let lt = old.1 in omega (arith, lt))
      | inr new ↦ inr ((let is = new.0 in omega (arith, is)), new.1)
    ]

pub finds_more : (rows : List SlotRow) (slots : List Slot) (t : String Global) (v : MirrorSub) → FindsSlots rows slots → NoneNamed v.name slots → string_bytes t ≡ v.name
    → FindsSlots (insert_entry string_eq rows t (length slots)) (slots ++ Some v ∷ [])
finds_more rows slots t v h none same = record { at = λ k w at. by k w (behind slots (Some v) k w at) }
  where
    by : (k : ℕ) (w : MirrorSub) → (slot_at slots k ≡ Some w) × (k < length slots) ⊎ (k ≡ length slots) × (Some v ≡ Some w)
        → slot_in w.name (insert_entry string_eq rows t (length slots)) ≡ Some k
    by k w (inl old) =
        let other : bytes_eq w.name (string_bytes t) ≡ false = ap (bytes_eq w.name) same ∙ none k w old.0 in
        slot_noted rows t (length slots) w.name ∙ (ap (λ (b : Bool). if b then Some (length slots) else slot_in w.name rows) other ∙ h.at k w old.0)
    by k w (inr new) =
        let is : v ≡ w = same_Some v w new.1 in
        let mine : bytes_eq w.name (string_bytes t) ≡ true = (bytes_eq-Decides w.name (string_bytes t)).1 (sym (same ∙ ap (λ (u : MirrorSub). u.name) is)) in
        slot_noted rows t (length slots) w.name ∙ (ap (λ (b : Bool). if b then Some (length slots) else slot_in w.name rows) mine ∙ ap Some (sym new.0))

-- ---- a slot is written

set_at : (slots : List Slot) (k j : ℕ) (o : Slot) (w : MirrorSub) → slot_at (slice_set slots k o) j ≡ Some w → (slot_at slots j ≡ Some w) ⊎ (j ≡ k) × (o ≡ Some w)
set_at [] k j o w at = inl at
set_at (q ∷ slots) zero zero o w at = inr (refl, at)
set_at (q ∷ slots) zero (suc j) o w at = inl at
set_at (q ∷ slots) (suc k) zero o w at = inl at
set_at (q ∷ slots) (suc k) (suc j) o w at =
    elim (set_at slots k j o w at) [
      | inl old ↦ inl old
      | inr new ↦ inr (ap suc new.0, new.1)
    ]

pub finds_without : (rows : List SlotRow) (slots : List Slot) (k : ℕ) → FindsSlots rows slots → FindsSlots rows (slice_set slots k None)
finds_without rows slots k h = record {
  at = λ j w at. elim (set_at slots k j None w at) [ inl old ↦ h.at j w old | inr new ↦ absurd (none-some w new.1) ];
}

pub finds_with : (rows : List SlotRow) (slots : List Slot) (k : ℕ) (v u : MirrorSub) → FindsSlots rows slots → slot_at slots k ≡ Some v → u.name ≡ v.name → FindsSlots rows (slice_set slots k (Some u))
finds_with rows slots k v u h was same = record { at = λ j w at. by j w (set_at slots k j (Some u) w at) }
  where
    by : (j : ℕ) (w : MirrorSub) → (slot_at slots j ≡ Some w) ⊎ (j ≡ k) × (Some u ≡ Some w) → slot_in w.name rows ≡ Some j
    by j w (inl old) = h.at j w old
    by j w (inr new) =
        let is : u ≡ w = same_Some u w new.1 in
        let name : v.name ≡ w.name = sym same ∙ ap (λ (x : MirrorSub). x.name) is in
        subst (λ (n : List ℕ). slot_in n rows ≡ Some j) name (h.at k v was ∙ ap Some (sym new.0))

-- ---- the slot of a name

slot_got : (slots : List Slot) (k : ℕ) (v : MirrorSub) → slot_at slots k ≡ Some v → slice_get slots k ≡ Some (Some v)
slot_got [] k v at = absurd (none-some v at)
slot_got (o ∷ slots) zero v at = ap Some at
slot_got (o ∷ slots) (suc k) v at = slot_got slots k v at

slot_from : (slots : List Slot) (k : ℕ) (o : Slot) → slice_get slots k ≡ Some o → slot_at slots k ≡ o
slot_from [] k o at = absurd (none-some o at)
slot_from (q ∷ slots) zero o at = same_Some q o at
slot_from (q ∷ slots) (suc k) o at = slot_from slots k o at

-- a subscription of a name stands in the slot that the table has of the name
named_slot : (rows : List SlotRow) (slots : List Slot) (n : List ℕ) (k : ℕ) (v : MirrorSub) → FindsSlots rows slots → slot_at slots k ≡ Some v → bytes_eq v.name n ≡ true → slot_in n rows ≡ Some k
named_slot rows slots n k v h at named =
    subst (λ (m : List ℕ). slot_in m rows ≡ Some k) ((bytes_eq-Decides v.name n).0 named) (h.at k v at)

pub named_unknown : (rows : List SlotRow) (slots : List Slot) (n : List ℕ) → FindsSlots rows slots → slot_in n rows ≡ None → NoneNamed n slots
named_unknown rows slots n h none k v at = by (bytes_eq v.name n) refl
  where
    by : (b : Bool) → bytes_eq v.name n ≡ b → bytes_eq v.name n ≡ false
    by false e = e
    by true e = absurd (none-some k (sym none ∙ named_slot rows slots n k v h at e))

pub named_other : (rows : List SlotRow) (slots : List Slot) (n : List ℕ) (k : ℕ) → FindsSlots rows slots → slot_in n rows ≡ Some k → is_named_at n (slice_get slots k) ≡ false → NoneNamed n slots
named_other rows slots n k h is other j v at = by (bytes_eq v.name n) refl
  where
    by : (b : Bool) → bytes_eq v.name n ≡ b → bytes_eq v.name n ≡ false
    by false e = e
    by true e =
        let same : k ≡ j = same_Some k j (sym is ∙ named_slot rows slots n j v h at e) in
        sym (ap (is_named_at n) (ap (slice_get slots) same ∙ slot_got slots j v at)) ∙ other

pub named_there : (rows : List SlotRow) (slots : List Slot) (n : List ℕ) (k : ℕ) → FindsSlots rows slots → slot_in n rows ≡ Some k → is_named_at n (slice_get slots k) ≡ true → IsNamedIn n slots k
named_there rows slots n k h is named = by (slice_get slots k) refl named
  where
    by : (o : Option Slot) → slice_get slots k ≡ o → is_named_at n o ≡ true → IsNamedIn n slots k
    by None at e = absurd (false≢true e)
    by (Some None) at e = absurd (false≢true e)
    by (Some (Some v)) at e = record {
      within = slice_get_within slots k (Some v) at;
      sub = v;
      at = slot_from slots k (Some v) at;
      named = e;
      only = λ j w there same. same_Some j k (sym (named_slot rows slots n j w h there same) ∙ is);
    }

-- What slots hold: the subscriptions in their order, whichever slots are empty.
use Rattle.std.proofs.Common.{◌≡◌, ℕ, zero, suc, Bool, true, false, List, [], ◌∷◌, ◌++◌, refl, sym, ap, ◌∙◌, arith}
use Rattle.std.specs.Prelude.{Some, None, not, if◌then◌else◌, filter, find, slice_set}
use Rattle.std.specs.Str.{bytes_eq}
use Rattle.std.proofs.lemmas.Option.{none-some, same_Some}
use Rattle.geo_base.specs.Mirror.{MirrorSub, with_cursor}
use Rattle.audit.specs.Subs.{IsNamedIn, NoneNamed, Slot, held_subs, slot_at, with_cursor_in}

abbrev has_name : List ℕ → MirrorSub → Bool
has_name n v = bytes_eq v.name n

-- ---- the first slot, and the rest

tail_none : (n : List ℕ) (o : Slot) (os : List Slot) → NoneNamed n (o ∷ os) → NoneNamed n os
tail_none n o os h k v at = h (suc k) v at

tail_named : (n : List ℕ) (o : Slot) (os : List Slot) (k : ℕ) → IsNamedIn n (o ∷ os) (suc k) → IsNamedIn n os k
tail_named n o os k h = record {
  within = let lt = h.within in omega (arith, lt);
  sub = h.sub;
  at = h.at;
  named = h.named;
  only = λ j w at named. let same = h.only (suc j) w at named in omega (arith, same);
}

first_named : (n : List ℕ) (v : MirrorSub) (os : List Slot) → IsNamedIn n (Some v ∷ os) zero → bytes_eq v.name n ≡ true
first_named n v os h = ap (λ (u : MirrorSub). bytes_eq u.name n) (same_Some v h.sub h.at) ∙ h.named

rest_none : (n : List ℕ) (v : MirrorSub) (os : List Slot) → IsNamedIn n (Some v ∷ os) zero → NoneNamed n os
rest_none n v os h k w at = by (bytes_eq w.name n) refl
  where
    by : (b : Bool) → bytes_eq w.name n ≡ b → bytes_eq w.name n ≡ false
    by false e = e
    by true e = absurd (let same = h.only (suc k) w at e in omega (arith, same))

first_other : (n : List ℕ) (v : MirrorSub) (os : List Slot) (k : ℕ) → IsNamedIn n (Some v ∷ os) (suc k) → bytes_eq v.name n ≡ false
first_other n v os k h = by (bytes_eq v.name n) refl
  where
    by : (b : Bool) → bytes_eq v.name n ≡ b → bytes_eq v.name n ≡ false
    by false e = e
    by true e = absurd (let same = h.only zero v refl e in omega (arith, same))

-- ---- a name is found

pub not_found : (n : List ℕ) (os : List Slot) → NoneNamed n os → find (has_name n) (held_subs os) ≡ None
not_found n [] h = refl
not_found n (None ∷ os) h = not_found n os (tail_none n None os h)
not_found n (Some v ∷ os) h = rw (h zero v refl) (not_found n os (tail_none n (Some v) os h))

pub found : (n : List ℕ) (os : List Slot) (k : ℕ) → IsNamedIn n os k → find (has_name n) (held_subs os) ≡ slot_at os k
found n [] k h = absurd (let lt = h.within in omega (arith, lt))
found n (None ∷ os) zero h = absurd (none-some h.sub h.at)
found n (None ∷ os) (suc k) h = found n os k (tail_named n None os k h)
found n (Some v ∷ os) zero h = rw (first_named n v os h) refl
found n (Some v ∷ os) (suc k) h = rw (first_other n v os k h) (found n os k (tail_named n (Some v) os k h))

pub none_named : (n : List ℕ) (os : List Slot) → find (has_name n) (held_subs os) ≡ None → NoneNamed n os
none_named n [] h k v at = absurd (none-some v at)
none_named n (None ∷ os) h zero v at = absurd (none-some v at)
none_named n (None ∷ os) h (suc k) v at = none_named n os h k v at
none_named n (Some u ∷ os) h zero v at = by (bytes_eq u.name n) refl h
  where
    by : (b : Bool) → bytes_eq u.name n ≡ b → (if b then Some u else find (has_name n) (held_subs os)) ≡ None → bytes_eq v.name n ≡ false
    by false e g = ap (λ (w : MirrorSub). bytes_eq w.name n) (sym (same_Some u v at)) ∙ e
    by true e g = absurd (none-some u (sym g))
none_named n (Some u ∷ os) h (suc k) v at = by (bytes_eq u.name n) h (λ g. none_named n os g k v at)
  where
    by : (b : Bool) → (if b then Some u else find (has_name n) (held_subs os)) ≡ None → (find (has_name n) (held_subs os) ≡ None → bytes_eq v.name n ≡ false) → bytes_eq v.name n ≡ false
    by false g rest = rest g
    by true g rest = absurd (none-some u (sym g))

-- ---- one is created, deleted, and has another cursor

pub one_more : (os : List Slot) (v : MirrorSub) → held_subs (os ++ Some v ∷ []) ≡ held_subs os ++ v ∷ []
one_more [] v = refl
one_more (None ∷ os) v = one_more os v
one_more (Some u ∷ os) v = ap (λ (vs : List MirrorSub). u ∷ vs) (one_more os v)

pub none_less : (n : List ℕ) (os : List Slot) → NoneNamed n os → held_subs os ≡ filter (λ (v : MirrorSub). not (bytes_eq v.name n)) (held_subs os)
none_less n [] h = refl
none_less n (None ∷ os) h = none_less n os (tail_none n None os h)
none_less n (Some v ∷ os) h = rw (h zero v refl) (ap (λ (vs : List MirrorSub). v ∷ vs) (none_less n os (tail_none n (Some v) os h)))

pub one_less : (n : List ℕ) (os : List Slot) (k : ℕ) → IsNamedIn n os k → held_subs (slice_set os k None) ≡ filter (λ (v : MirrorSub). not (bytes_eq v.name n)) (held_subs os)
one_less n [] k h = absurd (let lt = h.within in omega (arith, lt))
one_less n (None ∷ os) zero h = absurd (none-some h.sub h.at)
one_less n (None ∷ os) (suc k) h = one_less n os k (tail_named n None os k h)
one_less n (Some v ∷ os) zero h = rw (first_named n v os h) (none_less n os (rest_none n v os h))
one_less n (Some v ∷ os) (suc k) h = rw (first_other n v os k h) (ap (λ (vs : List MirrorSub). v ∷ vs) (one_less n os k (tail_named n (Some v) os k h)))

pub none_moved : (n : List ℕ) (f : List ℕ → List ℕ) (os : List Slot) → NoneNamed n os → held_subs os ≡ with_cursor n f (held_subs os)
none_moved n f [] h = refl
none_moved n f (None ∷ os) h = none_moved n f os (tail_none n None os h)
none_moved n f (Some v ∷ os) h = rw (h zero v refl) (ap (λ (vs : List MirrorSub). v ∷ vs) (none_moved n f os (tail_none n (Some v) os h)))

pub one_moved : (n : List ℕ) (f : List ℕ → List ℕ) (os : List Slot) (k : ℕ) → IsNamedIn n os k → held_subs (with_cursor_in f os k) ≡ with_cursor n f (held_subs os)
one_moved n f [] k h = absurd (let lt = h.within in omega (arith, lt))
one_moved n f (None ∷ os) zero h = absurd (none-some h.sub h.at)
one_moved n f (None ∷ os) (suc k) h = one_moved n f os k (tail_named n None os k h)
one_moved n f (Some v ∷ os) zero h =
    rw (first_named n v os h) (ap (λ (vs : List MirrorSub). record { name = v.name; cursor = f v.cursor } ∷ vs) (none_moved n f os (rest_none n v os h)))
one_moved n f (Some v ∷ os) (suc k) h = rw (first_other n v os k h) (ap (λ (vs : List MirrorSub). v ∷ vs) (one_moved n f os k (tail_named n (Some v) os k h)))

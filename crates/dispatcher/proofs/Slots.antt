-- What the slots of a table say of what is out.
use Rattle.std.proofs.Common.{◌≡◌, ℕ, zero, suc, ◌+◌, ◌<◌, ◌≤◌, ◌==◌, nat_lt, Bool, true, false, List, [], ◌∷◌, length, get_or, set, drop, refl, ap, ◌∙◌, sym, arith}
use Rattle.std.specs.Prelude.{not, nat_le, if◌then◌else◌, Option, Some, None}
use Rattle.std.specs.List.{filter, insert, remove}
use Rattle.std.proofs.lemmas.Bool.Decides.{nat_tests}
use Rattle.geo_base.specs.declared.consumer.Unacked.{Unacked}
use Rattle.geo_base.specs.Ascending.{IsAscending, IsHere}
use Rattle.geo_base.specs.Cursor.{has}
use Rattle.geo_base.specs.Dispatcher.{with_out}
use Rattle.geo_base.proofs.Ascending.{gone_here, with_item}
use Rattle.dispatcher.specs.declared.slot.Slot.{Slot}
use Rattle.dispatcher.specs.Slots.{emptiness, empties, is_open, is_out, is_with_other, open_held, other_held, out_before, outs_of, slot_index}
use Rattle.geo_base.proofs.Bools.{by_truth}

-- ---- slots that stay

kept_slot : (b : Bool) (s : Slot) (ss : List Slot) → outs_of (if b then s ∷ ss else ss) ≡ (if b then out_before s.client s.index (outs_of ss) else outs_of ss)
kept_slot true s ss = refl
kept_slot false s ss = refl

one_slot : (o : Option ℕ) (i : ℕ) (b : Bool) (os ps : List Unacked) (q : Unacked → Bool) → os ≡ filter q ps → ((c : ℕ) → o ≡ Some c → b ≡ q (record { index = i; client = c }))
    → (if b then out_before o i os else os) ≡ filter q (out_before o i ps)
one_slot None i true os ps q e h = e
one_slot None i false os ps q e h = e
one_slot (Some c) i b os ps q e h = rw (h c refl, e) refl

-- slots that stay by what is out in them are what stays of it
pub outs_filter : (r : Slot → Bool) (q : Unacked → Bool) (ss : List Slot) → ((s : Slot) (c : ℕ) → s.client ≡ Some c → r s ≡ q (record { index = s.index; client = c }))
    → outs_of (filter r ss) ≡ filter q (outs_of ss)
outs_filter r q [] h = refl
outs_filter r q (s ∷ ss) h = kept_slot (r s) s (filter r ss) ∙ one_slot s.client s.index (r s) (outs_of (filter r ss)) (outs_of ss) q (outs_filter r q ss h) (h s)

kept_empties : (b : Bool) (s : Slot) (ss : List Slot) → empties ss ≡ 0 → (b ≡ true → emptiness s.client ≡ 0) → empties (if b then s ∷ ss else ss) ≡ 0
kept_empties true s ss e h = omega (arith, h refl, e)
kept_empties false s ss e h = e

pub none_empty : (r : Slot → Bool) (ss : List Slot) → ((s : Slot) → r s ≡ true → emptiness s.client ≡ 0) → empties (filter r ss) ≡ 0
none_empty r [] h = refl
none_empty r (s ∷ ss) h = kept_empties (r s) s (filter r ss) (none_empty r ss h) (h s)

pub open_out : (o : Option ℕ) (b : Bool) → open_held o b ≡ true → emptiness o ≡ 0
open_out None b e = absurd (cc)
open_out (Some c) b e = refl

pub other_out : (c : ℕ) (o : Option ℕ) → other_held c o ≡ true → emptiness o ≡ 0
other_out c None e = absurd (cc)
other_out c (Some d) e = refl

pub all_filter : {X : Type 0} (xs : List X) → filter (λ x. true) xs ≡ xs
all_filter [] = refl
all_filter (x ∷ xs) = ap (λ ys. x ∷ ys) (all_filter xs)

pub settled : (ss : List Slot) → outs_of (filter is_out ss) ≡ outs_of ss
settled ss = outs_filter is_out (λ o. true) ss (λ s c e. rw e refl) ∙ all_filter (outs_of ss)

pub open_outs : (is : List ℕ) (ss : List Slot) → outs_of (filter (is_open is) ss) ≡ filter (λ (o : Unacked). not (has is o.index)) (outs_of ss)
open_outs is ss = outs_filter (is_open is) (λ (o : Unacked). not (has is o.index)) ss (λ s c e. rw e refl)

pub other_outs : (c : ℕ) (ss : List Slot) → outs_of (filter (is_with_other c) ss) ≡ filter (λ (o : Unacked). not (o.client == c)) (outs_of ss)
other_outs c ss = outs_filter (is_with_other c) (λ (o : Unacked). not (o.client == c)) ss (λ s d e. rw e refl)

-- those up to an index, and the one of an index
pub outs_behind : (k : ℕ) (ss : List Slot) → outs_of (filter (λ s. not (nat_le (slot_index s) k)) ss) ≡ filter (λ (o : Unacked). not (nat_le o.index k)) (outs_of ss)
outs_behind k ss = outs_filter (λ s. not (nat_le (slot_index s) k)) (λ (o : Unacked). not (nat_le o.index k)) ss (λ s c e. refl)

pub outs_without : (k : ℕ) (ss : List Slot) → outs_of (filter (λ s. not (slot_index s == k)) ss) ≡ filter (λ (o : Unacked). not (o.index == k)) (outs_of ss)
outs_without k ss = outs_filter (λ s. not (slot_index s == k)) (λ (o : Unacked). not (o.index == k)) ss (λ s c e. refl)

fewer : {X : Type 0} (b : Bool) (x : X) (xs : List X) (n : ℕ) → length xs ≤ n → length (if b then x ∷ xs else xs) ≤ suc n
fewer true x xs n h = omega (arith, h)
fewer false x xs n h = omega (arith, h)

pub few_left : {X : Type 0} (p : X → Bool) (xs : List X) → length (filter p xs) ≤ length xs
few_left p [] = omega arith
few_left p (x ∷ xs) = fewer (p x) x (filter p xs) (length xs) (few_left p xs)

-- ---- counted

one_len : (o : Option ℕ) (i : ℕ) (os : List Unacked) (e n : ℕ) → length os + e ≡ n → length (out_before o i os) + (emptiness o + e) ≡ suc n
one_len None i os e n h = omega (arith, h)
one_len (Some c) i os e n h = omega (arith, h)

pub length_outs : (ss : List Slot) → length (outs_of ss) + empties ss ≡ length ss
length_outs [] = refl
length_outs (s ∷ ss) = one_len s.client s.index (outs_of ss) (empties ss) (length ss) (length_outs ss)

pub at_most_one : (o : Option ℕ) → emptiness o ≤ 1
at_most_one None = omega arith
at_most_one (Some c) = omega arith

pub empty_within : (ss : List Slot) (at : ℕ) (d : Slot) → at < length ss → emptiness (get_or ss at d).client ≤ empties ss
empty_within [] at d n = absurd (omega (arith, n))
empty_within (s ∷ ss) zero d n = omega arith
empty_within (s ∷ ss) (suc at) d n = omega (arith, empty_within ss at d (omega (arith, n)))

pub empties_set : (ss : List Slot) (at : ℕ) (x d : Slot) → at < length ss → empties (set ss at x) + emptiness (get_or ss at d).client ≡ empties ss + emptiness x.client
empties_set [] at x d n = absurd (omega (arith, n))
empties_set (s ∷ ss) zero x d n = omega arith
empties_set (s ∷ ss) (suc at) x d n = omega (arith, empties_set ss at x d (omega (arith, n)))

pub empties_insert : (ss : List Slot) (at : ℕ) (x : Slot) → at ≤ length ss → empties (insert ss at x) ≡ empties ss + emptiness x.client
empties_insert [] zero x n = omega arith
empties_insert [] (suc at) x n = absurd (omega (arith, n))
empties_insert (s ∷ ss) zero x n = omega arith
empties_insert (s ∷ ss) (suc at) x n = omega (arith, empties_insert ss at x (omega (arith, n)))

pub empties_rest : (ss : List Slot) (d : Slot) → 0 < length ss → empties (drop 1 ss) + emptiness (get_or ss 0 d).client ≡ empties ss
empties_rest [] d n = absurd (omega (arith, n))
empties_rest (s ∷ ss) d n = omega arith

-- ---- a slot that is emptied, and the first one that goes

pub emptied : (ss : List Slot) (at : ℕ) (x : Slot) → x.client ≡ None → at < length ss → outs_of (set ss at x) ≡ outs_of (remove ss at)
emptied [] at x e n = absurd (omega (arith, n))
emptied (s ∷ ss) zero x e n = rw e refl
emptied (s ∷ ss) (suc at) x e n = ap (λ os. out_before s.client s.index os) (emptied ss at x e (omega (arith, n)))

pub emptied_at : (ss : List Slot) (k at : ℕ) (x : Slot) → x.client ≡ None → IsAscending slot_index ss → IsHere Slot slot_index ss k at → outs_of (set ss at x) ≡ filter (λ (o : Unacked). not (o.index == k)) (outs_of ss)
emptied_at ss k at x e asc here = emptied ss at x e here.within ∙ ap (λ ts. outs_of ts) (sym (gone_here slot_index k ss x at asc here)) ∙ outs_without k ss

first_removed : (ss : List Slot) → 0 < length ss → remove ss 0 ≡ drop 1 ss
first_removed [] n = absurd (omega (arith, n))
first_removed (s ∷ ss) n = refl

pub popped : (ss : List Slot) (k : ℕ) (x : Slot) → IsAscending slot_index ss → IsHere Slot slot_index ss k 0 → outs_of (drop 1 ss) ≡ filter (λ (o : Unacked). not (o.index == k)) (outs_of ss)
popped ss k x asc here = ap (λ ts. outs_of ts) (sym (first_removed ss here.within) ∙ sym (gone_here slot_index k ss x 0 asc here)) ∙ outs_without k ss

pub rest_ascends : (ss : List Slot) → IsAscending slot_index ss → IsAscending slot_index (drop 1 ss)
rest_ascends [] asc i j d lt n = asc i j d lt n
rest_ascends (s ∷ ss) asc i j d lt n = asc (suc i) (suc j) d (omega (arith, lt)) (omega (arith, n))

-- ---- one more

before_slot : (i c : ℕ) (o : Option ℕ) (j : ℕ) (os : List Unacked) → i < j → with_out os (record { index = i; client = c }) ≡ record { index = i; client = c } ∷ os
    → with_out (out_before o j os) (record { index = i; client = c }) ≡ record { index = i; client = c } ∷ out_before o j os
before_slot i c None j os lt e = e
before_slot i c (Some d) j os lt e =
    let less : nat_lt i j ≡ true = grind (arith, nat_tests, lt) in
    rw less refl

-- an index below all of them comes first
first_out : (i c : ℕ) (ss : List Slot) → ((k : ℕ) (d : Slot) → k < length ss → i < (get_or ss k d).index) → with_out (outs_of ss) (record { index = i; client = c }) ≡ record { index = i; client = c } ∷ outs_of ss
first_out i c [] h = refl
first_out i c (s ∷ ss) h = before_slot i c s.client s.index (outs_of ss) (h 0 s (omega arith)) (first_out i c ss (λ k d n. h (suc k) d (omega (arith, n))))

same_slot : (i c j : ℕ) (o : Option ℕ) (os : List Unacked) → nat_lt i j ≡ false → (j == i) ≡ true → with_out os (record { index = i; client = c }) ≡ record { index = i; client = c } ∷ os
    → record { index = i; client = c } ∷ os ≡ with_out (out_before o j os) (record { index = i; client = c })
same_slot i c j None os less same e = sym e
same_slot i c j (Some d) os less same e = rw (less, same) refl

next_slot : (i c j : ℕ) (o : Option ℕ) (os ps : List Unacked) → nat_lt i j ≡ false → (j == i) ≡ false → ps ≡ with_out os (record { index = i; client = c })
    → out_before o j ps ≡ with_out (out_before o j os) (record { index = i; client = c })
next_slot i c j None os ps less same e = e
next_slot i c j (Some d) os ps less same e = rw (less, same) (ap (λ zs. record { index = j; client = d } ∷ zs) e)

pub outs_item : (i c : ℕ) (ss : List Slot) → IsAscending slot_index ss → outs_of (with_item slot_index ss (record { index = i; client = Some c })) ≡ with_out (outs_of ss) (record { index = i; client = c })
outs_item i c [] asc = refl
outs_item i c (s ∷ ss) asc =
    let behind : (k : ℕ) (d : Slot) → k < length ss → s.index < (get_or ss k d).index = λ k d n. asc 0 (suc k) d (omega arith) (omega (arith, n)) in
    by_truth (nat_lt i s.index)
    (λ less.
    let lt : i < s.index = grind (arith, nat_tests, less) in
    rw less (sym (before_slot i c s.client s.index (outs_of ss) lt (first_out i c ss (λ k d n. omega (arith, lt, behind k d n))))))
    (λ less. by_truth (s.index == i)
    (λ same.
    let e : s.index ≡ i = grind (arith, nat_tests, same) in
    rw (less, same) (same_slot i c s.index s.client (outs_of ss) less same (first_out i c ss (λ k d n. omega (arith, e, behind k d n)))))
    (λ other. rw (less, other) (next_slot i c s.index s.client (outs_of ss) (outs_of (with_item slot_index ss (record { index = i; client = Some c }))) less other
    (outs_item i c ss (λ a b d lt n. asc (suc a) (suc b) d (omega (arith, lt)) (omega (arith, n)))))))

longer : (a b : Bool) (o x : Unacked) (xs ys : List Unacked) → length ys ≤ length xs + 1 → length (if a then o ∷ x ∷ xs else if b then o ∷ xs else x ∷ ys) ≤ length xs + 2
longer true b o x xs ys h = omega arith
longer false true o x xs ys h = omega arith
longer false false o x xs ys h = omega (arith, h)

pub length_with_out : (os : List Unacked) (o : Unacked) → length (with_out os o) ≤ length os + 1
length_with_out [] o = omega arith
length_with_out (x ∷ xs) o = omega (arith, longer (nat_lt o.index x.index) (x.index == o.index) o x xs (with_out xs o) (length_with_out xs o))

no_shorter : (a b : Bool) (o x : Unacked) (xs ys : List Unacked) → length xs ≤ length ys → length xs + 1 ≤ length (if a then o ∷ x ∷ xs else if b then o ∷ xs else x ∷ ys)
no_shorter true b o x xs ys h = omega arith
no_shorter false true o x xs ys h = omega arith
no_shorter false false o x xs ys h = omega (arith, h)

pub more_with_out : (os : List Unacked) (o : Unacked) → length os ≤ length (with_out os o)
more_with_out [] o = omega arith
more_with_out (x ∷ xs) o = omega (arith, no_shorter (nat_lt o.index x.index) (x.index == o.index) o x xs (with_out xs o) (more_with_out xs o))

-- ---- what is out at a place, where no slot is empty

first_at : (o : Option ℕ) (i : ℕ) (os : List Unacked) (e : Unacked) → emptiness o ≡ 0 → out_before o i [] ≡ get_or (out_before o i os) 0 e ∷ []
first_at None i os e z = absurd (omega (arith, z))
first_at (Some c) i os e z = refl

next_at : (o : Option ℕ) (i : ℕ) (os w : List Unacked) (k : ℕ) (e : Unacked) → emptiness o ≡ 0 → w ≡ get_or os k e ∷ [] → w ≡ get_or (out_before o i os) (suc k) e ∷ []
next_at None i os w k e z h = absurd (omega (arith, z))
next_at (Some c) i os w k e z h = h

pub out_at : (ss : List Slot) (k : ℕ) (d : Slot) (e : Unacked) → empties ss ≡ 0 → k < length ss → out_before (get_or ss k d).client (get_or ss k d).index [] ≡ get_or (outs_of ss) k e ∷ []
out_at [] k d e z n = absurd (omega (arith, n))
out_at (s ∷ ss) zero d e z n = first_at s.client s.index (outs_of ss) e (omega (arith, z))
out_at (s ∷ ss) (suc k) d e z n = next_at s.client s.index (outs_of ss) _ k e (omega (arith, z)) (out_at ss k d e (omega (arith, z)) (omega (arith, n)))

pub none_before : (o : Option ℕ) (i : ℕ) (x : Unacked) → out_before o i [] ≡ x ∷ [] → o ≡ None → ⊥
none_before None i x h e = absurd (cc)
none_before (Some c) i x h e = absurd (cc)

pub some_before : (o : Option ℕ) (i c : ℕ) (x : Unacked) → out_before o i [] ≡ x ∷ [] → o ≡ Some c → record { index = i; client = c } ≡ x
some_before None i c x h e = absurd (cc)
some_before (Some d) i c x h e = cc

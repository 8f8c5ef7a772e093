-- What a snapshot's positions need here, told entry by entry of the other topic.
use Rattle.std.proofs.Common.{◌≡◌, ℕ, zero, suc, ◌+◌, ◌-◌, ◌<◌, ◌≤◌, ◌==◌, Bool, true, false, List, [], ◌∷◌, ◌++◌, length, get_or, take, inl, inr, refl, sym, ap, subst, ◌∙◌, arith}
use Rattle.std.specs.Prelude.{◌&&◌, ◌||◌, max, nat_lt, nat_le, replicate, Some, not, if◌then◌else◌, slice_get, slice_index, slice_index_or, slice_set}
use Rattle.std.specs.List.{list_all, list_any}
use Rattle.std.proofs.lemmas.Bool.{cases_lt, false≢true}
use Rattle.std.proofs.lemmas.Bool.Decides.{nat_tests}
use Rattle.std.proofs.lemmas.List.{length-replicate, take_more}
use Rattle.std.proofs.lemmas.List.Folds.{list_all-append}
use Rattle.std.proofs.lemmas.Option.{none-some, same_Some, slice_get_within}
use Rattle.geo_base.specs.declared.entry.Entry.{Entry}
use Rattle.geo_base.specs.Audit.{same_entry}
use Rattle.geo_base.specs.Entry.{is_data, meant_for}
use Rattle.geo_base.specs.Mirror.{Mirror, no_mirror}
use Rattle.audit.specs.Covers.{AreCovers, AreCoversOf, AreNeeded, IsMissing, NeededHere, NeedsHere, entries_of, is_covered_in, last_needed}
use Rattle.audit.specs.Stored.{StandsAt, StandsNowhere}
use Rattle.audit.proofs.EntryAcks.{some_at}
use Rattle.geo_base.proofs.Bools.{and_with_false, and_with_true}
use Rattle.geo_base.proofs.Lists.{index_before_push, index_pushed, length_push}

-- ---- one entry

pub needs_none : (x : ℕ) (here : List Entry) (f : Entry) → (is_data f.content && meant_for x f) ≡ false → NeedsHere x here f 0
needs_none x here f free = (omega arith, λ n. rw free (low n))
  where
    low : (n : ℕ) → true ≡ nat_le 0 n
    low n = grind (arith, nat_tests)

pub needs_place : (x : ℕ) (here : List Entry) (f : Entry) (i : ℕ) → (is_data f.content && meant_for x f) ≡ true → StandsAt f here i → NeedsHere x here f (i + 1)
needs_place x here f i must h = (
  (let lt = h.within in omega (arith, lt)),
  λ n. rw must (h.only n ∙ same n),
)
  where
    same : (n : ℕ) → nat_lt i n ≡ nat_le (i + 1) n
    same n = grind (arith, nat_tests)

pub is_missing : (x : ℕ) (here : List Entry) (f : Entry) → (is_data f.content && meant_for x f) ≡ true → StandsNowhere f here → IsMissing x here f
is_missing x here f must h n = rw must (h n)

-- ---- lists

take_end : {X : Type 0} (xs : List X) (k : ℕ) (x : X) → slice_get xs k ≡ Some x → take (k + 1) xs ≡ take k xs ++ x ∷ []
take_end xs k x at =
    let lt : k < length xs = slice_get_within xs k x at in
    let is : get_or xs k x ≡ x = same_Some (get_or xs k x) x (sym (some_at xs k x lt) ∙ at) in
    take_more xs k x lt ∙ ap (λ y. take k xs ++ y ∷ []) is

-- ---- one entry more

last_within : (here there : List Entry) (c : NeededHere) → AreNeeded here there c → last_needed c.needed ≤ length here
last_within here there c h = by (length c.needed == 0) refl
  where
    by : (b : Bool) → (length c.needed == 0) ≡ b → (if b then 0 else slice_index c.needed (length c.needed - 1)) ≤ length here
    by true e = omega arith
    by false e = let some : 0 < length c.needed = grind (arith, nat_tests, e) in h.bounded (length c.needed - 1) (omega (arith, some))

-- those so far
so_far : (here there : List Entry) (c : NeededHere) (n : ℕ) → AreNeeded here there c → list_all (is_covered_in c.own here n) (take (length c.needed) there) ≡ nat_le (last_needed c.needed) n
so_far here there c n h = by (length c.needed == 0) refl
  where
    by : (b : Bool) → (length c.needed == 0) ≡ b → list_all (is_covered_in c.own here n) (take (length c.needed) there) ≡ nat_le (if b then 0 else slice_index c.needed (length c.needed - 1)) n
    by true e = let none : length c.needed ≡ 0 = grind (arith, nat_tests, e) in let all : nat_le 0 n ≡ true = grind (arith, nat_tests) in rw (none, all) refl
    by false e =
        let some : 0 < length c.needed = grind (arith, nat_tests, e) in
        let same : length c.needed ≡ length c.needed - 1 + 1 = omega (arith, some) in
        ap (λ (k : ℕ). list_all (is_covered_in c.own here n) (take k there)) same ∙ h.least (length c.needed - 1) n (omega (arith, some))

max_le : (a b n : ℕ) → (nat_le a n && nat_le b n) ≡ nat_le (max a b) n
max_le a b n = grind (arith, nat_tests)

pub needed_more : (here there : List Entry) (c : NeededHere) (f : Entry) (count : ℕ) → AreNeeded here there c → length c.needed < length there → slice_get there (length c.needed) ≡ Some f
    → NeedsHere c.own here f count → AreNeeded here there (record { own = c.own; there = c.there; needed = c.needed ++ max (last_needed c.needed) count ∷ [] })
needed_more here there c f count h lt at needs = record {
  within = omega (arith, size, lt);
  bounded = λ k small.
      elim (cases_lt k (length c.needed)) [
        | inl old ↦ rw (index_before_push c.needed v k old) (h.bounded k old)
        | inr past ↦
            let a = last_within here there c h in let b = needs.0 in
            rw (index_pushed c.needed v k (omega (arith, past, small, size))) (omega (arith, a, b))
      ];
  least = λ k n small.
      elim (cases_lt k (length c.needed)) [
        | inl old ↦ h.least k n old ∙ ap (λ (s : ℕ). nat_le s n) (sym (index_before_push c.needed v k old))
        | inr past ↦
            let is : k ≡ length c.needed = omega (arith, past, small, size) in
            ap (λ (j : ℕ). list_all (is_covered_in c.own here n) (take (j + 1) there)) is
            ∙ (ap (list_all (is_covered_in c.own here n)) (take_end there (length c.needed) f at)
            ∙ (list_all-append (is_covered_in c.own here n) (take (length c.needed) there) (f ∷ [])
            ∙ (ap (λ (b : Bool). b && (is_covered_in c.own here n f && true)) (so_far here there c n h)
            ∙ (ap (λ (b : Bool). nat_le (last_needed c.needed) n && b) (and_with_true (is_covered_in c.own here n f) ∙ needs.1 n)
            ∙ (max_le (last_needed c.needed) count n ∙ ap (λ (s : ℕ). nat_le s n) (sym (index_pushed c.needed v k is)))))))
      ];
}
  where
    v : ℕ
    v = max (last_needed c.needed) count

    size : length (c.needed ++ v ∷ []) ≡ length c.needed + 1
    size = length_push c.needed v

pub needed_none : (here there : List Entry) (x k : ℕ) → AreNeeded here there (record { own = x; there = k; needed = [] })
needed_none here there x k = record { within = omega arith; bounded = λ i lt. absurd (omega (arith, lt)); least = λ i n lt. absurd (omega (arith, lt)) }

-- an entry that is missing keeps all from being covered
pub one_missing : (p : Entry → Bool) (es : List Entry) (to k : ℕ) (f : Entry) → k < to → slice_get es k ≡ Some f → p f ≡ false → list_all p (take to es) ≡ false
one_missing p [] to k f lt at fails = absurd (none-some f at)
one_missing p (e ∷ es) zero k f lt at fails = absurd (omega (arith, lt))
one_missing p (e ∷ es) (suc to) zero f lt at fails = rw (ap p (same_Some e f at) ∙ fails) refl
one_missing p (e ∷ es) (suc to) (suc k) f lt at fails = rw (one_missing p es to k f (omega (arith, lt)) at fails) (and_with_false (p e))

-- ---- topics that grow

pub take_less : (xs ys : List Entry) (n : ℕ) → n ≤ length xs → take n (xs ++ ys) ≡ take n xs
take_less [] ys zero le = refl
take_less [] ys (suc n) le = absurd (omega (arith, le))
take_less (x ∷ xs) ys zero le = refl
take_less (x ∷ xs) ys (suc n) le = ap (λ (zs : List Entry). x ∷ zs) (take_less xs ys n (omega (arith, le)))

any_more : (p : Entry → Bool) (xs ys : List Entry) (n : ℕ) → length xs ≤ n → list_any p (take (length xs) xs) ≡ true → list_any p (take n (xs ++ ys)) ≡ true
any_more p [] ys n le h = absurd (false≢true h)
any_more p (x ∷ xs) ys zero le h = absurd (omega (arith, le))
any_more p (x ∷ xs) ys (suc n) le h = by (p x) h (λ g. any_more p xs ys n (omega (arith, le)) g)
  where
    by : (b : Bool) → (b || list_any p (take (length xs) xs)) ≡ true → (list_any p (take (length xs) xs) ≡ true → list_any p (take n (xs ++ ys)) ≡ true) → (b || list_any p (take n (xs ++ ys))) ≡ true
    by true g rest = refl
    by false g rest = rest g

covered_more : (x : ℕ) (here more : List Entry) (n : ℕ) (f : Entry) → length here ≤ n → is_covered_in x here (length here) f ≡ true → is_covered_in x (here ++ more) n f ≡ true
covered_more x here more n f le h = by (not (is_data f.content && meant_for x f)) h
  where
    by : (b : Bool) → (b || list_any (same_entry f) (take (length here) here)) ≡ true → (b || list_any (same_entry f) (take n (here ++ more))) ≡ true
    by true g = refl
    by false g = any_more (same_entry f) here more n le g

all_covered_more : (x : ℕ) (here more : List Entry) (n : ℕ) (fs : List Entry) → length here ≤ n → list_all (is_covered_in x here (length here)) fs ≡ true → list_all (is_covered_in x (here ++ more) n) fs ≡ true
all_covered_more x here more n [] le h = refl
all_covered_more x here more n (f ∷ fs) le h = by (is_covered_in x here (length here) f) refl h (λ g. all_covered_more x here more n fs le g)
  where
    by : (b : Bool) → is_covered_in x here (length here) f ≡ b → (b && list_all (is_covered_in x here (length here)) fs) ≡ true
        → (list_all (is_covered_in x here (length here)) fs ≡ true → list_all (is_covered_in x (here ++ more) n) fs ≡ true)
        → (is_covered_in x (here ++ more) n f && list_all (is_covered_in x (here ++ more) n) fs) ≡ true
    by true is g rest = ap (λ (b : Bool). b && list_all (is_covered_in x (here ++ more) n) fs) (covered_more x here more n f le is) ∙ rest g
    by false is g rest = absurd (false≢true g)

all_as_before : (x : ℕ) (here more : List Entry) (n : ℕ) (fs : List Entry) → n ≤ length here → list_all (is_covered_in x (here ++ more) n) fs ≡ list_all (is_covered_in x here n) fs
all_as_before x here more n fs le = ap (λ (hs : List Entry). list_all (λ f. not (is_data f.content && meant_for x f) || list_any (same_entry f) hs) fs) (take_less here more n le)

pub length_both : (xs ys : List Entry) → length xs ≤ length (xs ++ ys)
length_both [] ys = omega arith
length_both (x ∷ xs) ys = let rest = length_both xs ys in omega (arith, rest)

pub needed_grows : (here there more more' : List Entry) (c : NeededHere) → AreNeeded here there c → AreNeeded (here ++ more) (there ++ more') c
needed_grows here there more more' c h = record {
  within = let a = h.within in let b = length_both there more' in omega (arith, a, b);
  bounded = λ k lt. let a = h.bounded k lt in let b = length_both here more in omega (arith, a, b);
  least = λ k n lt.
      let within : k + 1 ≤ length there = let w = h.within in omega (arith, lt, w) in
      ap (list_all (is_covered_in c.own (here ++ more) n)) (take_less there more' (k + 1) within)
      ∙ (elim (cases_lt n (length here)) [
        | inl small ↦ all_as_before c.own here more n (take (k + 1) there) (omega (arith, small)) ∙ h.least k n lt
        | inr large ↦
            let bound = h.bounded k lt in
            let all : nat_le (slice_index c.needed k) (length here) ≡ true = grind (arith, nat_tests, bound) in
            let is : nat_le (slice_index c.needed k) n ≡ true = grind (arith, nat_tests, bound, large) in
            all_covered_more c.own here more n (take (k + 1) there) large (h.least k (length here) lt ∙ all) ∙ sym is
      ]);
}

-- each topic has what it had, and more
pub record Grown (es es' : List Entry) : Type 0 where
  pub more : List Entry
  pub is : es' ≡ es ++ more

abbrev pub AllGrown : List Mirror → List Mirror → Type 0
AllGrown ms ms' = (k : ℕ) → Grown (entries_of ms k) (entries_of ms' k)

pub covers_grow : (ms ms' : List Mirror) (lists : List (List NeededHere)) → length ms' ≡ length ms → AllGrown ms ms' → AreCovers ms lists → AreCovers ms' lists
covers_grow ms ms' lists size grown h = record {
  sized = h.sized ∙ sym size;
  each = λ k i d lt.
      let c : NeededHere = get_or (slice_index_or lists k []) i d in
      rw ((grown k).is, (grown c.there).is)
      (needed_grows (entries_of ms k) (entries_of ms c.there) (grown k).more (grown c.there).more c (h.each k i d lt));
}

append-none : (es : List Entry) → es ++ [] ≡ es
append-none [] = refl
append-none (e ∷ es) = ap (λ (fs : List Entry). e ∷ fs) (append-none es)

-- one topic changes
pub set_entries : (ms : List Mirror) (j k : ℕ) (m : Mirror) → Grown (entries_of ms j) m.entries → Grown (entries_of ms k) (entries_of (slice_set ms j m) k)
set_entries [] j k m g = record { more = []; is = sym (append-none (entries_of [] k)) }
set_entries (n ∷ ms) zero zero m g = g
set_entries (n ∷ ms) zero (suc k) m g = record { more = []; is = sym (append-none (entries_of ms k)) }
set_entries (n ∷ ms) (suc j) zero m g = record { more = []; is = sym (append-none n.entries) }
set_entries (n ∷ ms) (suc j) (suc k) m g = set_entries ms j k m g

pub set_length : (ms : List Mirror) (j : ℕ) (m : Mirror) → length (slice_set ms j m) ≡ length ms
set_length [] j m = refl
set_length (n ∷ ms) zero m = refl
set_length (n ∷ ms) (suc j) m = let rest = set_length ms j m in omega (arith, rest)

pub one_grows : (ms : List Mirror) (lists : List (List NeededHere)) (j : ℕ) (m : Mirror) → Grown (entries_of ms j) m.entries → AreCovers ms lists → AreCovers (slice_set ms j m) lists
one_grows ms lists j m g h = covers_grow ms (slice_set ms j m) lists (set_length ms j m) (λ k. set_entries ms j k m g) h

pub none_grown : (es es' : List Entry) → es' ≡ es → Grown es es'
none_grown es es' same = record { more = []; is = same ∙ sym (append-none es) }

-- ---- one list changes

pub set_list : {X : Type 0} (lists : List (List X)) (j k : ℕ) (cs : List X) (P : ℕ → List X → Type 0) → P j cs → ((i : ℕ) → P i (slice_index_or lists i [])) → P k (slice_index_or (slice_set lists j cs) k [])
set_list [] j k cs P new all = all k
set_list (l ∷ lists) zero zero cs P new all = new
set_list (l ∷ lists) zero (suc k) cs P new all = all (suc k)
set_list (l ∷ lists) (suc j) zero cs P new all = all 0
set_list (l ∷ lists) (suc j) (suc k) cs P new all = set_list lists j k cs (λ i c. P (suc i) c) new (λ i. all (suc i))

pub lists_length : {X : Type 0} (lists : List (List X)) (j : ℕ) (cs : List X) → length (slice_set lists j cs) ≡ length lists
lists_length [] j cs = refl
lists_length (l ∷ lists) zero cs = refl
lists_length (l ∷ lists) (suc j) cs = let rest = lists_length lists j cs in omega (arith, rest)

pub one_list : (ms : List Mirror) (lists : List (List NeededHere)) (j : ℕ) (cs : List NeededHere) → AreCoversOf ms j cs → AreCovers ms lists → AreCovers ms (slice_set lists j cs)
one_list ms lists j cs new h = record {
  sized = lists_length lists j cs ∙ h.sized;
  each = λ k. set_list lists j k cs (λ i c. AreCoversOf ms i c) new h.each;
}

-- ---- nothing was told, and nothing asked for

abbrev no_covers : List NeededHere
no_covers = []

pub get_none : {X : Type 0} (n k : ℕ) (d : X) → slice_index_or (replicate n d) k d ≡ d
get_none zero k d = refl
get_none (suc n) zero d = refl
get_none (suc n) (suc k) d = get_none n k d

pub opening_covers : (n : ℕ) → AreCovers (replicate n no_mirror) (replicate n no_covers)
opening_covers n = record {
  sized = length-replicate n no_covers ∙ sym (length-replicate n no_mirror);
  each = λ k. subst (AreCoversOf (replicate n no_mirror) k) (sym (get_none n k no_covers)) (λ i d lt. absurd (omega (arith, lt)));
}

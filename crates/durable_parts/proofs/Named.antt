-- The subscription of a name among those of a topic, no two of which have one name.
use Rattle.std.proofs.Common.{◌≡◌, ◌∙◌, ℕ, zero, suc, ◌+◌, ◌<◌, ◌≤◌, Bool, true, false, List, [], ◌∷◌, ◌++◌, length, get_or, set, map, position, refl, sym, ap, arith, inl, inr}
use Rattle.std.specs.Prelude.{◌≢◌, Option, Some, None, not, if◌then◌else◌, filter}
use Rattle.std.specs.List.{position_or_len, prefix_len}
use Rattle.std.specs.Str.{bytes_eq}
use Rattle.std.proofs.lemmas.Bool.{cases_lt}
use Rattle.std.proofs.lemmas.Grind.{common_steps}
use Rattle.std.proofs.lemmas.List.{map-set, get_or-map, length-map}
use Rattle.std.proofs.lemmas.List.Kept.{AllPairs-filter}
use Rattle.std.proofs.lemmas.List.Quantifiers.{all_pairs_push, position-Some}
use Rattle.std.proofs.lemmas.List.Sums.{fails_before_first}
use Rattle.std.proofs.lemmas.Slice.Eq.{bytes_eq-Decides}
use Rattle.geo_base.specs.declared.frame.SubKind.TheVariants as sub_kind
use Rattle.geo_base.specs.Broker.{sub_named}
use Rattle.geo_base.specs.Subscription.{Subscription, new_subscription}
use Rattle.durable_parts.specs.declared.durable.DurableSub.{DurableSub}
use Rattle.durable_parts.specs.declared.durable.SubPart.{SubPart}
use Rattle.durable_parts.specs.declared.durable.SubPart.TheVariants as part
use Rattle.durable_parts.specs.Changed.{with_part}
use Rattle.durable_parts.specs.Parts.{AreNamedApart, sub_of, subs_of}
use Rattle.geo_base.proofs.Bools.{true_or_false}

-- a subscription has a name, as a test
abbrev pub is_named : List ℕ → Subscription → Bool
is_named n s = bytes_eq s.name n

-- a name is that of one subscription alone
apart_from : (a b n : List ℕ) → bytes_eq a n ≡ true → bytes_eq a b ≡ false → bytes_eq b n ≡ false
apart_from a b n h other = elim (true_or_false (bytes_eq b n)) [
  | inl also ↦
      let same : a ≡ b = (bytes_eq-Decides a n).0 h ∙ sym ((bytes_eq-Decides b n).0 also) in
      let there : bytes_eq a b ≡ true = (bytes_eq-Decides a b).1 same in
      absurd (cc)
  | inr differs ↦ differs
]

-- those after it have other names, and so have those before it
others : (ss : List Subscription) (n : List ℕ) (at : ℕ) (d : Subscription) → AreNamedApart ss → position (is_named n) ss ≡ Some at → (k : ℕ) → k ≢ at → k < length ss → is_named n (get_or ss k d) ≡ false
others ss n at d apart p k other within =
    let here = position-Some (is_named n) ss at d p in
    elim (cases_lt k at) [
      | inl lt ↦ here.2 k lt
      | inr le ↦ apart_from (get_or ss at d).name (get_or ss k d).name n here.1 (apart at k d (omega (arith, other, le)) within)
    ]

-- the subscription of a name is changed
abbrev pub with_name : (Subscription → Subscription) → List ℕ → Subscription → Subscription
with_name f n s = if bytes_eq s.name n then f s else s

if_so : (b : Bool) (s t : Subscription) → b ≡ true → (if b then s else t) ≡ s
if_so true s t h = refl
if_so false s t h = absurd (cc)

if_not : (b : Bool) (s t : Subscription) → b ≡ false → (if b then s else t) ≡ t
if_not true s t h = absurd (cc)
if_not false s t h = refl

none_changed : (f : Subscription → Subscription) (n : List ℕ) (ss : List Subscription) (d : Subscription) → ((k : ℕ) → k < length ss → is_named n (get_or ss k d) ≡ false) → map (with_name f n) ss ≡ ss
none_changed f n [] d h = refl
none_changed f n (s ∷ ss) d h =
    let head : with_name f n s ≡ s = if_not (bytes_eq s.name n) (f s) s (h 0 (omega arith)) in
    let rest : map (with_name f n) ss ≡ ss = none_changed f n ss d (λ k lt. h (suc k) (omega arith)) in
    ap (λ (x : Subscription). x ∷ map (with_name f n) ss) head ∙ ap (λ (xs : List Subscription). s ∷ xs) rest

one_changed : (f : Subscription → Subscription) (n : List ℕ) (ss : List Subscription) (at : ℕ) (d : Subscription) → at < length ss → is_named n (get_or ss at d) ≡ true → ((k : ℕ) → k ≢ at → k < length ss → is_named n (get_or ss k d) ≡ false) → map (with_name f n) ss ≡ set ss at (f (get_or ss at d))
one_changed f n [] at d lt here rest = absurd (omega arith)
one_changed f n (s ∷ ss) zero d lt here rest =
    let head : with_name f n s ≡ f s = if_so (bytes_eq s.name n) (f s) s here in
    let tail : map (with_name f n) ss ≡ ss = none_changed f n ss d (λ k h. rest (suc k) (λ e. absurd (omega (arith, e))) (omega arith)) in
    ap (λ (x : Subscription). x ∷ map (with_name f n) ss) head ∙ ap (λ (xs : List Subscription). f s ∷ xs) tail
one_changed f n (s ∷ ss) (suc at) d lt here rest =
    let head : with_name f n s ≡ s = if_not (bytes_eq s.name n) (f s) s (rest 0 (λ e. absurd (omega (arith, e))) (omega arith)) in
    let tail : map (with_name f n) ss ≡ set ss at (f (get_or ss at d)) =
    one_changed f n ss at d (omega arith) here (λ k other h. rest (suc k) (λ e. other (omega (arith, e))) (omega arith)) in
    ap (λ (x : Subscription). x ∷ map (with_name f n) ss) head ∙ ap (λ (xs : List Subscription). s ∷ xs) tail

no_place : (p : Subscription → Bool) (ss : List Subscription) → position p ss ≡ None → (d : Subscription) (k : ℕ) → k < length ss → p (get_or ss k d) ≡ false
no_place p ss h d k lt =
    let all : length ss ≤ position_or_len p ss = grind (arith, common_steps) in
    fails_before_first p ss k d (omega (arith, all, lt))

-- where no subscription has the name, nothing changes
pub nothing_changed : (f : Subscription → Subscription) (n : List ℕ) (ss : List Subscription) → position (is_named n) ss ≡ None → map (with_name f n) ss ≡ ss
nothing_changed f n ss h =
    let d = new_subscription [] sub_kind.Exclusive false [] in none_changed f n ss d (λ k lt. no_place (is_named n) ss h d k lt)

-- where one has it, the one at its place changes
pub changed_at : (f : Subscription → Subscription) (n : List ℕ) (ds : List DurableSub) (at : ℕ) (e v : DurableSub) → AreNamedApart (subs_of ds) → position (is_named n) (subs_of ds) ≡ Some at → sub_of v ≡ f (sub_of (get_or ds at e)) → subs_of (set ds at v) ≡ map (with_name f n) (subs_of ds)
changed_at f n ds at e v apart p same =
    let here = position-Some (is_named n) (subs_of ds) at (sub_of e) p in
    let item : get_or (subs_of ds) at (sub_of e) ≡ sub_of (get_or ds at e) = get_or-map sub_of ds at e (sub_of e) (omega (arith, here.0, length-map ds sub_of)) in
    map-set sub_of ds at v
    ∙ ap (λ (s : Subscription). set (subs_of ds) at s) (same ∙ ap f (sym item))
    ∙ sym (one_changed f n (subs_of ds) at (sub_of e) here.0 here.1 (others (subs_of ds) n at (sub_of e) apart p))

kept_name : (b : Bool) (f : Subscription → Subscription) (s : Subscription) → (f s).name ≡ s.name → (if b then f s else s).name ≡ s.name
kept_name true f s h = h
kept_name false f s h = refl

-- names stay, so they stay apart
pub still_apart : (f : Subscription → Subscription) (n : List ℕ) (ss : List Subscription) → ((s : Subscription) → (f s).name ≡ s.name) → AreNamedApart ss → AreNamedApart (map (with_name f n) ss)
still_apart f n ss names apart i j d lt within =
    let many = length-map ss (with_name f n) in
    let one : (get_or (map (with_name f n) ss) i d).name ≡ (get_or ss i d).name = name_at f n ss i d names (omega (arith, many, lt, within)) in
    let two : (get_or (map (with_name f n) ss) j d).name ≡ (get_or ss j d).name = name_at f n ss j d names (omega (arith, many, within)) in
    rw (one, two) (apart i j d lt (omega (arith, many, within)))
  where
    name_at : (f : Subscription → Subscription) (n : List ℕ) (ss : List Subscription) (i : ℕ) (d : Subscription) → ((s : Subscription) → (f s).name ≡ s.name) → i < length ss → (get_or (map (with_name f n) ss) i d).name ≡ (get_or ss i d).name
    name_at f n ss i d names lt =
        ap (λ (s : Subscription). s.name) (get_or-map (with_name f n) ss i d d lt)
        ∙ kept_name (bytes_eq (get_or ss i d).name n) f (get_or ss i d) (names (get_or ss i d))

pub part_keeps_name : (p : SubPart) (s : Subscription) → (with_part p s).name ≡ s.name
part_keeps_name (part.Kind kind replicated) s = refl
part_keeps_name (part.Acks c) s = refl
part_keeps_name (part.Seek c seeks) s = refl

if_found : (b : Bool) (s : Subscription) (o : Option Subscription) → (if b then Some s else o) ≡ None → (b ≡ false) × (o ≡ None)
if_found true s o h = absurd (cc)
if_found false s o h = (refl, h)

none_found : (n : List ℕ) (ss : List Subscription) → sub_named ss n ≡ None → (k : ℕ) (d : Subscription) → k < length ss → bytes_eq (get_or ss k d).name n ≡ false
none_found n [] h k d lt = absurd (omega arith)
none_found n (s ∷ ss) h zero d lt = (if_found (bytes_eq s.name n) s (sub_named ss n) h).0
none_found n (s ∷ ss) h (suc k) d lt = none_found n ss (if_found (bytes_eq s.name n) s (sub_named ss n) h).1 k d (omega arith)

-- a subscription of a new name is apart from the others
pub apart_added : (ss : List Subscription) (s : Subscription) → sub_named ss s.name ≡ None → AreNamedApart ss → AreNamedApart (ss ++ s ∷ [])
apart_added ss s h apart = all_pairs_push (λ (a b : Subscription). bytes_eq a.name b.name ≡ false) ss s apart (none_found s.name ss h)

pub apart_without : (p : Subscription → Bool) (ss : List Subscription) → AreNamedApart ss → AreNamedApart (filter p ss)
apart_without p ss apart = AllPairs-filter (λ (a b : Subscription). bytes_eq a.name b.name ≡ false) p ss apart

-- the place of a name is found among the durable parts
prefix_of_subs : (n : List ℕ) (ds : List DurableSub) → prefix_len (λ (s : Subscription). not (is_named n s)) (subs_of ds) ≡ prefix_len (λ (d : DurableSub). not (bytes_eq d.name n)) ds
prefix_of_subs n [] = refl
prefix_of_subs n (d ∷ ds) = ap (λ k. if not (bytes_eq d.name n) then 1 + k else 0) (prefix_of_subs n ds)

pub place_of_subs : (n : List ℕ) (ds : List DurableSub) → position (is_named n) (subs_of ds) ≡ position (λ (d : DurableSub). bytes_eq d.name n) ds
place_of_subs n ds =
    let many : length (subs_of ds) ≡ length ds = length-map ds sub_of in
    rw (prefix_of_subs n ds, many) refl

-- without those of a name
pub without_name : (n : List ℕ) (ds : List DurableSub) → subs_of (filter (λ (d : DurableSub). not (bytes_eq d.name n)) ds) ≡ filter (λ (s : Subscription). not (bytes_eq s.name n)) (subs_of ds)
without_name n [] = refl
without_name n (d ∷ ds) = by_test (not (bytes_eq d.name n)) d (filter (λ (d : DurableSub). not (bytes_eq d.name n)) ds) ∙ ap (λ (ss : List Subscription). if not (bytes_eq d.name n) then sub_of d ∷ ss else ss) (without_name n ds)
  where
    by_test : (b : Bool) (d : DurableSub) (ds : List DurableSub) → subs_of (if b then d ∷ ds else ds) ≡ (if b then sub_of d ∷ subs_of ds else subs_of ds)
    by_test true d ds = refl
    by_test false d ds = refl

-- What the entries of another topic need here.
use Rattle.std.proofs.Common.{◌≡◌, ℕ, zero, suc, ◌+◌, ◌<◌, Bool, true, false, List, [], ◌∷◌, ◌++◌, length, take, inl, inr, ◌⊎◌, refl, sym, ap, subst, ◌∙◌, arith}
use Rattle.std.specs.Prelude.{◌&&◌, ◌||◌, not, max, nat_le, Some, None, slice_get, slice_index_or}
use Rattle.std.specs.List.{list_all}
use Rattle.std.proofs.lemmas.Bool.Decides.{nat_tests}
use Rattle.std.proofs.lemmas.List.Folds.{list_all-append}
use Rattle.std.proofs.lemmas.Option.{none-some, same_Some}
use Rattle.geo_base.proofs.Bools.{and_with_true}
use Rattle.geo_base.proofs.Lists.{get_some_below, length_push}
use Rattle.geo_base.specs.declared.entry.Entry.{Entry}
use Rattle.geo_base.specs.Entry.{is_data, meant_for}
use Rattle.geo_base.specs.Setup.{Setup}
use Rattle.geo_base.specs.Mirror.{index_at}
use Rattle.geo_base.specs.declared.position.Position.{Position}
use Rattle.observation.specs.Findings.{are_covered, covers_one, is_covered, is_upto}
use Rattle.observation.specs.Observed.{Observation, entries_seen, may_be_later, stands_at, topic_seen}
use Rattle.observe.proofs.Each.{item_at, take_more_at}
use Rattle.observe.specs.Needed.{AreAllNeeds, AreNeeds, NeedOf, covers_upto}

-- ---- one entry

zero_covers : (l : ℕ) → true ≡ nat_le 0 (l + 1)
zero_covers l = grind (arith, nat_tests)

pub needs_none : (x : ℕ) (here : List Entry) (f : Entry) (l : ℕ) → (is_data f.content && meant_for x f) ≡ false → is_covered x here l f ≡ nat_le 0 (l + 1)
needs_none x here f l free = ap (λ (b : Bool). not b || is_upto l (stands_at f here)) free ∙ zero_covers l

place_covers : (k l : ℕ) → nat_le k l ≡ nat_le (k + 1) (l + 1)
place_covers k l = grind (arith, nat_tests)

pub needs_place : (x : ℕ) (here : List Entry) (f : Entry) (k l : ℕ) → (is_data f.content && meant_for x f) ≡ true → stands_at f here ≡ Some k → is_covered x here l f ≡ nat_le (k + 1) (l + 1)
needs_place x here f k l must at = ap (λ (b : Bool). not b || is_upto l (stands_at f here)) must ∙ (ap (is_upto l) at ∙ place_covers k l)

pub needs_more : (x : ℕ) (here : List Entry) (f : Entry) (l : ℕ) → (is_data f.content && meant_for x f) ≡ true → stands_at f here ≡ None → is_covered x here l f ≡ false
needs_more x here f l must at = ap (λ (b : Bool). not b || is_upto l (stands_at f here)) must ∙ ap (is_upto l) at

pub most_of : (a b l : ℕ) → nat_le (max a b) (l + 1) ≡ (nat_le a (l + 1) && nat_le b (l + 1))
most_of a b l = grind (arith, nat_tests)

-- ---- entry by entry

pub record NeededTo (x : ℕ) (here there : List Entry) (ns : List NeedOf) (last : NeedOf) (i : ℕ) : Type 0 where
  pub sized : length ns ≡ i
  pub all : (l : ℕ) → list_all (is_covered x here l) (take i there) ≡ covers_upto last l
  pub least : (j l : ℕ) (n : NeedOf) → slice_get ns j ≡ Some n → list_all (is_covered x here l) (take (j + 1) there) ≡ covers_upto n l

pub none_needed : (x : ℕ) (here there : List Entry) → NeededTo x here there [] (Some 0) 0
none_needed x here there = record { sized = refl; all = λ l. zero_covers l; least = λ j l n at. absurd (none-some n at) }

pushed : {A : Type 0} (ns : List A) (m n : A) (j : ℕ) → slice_get (ns ++ m ∷ []) j ≡ Some n → (slice_get ns j ≡ Some n) ⊎ ((j ≡ length ns) × (m ≡ n))
pushed [] m n zero at = inr (refl, same_Some m n at)
pushed [] m n (suc j) at = absurd (none-some n at)
pushed (a ∷ ns) m n zero at = inl at
pushed (a ∷ ns) m n (suc j) at = elim (pushed ns m n j at) [ inl h ↦ inl h | inr h ↦ inr (ap suc h.0, h.1) ]

pub one_needed : (x : ℕ) (here there : List Entry) (ns : List NeedOf) (last need next : NeedOf) (i : ℕ) (e : Entry) → NeededTo x here there ns last i → slice_get there i ≡ Some e
    → ((l : ℕ) → is_covered x here l e ≡ covers_upto need l) → ((l : ℕ) → covers_upto next l ≡ (covers_upto last l && covers_upto need l)) → NeededTo x here there (ns ++ next ∷ []) next (i + 1)
one_needed x here there ns last need next i e h at is most = record {
  sized = let a = length_push ns next in let b = h.sized in omega (arith, a, b);
  all = whole;
  least = λ j l n is. by j l n (pushed ns next n j is);
}
  where
    whole : (l : ℕ) → list_all (is_covered x here l) (take (i + 1) there) ≡ covers_upto next l
    whole l =
        ap (list_all (is_covered x here l)) (take_more_at there i e at)
        ∙ (list_all-append (is_covered x here l) (take i there) (e ∷ [])
        ∙ (ap (λ (b : Bool). list_all (is_covered x here l) (take i there) && b) (and_with_true (is_covered x here l e) ∙ is l)
        ∙ (ap (λ (b : Bool). b && covers_upto need l) (h.all l) ∙ sym (most l))))

    by : (j l : ℕ) (n : NeedOf) → (slice_get ns j ≡ Some n) ⊎ ((j ≡ length ns) × (next ≡ n)) → list_all (is_covered x here l) (take (j + 1) there) ≡ covers_upto n l
    by j l n (inl old) = h.least j l n old
    by j l n (inr new) =
        ap (λ (k : ℕ). list_all (is_covered x here l) (take (k + 1) there)) (new.0 ∙ h.sized) ∙ (whole l ∙ ap (λ (m : NeedOf). covers_upto m l) new.1)

pub all_needed : (x : ℕ) (here there : List Entry) (ns : List NeedOf) (last : NeedOf) (i : ℕ) → NeededTo x here there ns last i → i ≡ length there → AreNeeds x here there ns
all_needed x here there ns last i h end = record { sized = h.sized ∙ end; least = h.least }

-- ---- cluster by cluster

pub record AllNeedsTo (s : Setup) (o : Observation) (t x : ℕ) (nss : List (List NeedOf)) (i : ℕ) : Type 0 where
  pub sized : length nss ≡ i
  pub each : (y : ℕ) (ns : List NeedOf) → slice_get nss y ≡ Some ns → AreNeeds x (entries_seen s o t x) (entries_seen s o t y) ns

pub no_needs : (s : Setup) (o : Observation) (t x : ℕ) → AllNeedsTo s o t x [] 0
no_needs s o t x = record { sized = refl; each = λ y ns at. absurd (none-some ns at) }

pub more_needs : (s : Setup) (o : Observation) (t x : ℕ) (nss : List (List NeedOf)) (i : ℕ) (ms : List NeedOf) → AllNeedsTo s o t x nss i → AreNeeds x (entries_seen s o t x) (entries_seen s o t i) ms
    → AllNeedsTo s o t x (nss ++ ms ∷ []) (i + 1)
more_needs s o t x nss i ms h new = record {
  sized = let a = length_push nss ms in let b = h.sized in omega (arith, a, b);
  each = λ y ns at. by y ns (pushed nss ms ns y at);
}
  where
    by : (y : ℕ) (ns : List NeedOf) → (slice_get nss y ≡ Some ns) ⊎ ((y ≡ length nss) × (ms ≡ ns)) → AreNeeds x (entries_seen s o t x) (entries_seen s o t y) ns
    by y ns (inl old) = h.each y ns old
    by y ns (inr last) =
        subst (λ (j : ℕ). AreNeeds x (entries_seen s o t x) (entries_seen s o t j) ns) (sym (last.0 ∙ h.sized))
        (subst (AreNeeds x (entries_seen s o t x) (entries_seen s o t i)) last.1 new)

pub all_needs : (s : Setup) (o : Observation) (t x : ℕ) (nss : List (List NeedOf)) (i : ℕ) → AllNeedsTo s o t x nss i → i ≡ length s.clusters → AreAllNeeds s o t x nss
all_needs s o t x nss i h end = record { sized = h.sized ∙ end; each = h.each }

-- those of one cluster
pub needs_at : (s : Setup) (o : Observation) (t x : ℕ) (nss : List (List NeedOf)) (y : ℕ) (ns : List NeedOf) → AreAllNeeds s o t x nss → y < length nss → ns ≡ slice_index_or nss y ns
    → AreNeeds x (entries_seen s o t x) (entries_seen s o t y) ns
needs_at s o t x nss y ns h lt is = h.each y ns (item_at nss nss y ns refl lt is)

pub needs_sized : (s : Setup) (o : Observation) (t x : ℕ) (nss : List (List NeedOf)) (y : ℕ) (ns : List NeedOf) → AreAllNeeds s o t x nss → y < length nss → ns ≡ slice_index_or nss y ns
    → length ns ≡ length (entries_seen s o t y)
needs_sized s o t x nss y ns h lt is = (needs_at s o t x nss y ns h lt is).sized

-- a position of which something is known covers what its index covers
pub covers_index : (s : Setup) (o : Observation) (t x l y : ℕ) (p : Position) (ns : List NeedOf) (j : ℕ) (later b : Bool) → later ≡ may_be_later s o t y p → later ≡ false → index_at (topic_seen s o t y) p ≡ Some j → j < length ns
    → ((n : NeedOf) → slice_get ns j ≡ Some n → b ≡ covers_upto n l) → AreNeeds x (entries_seen s o t x) (entries_seen s o t y) ns → b ≡ covers_one s o t x l y (Some p)
covers_index s o t x l y p ns j later b told none at lt is needs =
    let n = get_some_below ns j lt in
    is n.0 n.1
    ∙ (sym (needs.least j l n.0 n.1)
    ∙ (ap (are_covered x (entries_seen s o t x) l (entries_seen s o t y)) (sym at)
    ∙ ap (λ (c : Bool). c || are_covered x (entries_seen s o t x) l (entries_seen s o t y) (index_at (topic_seen s o t y) p)) (sym none ∙ told)))

-- Nothing due is forgotten, of one subscription: what each change in memory does to what it remembers.
use Rattle.std.proofs.Common.{◌≡◌, ℕ, zero, suc, ◌+◌, ◌<◌, ◌≤◌, Bool, true, false, List, [], ◌∷◌, ◌++◌, filter, refl, sym, ap, subst, ◌∙◌, ◌==◌, arith, inl, inr, ◌⊎◌, nat_le, not}
use Rattle.std.specs.Prelude.{Some, if◌then◌else◌, cond, ◌&&◌, ◌||◌}
use Rattle.std.specs.List.{list_any}
use Rattle.std.proofs.lemmas.Bool.{eqb-true, eq-eqb, false≢true}
use Rattle.std.proofs.lemmas.Bool.Decides.{nat_tests}
use Rattle.std.proofs.lemmas.Option.{none-some, same_Some}
use Rattle.world_laws.proofs.Types.{Unacked}
use Rattle.geo_base.specs.Cursor.{has, with_index, with_indexes}
use Rattle.geo_base.specs.Dispatcher.{is_due, least_due_from, skipped_index}
use Rattle.geo_base.specs.Safe.{is_kept, is_out}
use Rattle.geo_base.specs.Subscription.{Subscription, after_acks, is_attached, with_acks}
use Rattle.world_laws.proofs.Replicating.Cursors.{either, has_it, has_less, has_more, or_left, or_right}
use Rattle.world_laws.proofs.OnceInOrder.Members.{below_or}
use Rattle.world_laws.proofs.Walks.Walk.{by_test, on_if, on_test, left}
pub use Rattle.geo_base.proofs.Bools.{or_not_first as first_false, or_not_second as second_false}

-- m is the number of entries
pub record Remembers (m : ℕ) (v : Subscription) : Type 0 where
  pub outside : (i : ℕ) → i < m → has v.cursor i ≡ false → is_kept v i ≡ true
  pub inside : (i : ℕ) → has v.cursor i ≡ true → (list_any (λ (o : Unacked). o.index == i) v.out || has v.due i) ≡ false
  pub read : v.read_index ≤ m

-- the same without what it says of the cursor's inside: a write of a cursor breaks that, and the change after it brings it back
pub record Nearly (m : ℕ) (v : Subscription) : Type 0 where
  pub outside : (i : ℕ) → i < m → has v.cursor i ≡ false → is_kept v i ≡ true
  pub read : v.read_index ≤ m

pub nearly : (m : ℕ) (v : Subscription) → Remembers m v → Nearly m v
nearly m v r = record { outside = r.outside; read = r.read }

-- tests
pub is_false : (b : Bool) → (b ≡ true → ⊥) → b ≡ false
is_false true h = absurd (h refl)
is_false false h = refl

pub not_false : (b : Bool) → b ≡ false → not b ≡ true
not_false true h = absurd (false≢true (sym h))
not_false false h = refl

pub or_false : (a b : Bool) → a ≡ false → b ≡ false → (a || b) ≡ false
or_false true b h k = absurd (false≢true (sym h))
or_false false b h k = k

pub unlike : (b : Bool) → b ≡ true → b ≡ false → ⊥
unlike b h k = false≢true (sym k ∙ h)

-- sets of indexes
pub has_still : (is set : List ℕ) (i : ℕ) → has set i ≡ true → has (with_indexes set is) i ≡ true
has_still [] set i h = h
has_still (j ∷ is) set i h = has_still is (with_index set j) i (has_more set j i h)

pub has_new : (is set : List ℕ) (i : ℕ) → has is i ≡ true → has (with_indexes set is) i ≡ true
has_new [] set i h = absurd (false≢true h)
has_new (j ∷ is) set i h =
    elim (either (j == i) (has is i) h) [
      | inl e ↦ has_still is (with_index set j) i (subst (λ k. has (with_index set j) k ≡ true) (eqb-true j i e) (has_it set j))
      | inr k ↦ has_new is (with_index set j) i k
    ]

pub has_either : (is set : List ℕ) (i : ℕ) → has (with_indexes set is) i ≡ true → (has set i ≡ true) ⊎ (has is i ≡ true)
has_either [] set i h = inl h
has_either (j ∷ is) set i h =
    elim (has_either is (with_index set j) i h) [
      | inl k ↦ elim (has_less set j i k) [ inl e ↦ inr (or_left (j == i) (has is i) (eq-eqb j i e)) | inr old ↦ inl old ]
      | inr k ↦ inr (or_right (j == i) (has is i) k)
    ]

pub before_more : (is set : List ℕ) (i : ℕ) → has (with_indexes set is) i ≡ false → has set i ≡ false
before_more is set i h = is_false (has set i) (λ t. unlike _ (has_still is set i t) h)

pub has_left : (p : ℕ → Bool) (is : List ℕ) (i : ℕ) → has is i ≡ true → p i ≡ true → has (filter p is) i ≡ true
has_left p [] i h k = h
has_left p (j ∷ is) i h k =
    elim (either (j == i) (has is i) h) [
      | inl e ↦ subst (λ (t : Bool). has (cond t (j ∷ filter p is) (filter p is)) i ≡ true) (sym (ap p (eqb-true j i e) ∙ k)) (or_left (j == i) _ e)
      | inr l ↦ on_if (λ (s : List ℕ). has s i ≡ true) (p j) (j ∷ filter p is) (filter p is) (or_right (j == i) _ (has_left p is i l k)) (has_left p is i l k)
    ]

pub has_out : (p : ℕ → Bool) (is : List ℕ) (i : ℕ) → p i ≡ false → has (filter p is) i ≡ false
has_out p [] i h = refl
has_out p (j ∷ is) i h =
    on_test (λ (s : List ℕ). has s i ≡ false) (p j) (j ∷ filter p is) (filter p is)
    (λ t. or_false (j == i) _ (is_false (j == i) (λ e. unlike (p i) (subst (λ k. p k ≡ true) (eqb-true j i e) t) h)) (has_out p is i h)) (λ _. has_out p is i h)

pub has_fewer : (p : ℕ → Bool) (is : List ℕ) (i : ℕ) → has is i ≡ false → has (filter p is) i ≡ false
has_fewer p [] i h = refl
has_fewer p (j ∷ is) i h =
    let rest = has_fewer p is i (second_false (j == i) (has is i) h) in
    on_if (λ (s : List ℕ). has s i ≡ false) (p j) (j ∷ filter p is) (filter p is) (or_false (j == i) _ (first_false (j == i) (has is i) h) rest) rest

-- lists, one of whose elements passes a test
pub any_weaker : {X : Type 0} (p q : X → Bool) → ((x : X) → p x ≡ true → q x ≡ true) → (xs : List X) → list_any p xs ≡ true → list_any q xs ≡ true
any_weaker p q k [] h = h
any_weaker p q k (x ∷ xs) h =
    elim (either (p x) (list_any p xs) h) [ inl e ↦ or_left (q x) _ (k x e) | inr l ↦ or_right (q x) _ (any_weaker p q k xs l) ]

pub any_left : {X : Type 0} (p : X → Bool) (xs ys : List X) → list_any p xs ≡ true → list_any p (xs ++ ys) ≡ true
any_left p [] ys h = absurd (false≢true h)
any_left p (x ∷ xs) ys h =
    elim (either (p x) (list_any p xs) h) [ inl e ↦ or_left (p x) _ e | inr l ↦ or_right (p x) _ (any_left p xs ys l) ]

pub any_right : {X : Type 0} (p : X → Bool) (xs ys : List X) → list_any p ys ≡ true → list_any p (xs ++ ys) ≡ true
any_right p [] ys h = h
any_right p (x ∷ xs) ys h = or_right (p x) _ (any_right p xs ys h)

pub any_kept : {X : Type 0} (p q : X → Bool) → ((x : X) → p x ≡ true → q x ≡ true) → (xs : List X) → list_any p xs ≡ true → list_any p (filter q xs) ≡ true
any_kept p q k [] h = h
any_kept p q k (x ∷ xs) h =
    elim (either (p x) (list_any p xs) h) [
      | inl e ↦ subst (λ (t : Bool). list_any p (cond t (x ∷ filter q xs) (filter q xs)) ≡ true) (sym (k x e)) (or_left (p x) _ e)
      | inr l ↦ on_if (λ s. list_any p s ≡ true) (q x) (x ∷ filter q xs) (filter q xs) (or_right (p x) _ (any_kept p q k xs l)) (any_kept p q k xs l)
    ]

pub any_gone : {X : Type 0} (p q : X → Bool) → ((x : X) → q x ≡ true → p x ≡ true → ⊥) → (xs : List X) → list_any p (filter q xs) ≡ false
any_gone p q k [] = refl
any_gone p q k (x ∷ xs) =
    on_test (λ s. list_any p s ≡ false) (q x) (x ∷ filter q xs) (filter q xs) (λ t. or_false (p x) _ (is_false (p x) (k x t)) (any_gone p q k xs)) (λ _. any_gone p q k xs)

pub any_fewer : {X : Type 0} (p q : X → Bool) (xs : List X) → list_any p xs ≡ false → list_any p (filter q xs) ≡ false
any_fewer p q [] h = refl
any_fewer p q (x ∷ xs) h =
    let rest = any_fewer p q xs (second_false (p x) (list_any p xs) h) in
    on_if (λ s. list_any p s ≡ false) (q x) (x ∷ filter q xs) (filter q xs) (or_false (p x) _ (first_false (p x) (list_any p xs) h) rest) rest

-- why an index is kept
pub data Kept (v : Subscription) (i : ℕ) : Type 0 where
  Out : is_out v i ≡ true → Kept v i
  Due : has v.due i ≡ true → Kept v i
  Ahead : nat_le v.read_index i ≡ true → Kept v i

pub why_kept : (v : Subscription) (i : ℕ) → is_kept v i ≡ true → Kept v i
why_kept v i h =
    elim (either (is_out v i) (has v.due i || nat_le v.read_index i) h) [
      | inl e ↦ Kept.Out e
      | inr k ↦ elim (either (has v.due i) (nat_le v.read_index i) k) [ inl e ↦ Kept.Due e | inr e ↦ Kept.Ahead e ]
    ]

pub so_kept : (v : Subscription) (i : ℕ) → Kept v i → is_kept v i ≡ true
so_kept v i (Kept.Out e) = or_left (is_out v i) _ e
so_kept v i (Kept.Due e) = or_right (is_out v i) _ (or_left (has v.due i) _ e)
so_kept v i (Kept.Ahead e) = or_right (is_out v i) _ (or_right (has v.due i) _ e)

pub kept_as : (v u : Subscription) (i : ℕ) → (Kept v i → Kept u i) → is_kept v i ≡ true → is_kept u i ≡ true
kept_as v u i f h = so_kept u i (f (why_kept v i h))

-- more entries
pub remembers_more : (m n : ℕ) (v : Subscription) → m ≤ n → Remembers m v → Remembers n v
remembers_more m n v le r = record {
  outside = λ i lt h. elim (below_or i m) [
    | inl old ↦ r.outside i old h
    | inr new ↦ let read = r.read in so_kept v i (Kept.Ahead (grind (arith, nat_tests, read, new)))
  ];
  inside = r.inside;
  read = let read = r.read in omega (arith, read, le);
}

-- nothing was read
pub unread : (m : ℕ) (v : Subscription) → v.out ≡ [] → v.due ≡ [] → v.read_index ≡ 0 → Remembers m v
unread m v out due zero_read = record {
  outside = λ i lt h. so_kept v i (Kept.Ahead (grind (arith, nat_tests, zero_read)));
  inside = λ i h.
      subst (λ (os : List Unacked). (list_any (λ (o : Unacked). o.index == i) os || has v.due i) ≡ false) (sym out)
      (subst (λ (ds : List ℕ). has ds i ≡ false) (sym due) refl);
  read = omega (arith, zero_read);
}

-- acknowledged
pub with_acks_nearly : (m : ℕ) (is : List ℕ) (v : Subscription) → Remembers m v → Nearly m (with_acks is v)
with_acks_nearly m is v r = record { outside = λ i lt h. r.outside i lt (before_more is v.cursor i h); read = r.read }

pub after_acks_remembers : (m : ℕ) (v : Subscription) → Nearly m v → Remembers m (after_acks v)
after_acks_remembers m v r = record {
  outside = λ i lt h. kept_as v (after_acks v) i (kept i h) (r.outside i lt h);
  inside = λ i h.
      or_false _ _
      (any_gone (λ (o : Unacked). o.index == i) (λ (o : Unacked). not (has v.cursor o.index))
      (λ o left is. unlike (has v.cursor o.index) (subst (λ j. has v.cursor j ≡ true) (sym (eqb-true o.index i is)) h) (not_true (has v.cursor o.index) left)) v.out)
      (has_out (λ j. not (has v.cursor j)) v.due i (ap not h));
  read = r.read;
}
  where
    not_true : (b : Bool) → not b ≡ true → b ≡ false
    not_true true h = absurd (false≢true h)
    not_true false h = refl

    kept : (i : ℕ) → has v.cursor i ≡ false → Kept v i → Kept (after_acks v) i
    kept i h (Kept.Out e) =
        Kept.Out (any_kept (λ (o : Unacked). (o.index == i) && is_attached o.client v) (λ (o : Unacked). not (has v.cursor o.index))
        (λ o is. not_false (has v.cursor o.index) (subst (λ j. has v.cursor j ≡ false) (sym (eqb-true o.index i (left (o.index == i) _ is))) h)) v.out e)
    kept i h (Kept.Due e) = Kept.Due (has_left (λ j. not (has v.cursor j)) v.due i e (not_false (has v.cursor i) h))
    kept i h (Kept.Ahead e) = Kept.Ahead e

-- the least index that is due
pub record IsLeast (v : Subscription) (from more i : ℕ) : Type 0 where
  pub low : from ≤ i
  pub high : i < from + more
  pub due : is_due v i ≡ true
  pub before : (j : ℕ) → from ≤ j → j < i → is_due v j ≡ false

pub least_due_is : (v : Subscription) (from more i : ℕ) → least_due_from v from more ≡ Some i → IsLeast v from more i
least_due_is v from zero i e = absurd (none-some i e)
least_due_is v from (suc more) i e = by (is_due v from) refl e (least_due_is v (from + 1) more i)
  where
    by : (t : Bool) → is_due v from ≡ t → (if t then Some from else least_due_from v (from + 1) more) ≡ Some i
        → (least_due_from v (from + 1) more ≡ Some i → IsLeast v (from + 1) more i) → IsLeast v from (suc more) i
    by true h e ih =
        let is : from ≡ i = same_Some _ _ e in
        record { low = omega (arith, is); high = omega (arith, is); due = subst (λ j. is_due v j ≡ true) is h; before = λ j lo hi. absurd (omega (arith, is, lo, hi)) }
    by false h e ih =
        let n = ih e in
        let low = n.low in let high = n.high in
        record {
          low = omega (arith, low);
          high = omega (arith, high);
          due = n.due;
          before = λ j lo hi.
              by_test (from == j) (λ is. subst (λ k. is_due v k ≡ false) (eqb-true from j is) h)
              (λ other. n.before j (grind (arith, nat_tests, other, lo)) hi);
        }

undue : (c x : Bool) → (not c && x) ≡ false → c ≡ false → x ≡ false
undue true x h k = absurd (false≢true (sym k))
undue false x h k = h

-- what is due is outside
pub undued : (v : Subscription) (i : ℕ) → is_due v i ≡ true → has v.cursor i ≡ false
undued v i h = by (has v.cursor i) (has v.due i || nat_le v.read_index i) h
  where
    by : (c x : Bool) → (not c && x) ≡ true → c ≡ false
    by true x h = absurd (false≢true h)
    by false x h = refl

-- of an index that is outside and below the least that is due neither is so
pub below_least : (v : Subscription) (from more i j : ℕ) → IsLeast v from more i → from ≤ j → j < i → has v.cursor j ≡ false
    → (has v.due j || nat_le v.read_index j) ≡ false
below_least v from more i j l lo hi h = undue (has v.cursor j) _ (l.before j lo hi) h

-- reading passes an index: another one that is outside is kept as it was
pub passed_kept : (m i j : ℕ) (v : Subscription) → (j == i) ≡ false → (j < i → (has v.due j || nat_le v.read_index j) ≡ false) → Kept v j → Kept (skipped_index i v) j
passed_kept m i j v other below (Kept.Out e) = Kept.Out e
passed_kept m i j v other below (Kept.Due e) = Kept.Due (has_left (λ k. not (k == i)) v.due j e (ap not other))
passed_kept m i j v other below (Kept.Ahead e) =
    elim (below_or j i) [
      | inl lt ↦ absurd (unlike (nat_le v.read_index j) e (second_false (has v.due j) _ (below lt)))
      | inr ge ↦ Kept.Ahead (grind (arith, nat_tests, e, ge, other))
    ]

pub passed_nearly : (m i : ℕ) (v : Subscription) → i < m → has v.cursor i ≡ true → ((j : ℕ) → j < i → has v.cursor j ≡ false → (has v.due j || nat_le v.read_index j) ≡ false)
    → Nearly m v → Nearly m (skipped_index i v)
passed_nearly m i v lt here below r = record {
  outside = λ j small h.
      let other = is_false (j == i) (λ e. unlike (has v.cursor i) here (subst (λ k. has v.cursor k ≡ false) (eqb-true j i e) h)) in
      kept_as v (skipped_index i v) j (passed_kept m i j v other (λ lo. below j lo h)) (r.outside j small h);
  read = let read = r.read in omega (arith, read, lt);
}

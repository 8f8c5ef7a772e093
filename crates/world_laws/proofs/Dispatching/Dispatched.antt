-- Nothing due is forgotten where consumers come, go and are served.
use Rattle.std.proofs.Common.{◌≡◌, ℕ, zero, suc, ◌+◌, ◌<◌, Bool, true, false, List, [], ◌∷◌, ◌++◌, map, filter, refl, sym, ap, subst, ◌==◌, arith, inl, inr, ◌⊎◌, nat_lt, not, drop, take}
use Rattle.std.specs.Prelude.{if◌then◌else◌, cond, ◌&&◌, min, slice_set}
use Rattle.std.specs.List.{list_any}
use Rattle.std.proofs.lemmas.Bool.{eqb-true, eq-eqb}
use Rattle.std.proofs.lemmas.Bool.{false≢true}
use Rattle.world_laws.proofs.Types.{Consumer, Unacked, SubKind}
use Rattle.world_laws.proofs.Types.sub_kind
use Rattle.geo_base.specs.Cursor.{has}
use Rattle.geo_base.specs.Dispatcher.{consumer_at, given, skipped_index, served, used, with_out}
use Rattle.geo_base.specs.Safe.{is_kept}
use Rattle.geo_base.specs.Subscription.{Subscription, attached, detached, is_attached, is_of, most_permits, out_with, permitted}
use Rattle.world_laws.proofs.Replicating.Cursors.{either, or_left, or_right}
use Rattle.world_laws.proofs.Dispatching.Remembers.{IsLeast, Kept, Remembers, any_fewer, any_kept, any_left, any_right, any_weaker, below_least, first_false, has_either, has_fewer, has_left, has_new, has_out, has_still, is_false, kept_as, not_false, or_false, passed_kept, second_false, undued, unlike}
use Rattle.world_laws.proofs.Walks.Walk.{on_if, on_test, second_follows, left}

-- the consumers change, and each client that had one still has
pub consumers_remember : (m : ℕ) (v : Subscription) (ks : List Consumer) → ((c : ℕ) → is_attached c v ≡ true → list_any (is_of c) ks ≡ true)
    → Remembers m v → Remembers m (record v { consumers = ks })
consumers_remember m v ks stay r = record {
  outside = λ i lt h. kept_as v (record v { consumers = ks }) i (kept i) (r.outside i lt h);
  inside = r.inside;
  read = r.read;
}
  where
    kept : (i : ℕ) → Kept v i → Kept (record v { consumers = ks }) i
    kept i (Kept.Out e) =
        Kept.Out (any_weaker (λ (o : Unacked). (o.index == i) && is_attached o.client v) (λ (o : Unacked). (o.index == i) && list_any (is_of o.client) ks)
        (λ o h. second_follows (o.index == i) (is_attached o.client v) (list_any (is_of o.client) ks) h (stay o.client)) v.out e)
    kept i (Kept.Due e) = Kept.Due e
    kept i (Kept.Ahead e) = Kept.Ahead e

pub attached_remembers : (m : ℕ) (k : Consumer) (v : Subscription) → Remembers m v → Remembers m (attached k v)
attached_remembers m k v r = consumers_remember m v (v.consumers ++ k ∷ []) (λ c h. any_left (is_of c) v.consumers (k ∷ []) h) r

permitted_stay : (d c n : ℕ) (ks : List Consumer) → list_any (is_of c) ks ≡ true
    → list_any (is_of c) (map (λ (k : Consumer). if is_of d k then record k { permits = min most_permits (k.permits + n) } else k) ks) ≡ true
permitted_stay d c n [] h = h
permitted_stay d c n (k ∷ ks) h =
    elim (either (is_of c k) (list_any (is_of c) ks) h) [
      | inl e ↦ or_left (is_of c (if is_of d k then record k { permits = min most_permits (k.permits + n) } else k)) _
          (on_if (λ (x : Consumer). is_of c x ≡ true) (is_of d k) (record k { permits = min most_permits (k.permits + n) }) k e e)
      | inr l ↦ or_right (is_of c (if is_of d k then record k { permits = min most_permits (k.permits + n) } else k)) _ (permitted_stay d c n ks l)
    ]

pub permitted_remembers : (m c n : ℕ) (v : Subscription) → Remembers m v → Remembers m (permitted c n v)
permitted_remembers m c n v r = consumers_remember m v (permitted c n v).consumers (λ d h. permitted_stay c d n v.consumers h) r

-- a client leaves: what was out with it is due, or out with it no more since it is acknowledged
stays : (c d : ℕ) (ks : List Consumer) → (d == c) ≡ false → list_any (is_of d) ks ≡ true → list_any (is_of d) (filter (λ (k : Consumer). not (is_of c k)) ks) ≡ true
stays c d ks other h =
    any_kept (is_of d) (λ (k : Consumer). not (is_of c k))
    (λ k is. not_false (is_of c k) (subst (λ e. (e == c) ≡ false) (sym (eqb-true k.client d is)) other)) ks h

abbrev is_out_among : List Consumer → ℕ → Unacked → Bool
is_out_among ks i o = (o.index == i) && list_any (is_of o.client) ks

left_or_due : (c i : ℕ) (ks : List Consumer) (os : List Unacked) → list_any (is_out_among ks i) os ≡ true
    → (list_any (is_out_among (filter (λ (k : Consumer). not (is_of c k)) ks) i) (filter (λ (o : Unacked). not (o.client == c)) os) ≡ true) ⊎ (has (out_with c os) i ≡ true)
left_or_due c i ks [] h = absurd (false≢true h)
left_or_due c i ks (o ∷ os) h = by (o.client == c) refl (either (is_out_among ks i o) (list_any (is_out_among ks i) os) h) (left_or_due c i ks os)
  where
    left_ks : List Consumer
    left_ks = filter (λ (k : Consumer). not (is_of c k)) ks

    rest : List Unacked
    rest = filter (λ (x : Unacked). not (x.client == c)) os

    by : (t : Bool) → (o.client == c) ≡ t → (is_out_among ks i o ≡ true) ⊎ (list_any (is_out_among ks i) os ≡ true)
        → (list_any (is_out_among ks i) os ≡ true → (list_any (is_out_among left_ks i) rest ≡ true) ⊎ (has (out_with c os) i ≡ true))
        → (list_any (is_out_among left_ks i) (cond (not t) (o ∷ rest) rest) ≡ true) ⊎ (has (if t then o.index ∷ out_with c os else out_with c os) i ≡ true)
    by true e (inl this) ih = inr (or_left (o.index == i) _ (left (o.index == i) _ this))
    by true e (inr more) ih = elim (ih more) [ inl out ↦ inl out | inr due ↦ inr (or_right (o.index == i) _ due) ]
    by false e (inl this) ih =
        inl (or_left (is_out_among left_ks i o) _ (second_follows (o.index == i) (list_any (is_of o.client) ks) (list_any (is_of o.client) left_ks) this (stays c o.client ks e)))
    by false e (inr more) ih = elim (ih more) [ inl out ↦ inl (or_right (is_out_among left_ks i o) _ out) | inr due ↦ inr due ]

pub detached_remembers : (m c : ℕ) (v : Subscription) → Remembers m v → Remembers m (detached c v)
detached_remembers m c v r = record {
  outside = λ i lt h. kept_as v (detached c v) i (kept i h) (r.outside i lt h);
  inside = λ i h.
      let none = r.inside i h in
      or_false _ _
      (any_fewer (λ (o : Unacked). o.index == i) (λ (o : Unacked). not (o.client == c)) v.out (first_false (list_any (λ (o : Unacked). o.index == i) v.out) _ none))
      (is_false _ (λ t. elim (has_either (filter (λ j. not (has v.cursor j)) (out_with c v.out)) v.due i t) [
        | inl e ↦ unlike _ e (second_false (list_any (λ (o : Unacked). o.index == i) v.out) _ none)
        | inr e ↦ unlike _ e (has_out (λ j. not (has v.cursor j)) (out_with c v.out) i (ap not h))
      ]));
  read = r.read;
}
  where
    kept : (i : ℕ) → has v.cursor i ≡ false → Kept v i → Kept (detached c v) i
    kept i h (Kept.Out e) =
        elim (left_or_due c i v.consumers v.out e) [
          | inl out ↦ Kept.Out out
          | inr due ↦ Kept.Due (has_new (filter (λ j. not (has v.cursor j)) (out_with c v.out)) v.due i
              (has_left (λ j. not (has v.cursor j)) (out_with c v.out) i due (not_false (has v.cursor i) h)))
        ]
    kept i h (Kept.Due e) = Kept.Due (has_still (filter (λ j. not (has v.cursor j)) (out_with c v.out)) v.due i e)
    kept i h (Kept.Ahead e) = Kept.Ahead e

-- one more index is out
out_new : (p : Unacked → Bool) (xs : List Unacked) (o : Unacked) → p o ≡ true → list_any p (with_out xs o) ≡ true
out_new p [] o h = or_left (p o) _ h
out_new p (x ∷ xs) o h =
    on_if (λ l. list_any p l ≡ true) (nat_lt o.index x.index) (o ∷ x ∷ xs) _ (or_left (p o) _ h)
    (on_if (λ l. list_any p l ≡ true) (x.index == o.index) (o ∷ xs) (x ∷ with_out xs o) (or_left (p o) _ h) (or_right (p x) _ (out_new p xs o h)))

out_old : (p : Unacked → Bool) (xs : List Unacked) (o : Unacked) → ((x : Unacked) → p x ≡ true → (x.index == o.index) ≡ false)
    → list_any p xs ≡ true → list_any p (with_out xs o) ≡ true
out_old p [] o k h = absurd (false≢true h)
out_old p (x ∷ xs) o k h =
    on_if (λ l. list_any p l ≡ true) (nat_lt o.index x.index) (o ∷ x ∷ xs) _ (or_right (p o) _ h)
    (elim (either (p x) (list_any p xs) h) [
      | inl e ↦ on_test (λ l. list_any p l ≡ true) (x.index == o.index) (o ∷ xs) (x ∷ with_out xs o) (λ is. absurd (unlike (x.index == o.index) is (k x e))) (λ _. or_left (p x) _ e)
      | inr l ↦ on_if (λ l. list_any p l ≡ true) (x.index == o.index) (o ∷ xs) (x ∷ with_out xs o) (or_right (p o) _ l) (or_right (p x) _ (out_old p xs o k l))
    ])

out_none : (p : Unacked → Bool) (xs : List Unacked) (o : Unacked) → p o ≡ false → list_any p xs ≡ false → list_any p (with_out xs o) ≡ false
out_none p [] o k h = or_false (p o) _ k h
out_none p (x ∷ xs) o k h =
    let rest = second_false (p x) (list_any p xs) h in
    on_if (λ l. list_any p l ≡ false) (nat_lt o.index x.index) (o ∷ x ∷ xs) _ (or_false (p o) _ k h)
    (on_if (λ l. list_any p l ≡ false) (x.index == o.index) (o ∷ xs) (x ∷ with_out xs o) (or_false (p o) _ k rest)
    (or_false (p x) _ (first_false (p x) (list_any p xs) h) (out_none p xs o k rest)))

-- consumers keep their clients where one is served
set_stay : (c at : ℕ) (ks : List Consumer) → list_any (is_of c) ks ≡ true → list_any (is_of c) (slice_set ks at (used (consumer_at ks at))) ≡ true
set_stay c at [] h = absurd (false≢true h)
set_stay c zero (k ∷ ks) h = h
set_stay c (suc at) (k ∷ ks) h =
    elim (either (is_of c k) (list_any (is_of c) ks) h) [ inl e ↦ or_left (is_of c k) _ e | inr l ↦ or_right (is_of c k) _ (set_stay c at ks l) ]

behind_stay : (c at : ℕ) (ks : List Consumer) → list_any (is_of c) ks ≡ true
    → list_any (is_of c) (take at ks ++ drop (suc at) ks ++ used (consumer_at ks at) ∷ []) ≡ true
behind_stay c at [] h = absurd (false≢true h)
behind_stay c zero (k ∷ ks) h =
    elim (either (is_of c k) (list_any (is_of c) ks) h) [
      | inl e ↦ any_right (is_of c) ks (used k ∷ []) (or_left (is_of c k) _ e)
      | inr l ↦ any_left (is_of c) ks (used k ∷ []) l
    ]
behind_stay c (suc at) (k ∷ ks) h =
    elim (either (is_of c k) (list_any (is_of c) ks) h) [ inl e ↦ or_left (is_of c k) _ e | inr l ↦ or_right (is_of c k) _ (behind_stay c at ks l) ]

pub served_stay : (kind : SubKind) (c at : ℕ) (ks : List Consumer) → list_any (is_of c) ks ≡ true → list_any (is_of c) (served kind ks at) ≡ true
served_stay sub_kind.Shared c at ks h =
    let next : suc at ≡ at + 1 = omega arith in
    subst (λ n. list_any (is_of c) (take at ks ++ drop n ks ++ used (consumer_at ks at) ∷ []) ≡ true) next (behind_stay c at ks h)
served_stay sub_kind.Exclusive c at ks h = set_stay c at ks h
served_stay sub_kind.Failover c at ks h = set_stay c at ks h
served_stay sub_kind.KeyShared c at ks h = set_stay c at ks h

-- one with a permit is there
pub permitted_there : (at : ℕ) (ks : List Consumer) → 0 < (consumer_at ks at).permits → list_any (is_of (consumer_at ks at).client) ks ≡ true
permitted_there at [] lt = absurd (omega (arith, lt))
permitted_there zero (k ∷ ks) lt = or_left (is_of k.client k) _ (eq-eqb k.client k.client refl)
permitted_there (suc at) (k ∷ ks) lt = or_right (is_of (consumer_at ks at).client k) _ (permitted_there at ks lt)

pub given_remembers : (m i at : ℕ) (v : Subscription) → IsLeast v 0 m i → 0 < (consumer_at v.consumers at).permits → Remembers m v → Remembers m (given i at v)
given_remembers m i at v least permit r = record {
  outside = λ j lt h. outside j h (r.outside j lt h);
  inside = λ j h.
      let none = r.inside j h in
      let other : (i == j) ≡ false = is_false (i == j) (λ e. unlike (has v.cursor i) (subst (λ k. has v.cursor k ≡ true) (sym (eqb-true i j e)) h) (undued v i least.due)) in
      or_false _ _
      (out_none (λ (o : Unacked). o.index == j) v.out (record { index = i; client = (consumer_at v.consumers at).client }) other
      (first_false (list_any (λ (o : Unacked). o.index == j) v.out) _ none))
      (has_fewer (λ k. not (k == i)) v.due j (second_false (list_any (λ (o : Unacked). o.index == j) v.out) _ none));
  read = let read = r.read in let high = least.high in omega (arith, read, high);
}
  where
    client : ℕ
    client = (consumer_at v.consumers at).client

    new : Unacked
    new = record { index = i; client = client }

    is_now : ℕ → Unacked → Bool
    is_now j o = (o.index == j) && list_any (is_of o.client) (served v.kind v.consumers at)

    here : (j : ℕ) → (j == i) ≡ true → Kept (given i at v) j
    here j is =
        Kept.Out (out_new (is_now j) v.out new
        (second_follows (i == j) true (list_any (is_of client) (served v.kind v.consumers at))
        (subst (λ (t : Bool). (t && true) ≡ true) (sym (eq-eqb i j (sym (eqb-true j i is)))) refl)
        (λ _. served_stay v.kind client at v.consumers (permitted_there at v.consumers permit))))

    still : (j : ℕ) → (j == i) ≡ false → Kept (skipped_index i v) j → Kept (given i at v) j
    still j other (Kept.Out e) =
        Kept.Out (out_old (is_now j) v.out new
        (λ x is. subst (λ k. (k == i) ≡ false) (sym (eqb-true x.index j (left (x.index == j) _ is))) other)
        (any_weaker (λ (o : Unacked). (o.index == j) && is_attached o.client v) (is_now j)
        (λ o h. second_follows (o.index == j) (is_attached o.client v) _ h (served_stay v.kind o.client at v.consumers)) v.out e))
    still j other (Kept.Due e) = Kept.Due e
    still j other (Kept.Ahead e) = Kept.Ahead e

    outside : (j : ℕ) → has v.cursor j ≡ false → is_kept v j ≡ true → is_kept (given i at v) j ≡ true
    outside j h kept = by (j == i) refl
      where
        by : (t : Bool) → (j == i) ≡ t → is_kept (given i at v) j ≡ true
        by true e = kept_as v (given i at v) j (λ _. here j e) kept
        by false e =
            kept_as v (given i at v) j (λ k. still j e (passed_kept m i j v e (λ lo. below_least v 0 m i j least (omega arith) lo h) k)) kept

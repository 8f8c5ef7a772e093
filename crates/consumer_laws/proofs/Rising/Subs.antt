-- Of one subscription that serves one consumer at a time: no index at or below one that was sent to the first consumer in its session is
-- due, and nothing was sent to any other in its. What each change in memory does to that.
use Rattle.std.proofs.Common.{◌≡◌, ℕ, ◌+◌, ◌<◌, ◌≤◌, Bool, true, false, List, [], ◌∷◌, ◌++◌, filter, map, refl, sym, ap, subst, ◌∙◌, ◌==◌, not}
use Rattle.std.specs.Prelude.{Some, if◌then◌else◌, ◌||◌, ◌&&◌, min, nat_le, slice_set}
use Rattle.std.specs.List.{list_any}
use Rattle.std.proofs.lemmas.Bool.{eqb-false, eqb-true, false≢true}
use Rattle.world_laws.proofs.Types.{Consumer, Entry, Frame, Unacked, Packet, SubKind}
use Rattle.world_laws.proofs.Types.frame
use Rattle.world_laws.proofs.Types.sub_kind
use Rattle.geo_base.specs.Cursor.{has, with_indexes}
use Rattle.geo_base.specs.Dispatcher.{consumer_at, given, is_due, pick, served, used}
use Rattle.geo_base.specs.Settled.{serves_one}
use Rattle.geo_base.specs.Subscription.{Subscription, attached, cleared, detached, is_of, most_permits, out_with, permitted}
use Rattle.geo_base.specs.Topic.{index_of}
use Rattle.world_laws.proofs.Clients.ClientLinks.{Packets}
use Rattle.world_laws.proofs.Merges.PeerWalk.{each_filter}
use Rattle.world_laws.proofs.Replicating.Effects.{Each, each_both, each_map}
use Rattle.world_laws.proofs.Walks.Walk.{on_if, on_test}
use Rattle.consumer_laws.proofs.Subscriptions.Plans.{Free}
use Rattle.consumer_laws.proofs.Subscriptions.WhatIsOut.{HeadOf, Makes, OutFact, SubFact, first_picked, served_made}

-- ---- packets

-- it is no message of this session to this consumer
abbrev pub NoneOf : ℕ → ℕ → ℕ → Frame → Type 0
NoneOf session id s (frame.Message a p source e) = s ≡ session → a ≡ id → ⊥
NoneOf session id s f = Unit {0}

-- if it is, it gives a stored index, and none at or below that is due
abbrev pub UndueOf : List ℕ → (ℕ → Bool) → ℕ → ℕ → ℕ → Frame → Type 0
UndueOf ls due session id s (frame.Message a p source e) = s ≡ session → a ≡ id → (i : ℕ) × (index_of ls p ≡ Some i) × ((j : ℕ) → j ≤ i → due j ≡ false)
UndueOf ls due session id s f = Unit {0}

none_undue : (ls : List ℕ) (due : ℕ → Bool) (session id s : ℕ) (f : Frame) → NoneOf session id s f → UndueOf ls due session id s f
none_undue ls due session id s (frame.Message a p source e) h = λ same is. absurd (h same is)
none_undue ls due session id s f h = tt

pub fewer_undue : (ls : List ℕ) (due less : ℕ → Bool) (session id s : ℕ) (f : Frame) → ((j : ℕ) → due j ≡ false → less j ≡ false) → UndueOf ls due session id s f → UndueOf ls less session id s f
fewer_undue ls due less session id s (frame.Message a p source e) k h = λ same is. let u = h same is in (u.0, u.1, λ j le. k j (u.2 j le))
fewer_undue ls due less session id s f k h = tt

-- ---- consumers, num being the number of each client's session, sent what was sent to each

abbrev pub NoneTo : (ℕ → ℕ) → (ℕ → List Packet) → Consumer → Type 0
NoneTo num sent k = Packets (NoneOf (num k.client) k.id) (sent k.client)

abbrev pub UndueTo : List ℕ → (ℕ → ℕ) → (ℕ → List Packet) → (ℕ → Bool) → Consumer → Type 0
UndueTo ls num sent due k = Packets (UndueOf ls due (num k.client) k.id) (sent k.client)

abbrev pub RiseOf : List ℕ → (ℕ → ℕ) → (ℕ → List Packet) → (ℕ → Bool) → List Consumer → Type 0
RiseOf ls num sent due [] = Unit {0}
RiseOf ls num sent due (k ∷ ks) = UndueTo ls num sent due k × Each (NoneTo num sent) ks

-- each client is there once
abbrev pub Apart : List Consumer → Type 0
Apart [] = Unit {0}
Apart (k ∷ ks) = Each (λ (j : Consumer). (j.client == k.client) ≡ false) ks × Apart ks

pub record RiseFact (joined : ℕ → ℕ → Type 0) (ls : List ℕ) (num : ℕ → ℕ) (sent : ℕ → List Packet) (v : Subscription) : Type 0 where
  pub joins : Each (λ (k : Consumer). joined k.client k.id) v.consumers
  pub one : serves_one v.kind ≡ true → Apart v.consumers × RiseOf ls num sent (is_due v) v.consumers

undue_to : (ls : List ℕ) (num : ℕ → ℕ) (sent : ℕ → List Packet) (due : ℕ → Bool) (k : Consumer) → NoneTo num sent k → UndueTo ls num sent due k
undue_to ls num sent due k h =
    each_map (λ (p : Packet). NoneOf (num k.client) k.id p.session p.frame) (λ (p : Packet). UndueOf ls due (num k.client) k.id p.session p.frame)
    (λ p g. none_undue ls due (num k.client) k.id p.session p.frame g) (sent k.client) h

less_to : (ls : List ℕ) (num : ℕ → ℕ) (sent : ℕ → List Packet) (due less : ℕ → Bool) (k : Consumer) → ((j : ℕ) → due j ≡ false → less j ≡ false) → UndueTo ls num sent due k → UndueTo ls num sent less k
less_to ls num sent due less k f h =
    each_map (λ (p : Packet). UndueOf ls due (num k.client) k.id p.session p.frame) (λ (p : Packet). UndueOf ls less (num k.client) k.id p.session p.frame)
    (λ p g. fewer_undue ls due less (num k.client) k.id p.session p.frame f g) (sent k.client) h

pub rise_less : (ls : List ℕ) (num : ℕ → ℕ) (sent : ℕ → List Packet) (due less : ℕ → Bool) (ks : List Consumer) → ((j : ℕ) → due j ≡ false → less j ≡ false) → RiseOf ls num sent due ks
    → RiseOf ls num sent less ks
rise_less ls num sent due less [] f h = tt
rise_less ls num sent due less (k ∷ ks) f h = (less_to ls num sent due less k f h.0, h.1)

-- where nothing was sent to anybody
all_rise : (ls : List ℕ) (num : ℕ → ℕ) (sent : ℕ → List Packet) (due : ℕ → Bool) (ks : List Consumer) → Each (NoneTo num sent) ks → RiseOf ls num sent due ks
all_rise ls num sent due [] h = tt
all_rise ls num sent due (k ∷ ks) h = (undue_to ls num sent due k h.0, h.1)

-- ---- what is due falls

pub less_due : (v w : Subscription) → ((j : ℕ) → has v.cursor j ≡ true → has w.cursor j ≡ true) → ((j : ℕ) → (has v.due j || nat_le v.read_index j) ≡ false → (has w.due j || nat_le w.read_index j) ≡ false) → (j : ℕ)
    → is_due v j ≡ false → is_due w j ≡ false
less_due v w more fewer j h = by (has v.cursor j) (has v.due j || nat_le v.read_index j) refl refl h
  where
    by : (c d : Bool) → has v.cursor j ≡ c → (has v.due j || nat_le v.read_index j) ≡ d → (not c && d) ≡ false → is_due w j ≡ false
    by true d is_c is_d g = subst (λ (t : Bool). (not t && (has w.due j || nat_le w.read_index j)) ≡ false) (sym (more j is_c)) refl
    by false true is_c is_d g = absurd (false≢true (sym g))
    by false false is_c is_d g = subst (λ (t : Bool). (not (has w.cursor j) && t) ≡ false) (sym (fewer j is_d)) (none (has w.cursor j))
      where
        none : (t : Bool) → (not t && false) ≡ false
        none true = refl
        none false = refl

-- the same consumers and kind, and no more is due
pub fewer_fact : (joined : ℕ → ℕ → Type 0) (ls : List ℕ) (num : ℕ → ℕ) (sent : ℕ → List Packet) (v w : Subscription) → w.consumers ≡ v.consumers → w.kind ≡ v.kind
    → ((j : ℕ) → is_due v j ≡ false → is_due w j ≡ false) → RiseFact joined ls num sent v → RiseFact joined ls num sent w
fewer_fact joined ls num sent v w same kind less h = record {
  joins = subst (Each (λ (k : Consumer). joined k.client k.id)) (sym same) h.joins;
  one = λ one.
      let g = h.one (sym (ap serves_one kind) ∙ one) in
      subst (λ (ks : List Consumer). Apart ks × RiseOf ls num sent (is_due w) ks) (sym same) (g.0, rise_less ls num sent (is_due v) (is_due w) v.consumers less g.1);
}

-- ---- changes in memory

pub rise_cleared : (joined : ℕ → ℕ → Type 0) (ls : List ℕ) (num : ℕ → ℕ) (sent : ℕ → List Packet) (v : Subscription) → RiseFact joined ls num sent (cleared v)
rise_cleared joined ls num sent v = record { joins = tt; one = λ one. (tt, tt) }

-- a consumer joins, to whom nothing was sent
apart_more : (ks : List Consumer) (k : Consumer) → list_any (is_of k.client) ks ≡ false → Apart ks → Apart (ks ++ k ∷ [])
apart_more [] k none h = (tt, tt)
apart_more (j ∷ ks) k none h = (each_both (λ (i : Consumer). (i.client == j.client) ≡ false) ks (k ∷ []) h.0 (back (j.client == k.client) refl (first_off (is_of k.client j) (list_any (is_of k.client) ks) none), tt), apart_more ks k (second_off (is_of k.client j) (list_any (is_of k.client) ks) none) h.1)
  where
    first_off : (a b : Bool) → (a || b) ≡ false → a ≡ false
    first_off true b e = e
    first_off false b e = refl

    second_off : (a b : Bool) → (a || b) ≡ false → b ≡ false
    second_off true b e = absurd (false≢true (sym e))
    second_off false b e = e

    back : (t : Bool) → (j.client == k.client) ≡ t → (j.client == k.client) ≡ false → (k.client == j.client) ≡ false
    back t is off = by (k.client == j.client) refl
      where
        by : (u : Bool) → (k.client == j.client) ≡ u → u ≡ false
        by true e = absurd (eqb-false j.client k.client off (sym (eqb-true k.client j.client e)))
        by false e = refl

rise_more : (ls : List ℕ) (num : ℕ → ℕ) (sent : ℕ → List Packet) (due : ℕ → Bool) (ks : List Consumer) (k : Consumer) → NoneTo num sent k → RiseOf ls num sent due ks → RiseOf ls num sent due (ks ++ k ∷ [])
rise_more ls num sent due [] k none h = (undue_to ls num sent due k none, tt)
rise_more ls num sent due (j ∷ ks) k none h = (h.0, each_both (NoneTo num sent) ks (k ∷ []) h.1 (none, tt))

pub rise_attached : (joined : ℕ → ℕ → Type 0) (ls : List ℕ) (num : ℕ → ℕ) (sent : ℕ → List Packet) (k : Consumer) (v : Subscription) → joined k.client k.id → NoneTo num sent k
    → list_any (is_of k.client) v.consumers ≡ false → RiseFact joined ls num sent v → RiseFact joined ls num sent (attached k v)
rise_attached joined ls num sent k v made none free h = record {
  joins = each_both (λ (j : Consumer). joined j.client j.id) v.consumers (k ∷ []) h.joins (made, tt);
  one = λ one. let g = h.one one in (apart_more v.consumers k free g.0, rise_more ls num sent (is_due v) v.consumers k none g.1);
}

-- permits change no consumer's client and id
abbrev permits_on : ℕ → ℕ → Consumer → Consumer
permits_on c n k = if is_of c k then record k { permits = min most_permits (k.permits + n) } else k

same_client : (P : ℕ → ℕ → Type 0) (c n : ℕ) (k : Consumer) → P k.client k.id → P (permits_on c n k).client (permits_on c n k).id
same_client P c n k h = on_if (λ (j : Consumer). P j.client j.id) (is_of c k) (record k { permits = min most_permits (k.permits + n) }) k h h

each_permits : (P : ℕ → ℕ → Type 0) (c n : ℕ) (ks : List Consumer) → Each (λ (k : Consumer). P k.client k.id) ks → Each (λ (k : Consumer). P k.client k.id) (map (permits_on c n) ks)
each_permits P c n [] h = tt
each_permits P c n (k ∷ ks) h = (same_client P c n k h.0, each_permits P c n ks h.1)

apart_permits : (c n : ℕ) (ks : List Consumer) → Apart ks → Apart (map (permits_on c n) ks)
apart_permits c n [] h = tt
apart_permits c n (k ∷ ks) h = (
  same_client (λ z id. Each (λ (j : Consumer). (j.client == z) ≡ false) (map (permits_on c n) ks)) c n k (each_permits (λ z id. (z == k.client) ≡ false) c n ks h.0),
  apart_permits c n ks h.1,
)

rise_permits : (ls : List ℕ) (num : ℕ → ℕ) (sent : ℕ → List Packet) (due : ℕ → Bool) (c n : ℕ) (ks : List Consumer) → RiseOf ls num sent due ks → RiseOf ls num sent due (map (permits_on c n) ks)
rise_permits ls num sent due c n [] h = tt
rise_permits ls num sent due c n (k ∷ ks) h = (
  same_client (λ z id. Packets (UndueOf ls due (num z) id) (sent z)) c n k h.0,
  each_permits (λ z id. Packets (NoneOf (num z) id) (sent z)) c n ks h.1,
)

pub rise_permitted : (joined : ℕ → ℕ → Type 0) (ls : List ℕ) (num : ℕ → ℕ) (sent : ℕ → List Packet) (c n : ℕ) (v : Subscription) → RiseFact joined ls num sent v → RiseFact joined ls num sent (permitted c n v)
rise_permitted joined ls num sent c n v h = record {
  joins = each_permits joined c n v.consumers h.joins;
  one = λ one. let g = h.one one in (apart_permits c n v.consumers g.0, rise_permits ls num sent (is_due v) c n v.consumers g.1);
}

-- a client leaves
apart_filter : (p : Consumer → Bool) (ks : List Consumer) → Apart ks → Apart (filter p ks)
apart_filter p [] h = tt
apart_filter p (k ∷ ks) h =
    on_if Apart (p k) (k ∷ filter p ks) (filter p ks) (each_filter (λ (j : Consumer). (j.client == k.client) ≡ false) p ks h.0, apart_filter p ks h.1) (apart_filter p ks h.1)

-- nothing is out with it where all is out with another one
none_with : (c z : ℕ) (os : List Unacked) → (z == c) ≡ false → Each (λ (o : Unacked). o.client ≡ z) os → out_with c os ≡ []
none_with c z [] other h = refl
none_with c z (o ∷ os) other h =
    let off : (o.client == c) ≡ false = subst (λ (y : ℕ). (y == c) ≡ false) (sym h.0) other in
    subst (λ (t : Bool). (if t then o.index ∷ out_with c os else out_with c os) ≡ []) (sym off) (none_with c z os other h.1)

left_due : (c : ℕ) (v : Subscription) → out_with c v.out ≡ [] → (j : ℕ) → is_due v j ≡ false → is_due (detached c v) j ≡ false
left_due c v none j h = subst (λ (is : List ℕ). (not (has v.cursor j) && (has (with_indexes v.due (filter (λ i. not (has v.cursor i)) is)) j || nat_le v.read_index j)) ≡ false) (sym none) h

rise_left : (es : List Entry) (ls : List ℕ) (num : ℕ → ℕ) (sent : ℕ → List Packet) (c : ℕ) (v : Subscription) (ks : List Consumer) → v.consumers ≡ ks → Each (λ (o : Unacked). HeadOf es num sent ks o) v.out
    → RiseOf ls num sent (is_due v) ks → RiseOf ls num sent (is_due (detached c v)) (filter (λ (k : Consumer). not (is_of c k)) ks)
rise_left es ls num sent c v [] is out h = tt
rise_left es ls num sent c v (k ∷ ks) is out h =
    on_test (RiseOf ls num sent (is_due (detached c v))) (not (is_of c k)) (k ∷ filter (λ (j : Consumer). not (is_of c j)) ks) (filter (λ (j : Consumer). not (is_of c j)) ks)
    (λ stays. (
      less_to ls num sent (is_due v) (is_due (detached c v)) k
          (left_due c v (none_with c k.client v.out (off (is_of c k) stays) (each_map (λ (o : Unacked). HeadOf es num sent (k ∷ ks) o) (λ (o : Unacked). o.client ≡ k.client) (λ o g. g.0) v.out out))) h.0,
      each_filter (NoneTo num sent) (λ (j : Consumer). not (is_of c j)) ks h.1,
    ))
    (λ leaves. all_rise ls num sent (is_due (detached c v)) (filter (λ (j : Consumer). not (is_of c j)) ks) (each_filter (NoneTo num sent) (λ (j : Consumer). not (is_of c j)) ks h.1))
  where
    off : (b : Bool) → not b ≡ true → b ≡ false
    off true e = absurd (false≢true e)
    off false e = refl

pub rise_detached : (mine : Makes) (es : List Entry) (joined : ℕ → ℕ → Type 0) (ls : List ℕ) (num : ℕ → ℕ) (sent : ℕ → List Packet) (c : ℕ) (v : Subscription) → SubFact mine es num sent v
    → RiseFact joined ls num sent v → RiseFact joined ls num sent (detached c v)
rise_detached mine es joined ls num sent c v out h = record {
  joins = each_filter (λ (k : Consumer). joined k.client k.id) (λ (k : Consumer). not (is_of c k)) v.consumers h.joins;
  one = λ one.
      let g = h.one one in (
        apart_filter (λ (k : Consumer). not (is_of c k)) v.consumers g.0,
        rise_left es ls num sent c v v.consumers refl
            (each_map (OutFact es num sent v.kind v.consumers) (λ (o : Unacked). HeadOf es num sent v.consumers o) (λ o f. f.head one) v.out out.out) g.1,
      );
}

-- a message is given: to the first, where one is served
rise_served : (ls : List ℕ) (num : ℕ → ℕ) (sent : ℕ → List Packet) (due : ℕ → Bool) (kind : SubKind) (ks : List Consumer) (at : ℕ) → serves_one kind ≡ true → at ≡ 0
    → Apart ks × RiseOf ls num sent due ks → Apart (served kind ks at) × RiseOf ls num sent due (served kind ks at)
rise_served ls num sent due sub_kind.Shared ks at one is h = absurd (false≢true one)
rise_served ls num sent due sub_kind.KeyShared ks at one is h = absurd (false≢true one)
rise_served ls num sent due sub_kind.Exclusive ks at one is h =
    subst (λ (a : ℕ). Apart (slice_set ks a (used (consumer_at ks a))) × RiseOf ls num sent due (slice_set ks a (used (consumer_at ks a)))) (sym is) (first_used ls num sent due ks h)
  where
    first_used : (ls : List ℕ) (num : ℕ → ℕ) (sent : ℕ → List Packet) (due : ℕ → Bool) (js : List Consumer) → Apart js × RiseOf ls num sent due js
        → Apart (slice_set js 0 (used (consumer_at js 0))) × RiseOf ls num sent due (slice_set js 0 (used (consumer_at js 0)))
    first_used ls num sent due [] g = g
    first_used ls num sent due (k ∷ js) g = g
rise_served ls num sent due sub_kind.Failover ks at one is h =
    subst (λ (a : ℕ). Apart (slice_set ks a (used (consumer_at ks a))) × RiseOf ls num sent due (slice_set ks a (used (consumer_at ks a)))) (sym is) (first_used ls num sent due ks h)
  where
    first_used : (ls : List ℕ) (num : ℕ → ℕ) (sent : ℕ → List Packet) (due : ℕ → Bool) (js : List Consumer) → Apart js × RiseOf ls num sent due js
        → Apart (slice_set js 0 (used (consumer_at js 0))) × RiseOf ls num sent due (slice_set js 0 (used (consumer_at js 0)))
    first_used ls num sent due [] g = g
    first_used ls num sent due (k ∷ js) g = g

-- what is left to say of the one to whom it goes is said with what was sent to it by then
pub rise_given : (joined : ℕ → ℕ → Type 0) (ls : List ℕ) (num : ℕ → ℕ) (sent : ℕ → List Packet) (i at : ℕ) (v : Subscription) (key : List ℕ) → pick v.kind v.consumers key ≡ Some at
    → 0 < (consumer_at v.consumers at).permits → Each (λ (k : Consumer). joined k.client k.id) v.consumers
    → (serves_one v.kind ≡ true → Apart v.consumers × RiseOf ls num sent (is_due (given i at v)) v.consumers) → RiseFact joined ls num sent (given i at v)
rise_given joined ls num sent i at v key picked permit joins h = record {
  joins = served_made (λ n kind c id. joined c id) v.name v.kind v.consumers at permit joins;
  one = λ one. rise_served ls num sent (is_due (given i at v)) v.kind v.consumers at one (first_picked v.kind v.consumers key at one picked).zero_at (h one);
}

-- another kind
pub rise_altered : (joined : ℕ → ℕ → Type 0) (ls : List ℕ) (num : ℕ → ℕ) (sent : ℕ → List Packet) (kind : SubKind) (replicated : Bool) (v : Subscription) → Free kind v → RiseFact joined ls num sent v
    → RiseFact joined ls num sent (record v { kind = kind; replicated = replicated })
rise_altered joined ls num sent kind replicated v (Free.Nobody none) h = record {
  joins = h.joins;
  one = λ one. subst (λ (ks : List Consumer). Apart ks × RiseOf ls num sent (is_due v) ks) (sym none) (tt, tt);
}
rise_altered joined ls num sent kind replicated v (Free.OneKind same) h = record { joins = h.joins; one = λ one. h.one (sym (ap serves_one same) ∙ one) }

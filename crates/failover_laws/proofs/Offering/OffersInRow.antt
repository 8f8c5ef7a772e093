-- Offers one after another, in a world.
use Rattle.std.proofs.Common.{◌≡◌, zero, suc, ◌+◌, ◌<◌, Bool, true, false, List, ◌∷◌, length, refl, sym, ap, subst, ◌∙◌, arith, inl, inr, ℕ, []}
use Rattle.std.specs.Prelude.{Option, Some, None, ◌||◌, nat_lt, if◌then◌else◌}
use Rattle.std.specs.List.{AllByRecursion, list_any}
use Rattle.std.specs.Str.{bytes_eq}
use Rattle.std.proofs.lemmas.Bool.{false≢true, lt-ltb}
use Rattle.std.proofs.lemmas.List.{get_or-set_same}
use Rattle.std.proofs.lemmas.Option.{none-some, same_Some}
use Rattle.world_laws.proofs.Types.{ClusterPosition, Entry, Position}
use Rattle.world_laws.proofs.Types.event
use Rattle.geo_base.specs.Broker.{Broker, no_broker, sub_named}
use Rattle.geo_base.specs.Happening.{broker_does, does_planned, happens}
use Rattle.geo_base.specs.Laws.{begun}
use Rattle.geo_base.specs.Offering.{offer}
use Rattle.geo_base.specs.Plan.{done}
use Rattle.geo_base.specs.Planned.{Planned, has_node, in_range, planned, planned_in}
use Rattle.geo_base.specs.Run.{no_limits, run_from, steps}
use Rattle.geo_base.specs.Scripted.{IsScripted}
use Rattle.geo_base.specs.Setup.{Setup, sub_name, sub_names}
use Rattle.geo_base.specs.Subscription.{Subscription}
use Rattle.geo_base.specs.World.{World, node, opening_world, site, topic_at}
use Rattle.world_laws.specs.Indexes.{AreBelow}
use Rattle.world_laws.specs.Reached.{ReachedFrom}
use Rattle.world_laws.proofs.Dispatching.Keeping.{Remembering, remembering_kept}
use Rattle.world_laws.proofs.Dispatching.Recalled.{found_remembers}
use Rattle.world_laws.proofs.Replicating.Effects.{Each}
use Rattle.world_laws.proofs.Replicating.Sizes.{node_there}
use Rattle.world_laws.proofs.Snapshotting.Grows.{Grown}
use Rattle.world_laws.proofs.Snapshotting.Hearing.{grown_get}
use Rattle.world_laws.proofs.Walks.Walk.{both, on_true}
use Rattle.failover_laws.specs.Procedure.{offers}
use Rattle.failover_laws.proofs.Covers.Known.{grown_on, kept_there, tracing_at}
use Rattle.failover_laws.proofs.Ending.Became.{at_node}
use Rattle.failover_laws.proofs.Offering.Ascends.{AllAscend, ascend_kept, SubAscends}
use Rattle.failover_laws.proofs.Offering.OffersPass.{StillBelow, IsOwnSnapshot, offer_state, offered, OffersDone, places}
use Rattle.failover_laws.proofs.Offering.Outs.{AllOut, out_kept, OutIn}

found_each : (P : Subscription → Type 0) (vs : List Subscription) (n : List ℕ) (v : Subscription) → Each P vs → sub_named vs n ≡ Some v → P v
found_each P [] n v h is = absurd (none-some v is)
found_each P (u ∷ vs) n v h is = by (bytes_eq u.name n) is (found_each P vs n v h.1)
  where
    by : (b : Bool) → (if b then Some u else sub_named vs n) ≡ Some v → (sub_named vs n ≡ Some v → P v) → P v
    by true is rest = subst P (same_Some u v is) h.0
    by false is rest = rest is

pub found_below : (m : ℕ) (vs : List Subscription) (n : List ℕ) (v : Subscription) → AllByRecursion (λ (u : Subscription). AreBelow m u.cursor) vs → sub_named vs n ≡ Some v → AreBelow m v.cursor
found_below m [] n v h is = absurd (none-some v is)
found_below m (u ∷ vs) n v h is = by (bytes_eq u.name n) is (found_below m vs n v h.1)
  where
    by : (b : Bool) → (if b then Some u else sub_named vs n) ≡ Some v → (sub_named vs n ≡ Some v → AreBelow m v.cursor) → AreBelow m v.cursor
    by true is rest = subst (λ (z : Subscription). AreBelow m z.cursor) (same_Some u v is) h.0
    by false is rest = rest is

pub found_any : (vs : List Subscription) (n : List ℕ) (v : Subscription) → sub_named vs n ≡ Some v → v.replicated ≡ true → list_any (λ (u : Subscription). u.replicated) vs ≡ true
found_any [] n v is r = absurd (none-some v is)
found_any (u ∷ vs) n v is r = by (bytes_eq u.name n) is (found_any vs n v)
  where
    one : (a b : Bool) → a ≡ true → (a || b) ≡ true
    one true b h = h
    one false b h = absurd (false≢true h)

    two : (a b : Bool) → b ≡ true → (a || b) ≡ true
    two true b h = refl
    two false b h = h

    by : (b : Bool) → (if b then Some u else sub_named vs n) ≡ Some v → (sub_named vs n ≡ Some v → v.replicated ≡ true → list_any (λ (z : Subscription). z.replicated) vs ≡ true)
        → list_any (λ (z : Subscription). z.replicated) (u ∷ vs) ≡ true
    by true is rest = one u.replicated _ (ap (λ (z : Subscription). z.replicated) (same_Some u v is) ∙ r)
    by false is rest = two u.replicated _ (rest is r)

-- ---- an offer in a world

offer_plan : (s : Setup) (w : World) (t x num : ℕ) → t < length s.topics → x < length s.clusters → num < length (sub_names s t)
    → planned s w (event.Offer t x num) ≡ Some (at_node t x None (offer (site s t x) (topic_at s w t x) (sub_name s t num)))
unfolding planned
offer_plan s w t x num lt small known =
    on_true (in_range s (event.Offer t x num)) (planned_in s w (event.Offer t x num)) None
    (both (has_node s t x) (nat_lt num (length (sub_names s t)))
    (both (nat_lt t (length s.topics)) (nat_lt x (length s.clusters)) (lt-ltb t (length s.topics) lt) (lt-ltb x (length s.clusters) small)) (lt-ltb num (length (sub_names s t)) known))

either_world : (s : Setup) (t x : ℕ) (i : Bool) (w w' : World) (b b' : Broker) → topic_at s w t x ≡ b → topic_at s w' t x ≡ b' → topic_at s (if i then w else w') t x ≡ (if i then b else b')
either_world s t x true w w' b b' h k = h
either_world s t x false w w' b b' h k = k

offer_is : (s : Setup) (w : World) (t x num : ℕ) → t < length s.topics → x < length s.clusters → num < length (sub_names s t) → node s t x < length w.brokers
    → topic_at s (happens s w (event.Offer t x num)) t x ≡ offered (site s t x) (topic_at s w t x) (offer (site s t x) (topic_at s w t x) (sub_name s t num))
unfolding happens broker_does
offer_is s w t x num lt small known there =
    let p = offer (site s t x) (topic_at s w t x) (sub_name s t num) in
    ap (λ (o : Option Planned). topic_at s (does_planned s w o) t x) (offer_plan s w t x num lt small known)
    ∙ either_world s t x p.idle _ _ (topic_at s w t x) (done s.per_ledger (topic_at s w t x) p) refl
    (get_or-set_same w.brokers (node s t x) (done s.per_ledger (topic_at s w t x) p) no_broker there)

-- ---- so many offers

pub record AtOffer (s : Setup) (t x num m own_at local_at : ℕ) (local : Position) (listed : List ClusterPosition) (snap : Entry) (j : ℕ) (w : World) : Type 0 where
  pub reached : ReachedFrom s (opening_world s) w
  pub state : OffersDone (site s t x) m own_at local_at local snap (sub_name s t num) (places (site s t x) local listed) j (topic_at s w t x)

next_offer : (s : Setup) → IsScripted s → (t x num m own_at local_at j : ℕ) (local : Position) (listed : List ClusterPosition) (snap : Entry) (w : World) → t < length s.topics → x < length s.clusters
    → num < length (sub_names s t) → IsOwnSnapshot (site s t x) own_at local_at local listed snap → AtOffer s t x num m own_at local_at local listed snap j w
    → AtOffer s t x num m own_at local_at local listed snap (j + 1) (happens s w (event.Offer t x num))
next_offer s scripted t x num m own_at local_at j local listed snap w lt small known q a = record {
  reached = ReachedFrom.AfterEvent w (event.Offer t x num) a.reached;
  state = elim a.state [
    | inl going ↦ goes going
    | inr told ↦ inr (record {
      index = told.index;
      entry = told.entry;
      stands = grown_get (topic_at s w t x).entries (topic_at s next t x).entries (topic_at s w t x).ledgers (topic_at s next t x).ledgers (grows t x (lt, small)) told.index told.entry told.stands;
      of = told.of;
      is = told.is;
      to = told.to;
      behind = told.behind;
    })
  ];
}
  where
    next : World
    next = happens s w (event.Offer t x num)

    there : node s t x < length w.brokers
    there = node_there s w t x (tracing_at s scripted w a.reached).0.0.0.0.0.0.0.sized (lt, small)

    grows : Grown s w next
    grows = grown_on s scripted w next a.reached (ReachedFrom.AfterEvent w (event.Offer t x num) ReachedFrom.Starting)

    goes : StillBelow (site s t x) m own_at local_at local snap (sub_name s t num) j (topic_at s w t x)
        → OffersDone (site s t x) m own_at local_at local snap (sub_name s t num) (places (site s t x) local listed) (j + 1) (topic_at s next t x)
    goes going =
        subst (OffersDone (site s t x) m own_at local_at local snap (sub_name s t num) (places (site s t x) local listed) (j + 1)) (sym (offer_is s w t x num lt small known there))
        (offer_state (site s t x) m own_at local_at j local listed snap (sub_name s t num) (topic_at s w t x) going.sub q going.offering going.state (record {
          remembers = found_remembers (topic_at s w t x) (sub_name s t num) going.sub going.here (kept_there s Remembering (remembering_kept s) w a.reached (node s t x));
          out = found_each (OutIn (topic_at s w t x).entries) (topic_at s w t x).subs (sub_name s t num) going.sub (kept_there s AllOut (out_kept s) w a.reached (node s t x)) going.here;
          ascends = found_each SubAscends (topic_at s w t x).subs (sub_name s t num) going.sub (kept_there s AllAscend (ascend_kept s) w a.reached (node s t x)) going.here;
        }) going.here)

pub all_offers : (s : Setup) → IsScripted s → (t x num m own_at local_at : ℕ) (local : Position) (listed : List ClusterPosition) (snap : Entry) → t < length s.topics → x < length s.clusters
    → num < length (sub_names s t) → IsOwnSnapshot (site s t x) own_at local_at local listed snap → (k j : ℕ) (w : World) → AtOffer s t x num m own_at local_at local listed snap j w
    → AtOffer s t x num m own_at local_at local listed snap (j + k) (run_from no_limits s (begun w) (offers k t x num)).world
unfolding steps
all_offers s scripted t x num m own_at local_at local listed snap lt small known q zero j w a =
    let same : j ≡ j + 0 = omega arith in subst (λ (i : ℕ). AtOffer s t x num m own_at local_at local listed snap i w) same a
all_offers s scripted t x num m own_at local_at local listed snap lt small known q (suc k) j w a =
    let same : j + 1 + k ≡ j + suc k = omega arith in
    subst (λ (i : ℕ). AtOffer s t x num m own_at local_at local listed snap i (run_from no_limits s (begun (happens s w (event.Offer t x num))) (offers k t x num)).world) same
    (all_offers s scripted t x num m own_at local_at local listed snap lt small known q k (j + 1) (happens s w (event.Offer t x num))
    (next_offer s scripted t x num m own_at local_at j local listed snap w lt small known q a))

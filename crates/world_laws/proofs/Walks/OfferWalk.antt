-- The walk through snap, offer and seek: what a broker does of itself.
use Rattle.std.proofs.Common.{◌≡◌, ℕ, Bool, true, false, List, [], ◌∷◌, length, refl, ap, ◌==◌}
use Rattle.std.specs.Prelude.{Option, Some, None, if◌then◌else◌, ◌&&◌, is_none, option_map, slice_get}
use Rattle.std.specs.List.{list_any}
use Rattle.world_laws.proofs.Types.{SnapshotBuilder, CachedSnapshot, ClusterPosition, Content, Entry, Position}
use Rattle.world_laws.proofs.Types.change
use Rattle.world_laws.proofs.Types.content
use Rattle.world_laws.proofs.Types.marker
use Rattle.geo_base.specs.Broker.{Broker, Site, sub_named}
use Rattle.geo_base.specs.Cache.{cached, cut_of}
use Rattle.geo_base.specs.Dispatcher.{consumer_at, least_due, pick}
use Rattle.geo_base.specs.Entry.{is_data, key_bytes}
use Rattle.geo_base.specs.Markers.{snap}
use Rattle.geo_base.specs.Offering.{message, offer, offer_entry, own_snapshot, skips_marker}
use Rattle.geo_base.specs.Plan.{Plan, idle_plan, plan_of}
use Rattle.geo_base.specs.Seeking.{seek, seek_index}
use Rattle.geo_base.specs.Subscription.{Subscription, sought, with_acks}
use Rattle.geo_base.specs.Topic.{index_of}
use Rattle.world_laws.proofs.Walks.Shapes.{IsLeastDue, Offers, Seeks, Snaps}
use Rattle.world_laws.proofs.Walks.ServeWalk.{updates_after}
use Rattle.world_laws.proofs.Walks.Walk.{on_found, on_test}

-- snap
both_snap : (h : Site) (b : Broker) (p : Plan) (a : Bool) (o : Option SnapshotBuilder) → list_any (λ (v : Subscription). v.replicated) b.subs ≡ a → b.builder ≡ o
    → (a ≡ true → o ≡ None → Snaps h b p) → Snaps h b (if a && is_none o then p else idle_plan)
both_snap h b p true None any none f = f refl refl
both_snap h b p true (Some u) any none f = Snaps.NothingToAsk
both_snap h b p false o any none f = Snaps.NothingToAsk

pub snap_shape : (h : Site) (b : Broker) → Snaps h b (snap h b)
unfolding snap
snap_shape h b = both_snap h b _ (list_any (λ (v : Subscription). v.replicated) b.subs) b.builder refl refl (λ any none. Snaps.Asks any none)

-- offer
marker_offered : (h : Site) (b : Broker) (n : List ℕ) (v : Subscription) (i : ℕ) (e : Entry) → IsLeastDue b n v i e → is_data e.content ≡ false
    → Offers h b n (skips_marker h b v i None)
marker_offered h b n v i e due is = Offers.SkipsMarker v i e _ due is (updates_after h b (with_acks (i ∷ []) v))

snapshot_offered : (h : Site) (b : Broker) (n : List ℕ) (v : Subscription) (i : ℕ) (e : Entry) (id : List ℕ) (local : Position) (remote : List ClusterPosition) (o : Option ℕ)
    → IsLeastDue b n v i e → e.content ≡ content.Marked (marker.Snapshot id local remote) → ((e.ident.origin == h.own) && v.replicated) ≡ true
    → index_of b.ledgers local ≡ o
    → Offers h b n (skips_marker h b v i (option_map (λ j. record { index = j; cut = cut_of h.own (length h.clusters) local remote }) o))
snapshot_offered h b n v i e id local remote None due is own at = marker_offered h b n v i e due (ap is_data is)
snapshot_offered h b n v i e id local remote (Some j) due is own at =
    let c : CachedSnapshot = record { index = j; cut = cut_of h.own (length h.clusters) local remote } in
    Offers.Caches v i j e c _ due (id, local, remote, is, own, at, refl) (updates_after h b (with_acks (i ∷ []) (record v { cache = cached v.cache c })))

passed_offered : (h : Site) (b : Broker) (n : List ℕ) (v : Subscription) (i : ℕ) (e : Entry) (c : Content) → IsLeastDue b n v i e → e.content ≡ c → is_data c ≡ false
    → Offers h b n (skips_marker h b v i (own_snapshot h b v e.ident.origin c))
passed_offered h b n v i e content.Data due is other = absurd (cc)
passed_offered h b n v i e (content.Marked (marker.Snapshot id local remote)) due is other =
    on_test (λ (o : Option CachedSnapshot). Offers h b n (skips_marker h b v i o)) ((e.ident.origin == h.own) && v.replicated) _ None
    (λ own. snapshot_offered h b n v i e id local remote (index_of b.ledgers local) due is own refl) (λ _. marker_offered h b n v i e due (ap is_data is))
passed_offered h b n v i e (content.Marked (marker.Request id source)) due is other = marker_offered h b n v i e due (ap is_data is)
passed_offered h b n v i e (content.Marked (marker.Response id answer)) due is other = marker_offered h b n v i e due (ap is_data is)
passed_offered h b n v i e (content.Marked (marker.Update m remote)) due is other = marker_offered h b n v i e due (ap is_data is)
passed_offered h b n v i e (content.Unread kind) due is other = marker_offered h b n v i e due (ap is_data is)

given_offered : (h : Site) (b : Broker) (n : List ℕ) (v : Subscription) (i at : ℕ) (e : Entry) (c : Content) → IsLeastDue b n v i e → e.content ≡ c → is_data c ≡ true
    → pick v.kind v.consumers (key_bytes e.meta.key) ≡ Some at
    → Offers h b n (plan_of [] (change.Given v.name i at ∷ []) (message h b i e (consumer_at v.consumers at)))
given_offered h b n v i at e content.Data due is plain picked = Offers.Gives v i at e due is picked
given_offered h b n v i at e (content.Marked m) due is plain picked = absurd (cc)
given_offered h b n v i at e (content.Unread kind) due is plain picked = absurd (cc)

entry_offered : (h : Site) (b : Broker) (n : List ℕ) (v : Subscription) (i : ℕ) (e : Entry) → IsLeastDue b n v i e → Offers h b n (offer_entry h b v i e)
entry_offered h b n v i e due =
    on_test (Offers h b n) (is_data e.content) _ _
    (λ plain. on_found (Offers h b n) idle_plan (pick v.kind v.consumers (key_bytes e.meta.key)) _ (λ _. Offers.NothingToOffer)
    (λ at picked. given_offered h b n v i at e e.content due refl plain picked))
    (λ other. passed_offered h b n v i e e.content due refl other)

pub offer_shape : (h : Site) (b : Broker) (n : List ℕ) → Offers h b n (offer h b n)
unfolding offer
offer_shape h b n =
    on_found (Offers h b n) idle_plan (sub_named b.subs n) _ (λ _. Offers.NothingToOffer)
    (λ v named. on_found (Offers h b n) idle_plan (least_due v (length b.entries)) _ (λ _. Offers.NothingToOffer)
    (λ i due. on_found (Offers h b n) idle_plan (slice_get b.entries i) _ (λ _. Offers.NothingToOffer)
    (λ e is. entry_offered h b n v i e (named, due, is))))

-- seek
pub seek_shape : (h : Site) (b : Broker) (n : List ℕ) (to : Option Position) → Seeks h b n to (seek h b n to)
unfolding seek
seek_shape h b n to =
    on_found (Seeks h b n to) idle_plan (sub_named b.subs n) _ (λ _. Seeks.NothingToSeek)
    (λ v named. on_found (Seeks h b n to) idle_plan (seek_index b to) _ (λ _. Seeks.NothingToSeek)
    (λ i at. Seeks.SeeksTo v i _ named at (updates_after h b (sought i v))))

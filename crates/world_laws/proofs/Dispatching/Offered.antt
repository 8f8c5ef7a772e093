-- As many offers as there are entries bring every message out.
use Rattle.std.proofs.Common.{◌≡◌, ℕ, zero, suc, ◌+◌, ◌*◌, ◌<◌, ◌≤◌, Bool, true, false, List, [], ◌∷◌, length, map, refl, sym, ap, subst, ◌∙◌, ◌==◌, arith, nat_le, nat_lt, not}
use Rattle.std.specs.Prelude.{Option, Some, None, if◌then◌else◌, ◌&&◌, ◌||◌, slice_get, slice_index_or, slice_set}
use Rattle.std.proofs.lemmas.Bool.{eq-eqb, false≢true, lt-ltb, ltb-true}
use Rattle.std.proofs.lemmas.Bool.Decides.{nat_tests}
use Rattle.std.proofs.lemmas.Option.{none-some, same_Some, slice_get_within}
use Rattle.world_laws.proofs.Types.{CachedSnapshot, Entry, Event, Write}
use Rattle.world_laws.proofs.Types.change
use Rattle.world_laws.proofs.Types.event
use Rattle.world_laws.proofs.Types.write
use Rattle.geo_base.specs.Broker.{Broker, Site, no_broker, sub_named}
use Rattle.geo_base.specs.Cache.{cached}
use Rattle.geo_base.specs.Client.{Acted}
use Rattle.geo_base.specs.Cursor.{has}
use Rattle.geo_base.specs.Dispatcher.{is_due, least_due, skipped_index, pick}
use Rattle.geo_base.specs.Entry.{is_data, key_bytes}
use Rattle.geo_base.specs.Happening.{broker_does, broker_halts, client_does, does_planned, halts_planned, happens}
use Rattle.geo_base.specs.Laws.{IsAllOut, IsServed, LawOffers, Offered, is_elsewhere}
use Rattle.geo_base.specs.Offering.{offer, offer_entry, own_snapshot, skips_marker}
use Rattle.geo_base.specs.Plan.{Plan, done, idle_plan, plan_of}
use Rattle.geo_base.specs.Planned.{Planned, has_client, has_node, in_range, planned, plan_at}
use Rattle.geo_base.specs.Safe.{is_out}
use Rattle.geo_base.specs.Setup.{Setup, sub_name, sub_names}
use Rattle.geo_base.specs.Storing.{update_after, update_marker}
use Rattle.geo_base.specs.Subscription.{Subscription, after_acks, with_acks}
use Rattle.geo_base.specs.World.{LinkName, World, node, site, topic_at}
use Rattle.world_laws.proofs.Replicating.Cursors.{or_right}
use Rattle.world_laws.proofs.Walks.EventWalk.{HasShape, planned_shape}
use Rattle.world_laws.proofs.Induction.Frames.{at_set}
use Rattle.world_laws.proofs.Dispatching.Keeping.{Remembering, remembering_kept}
use Rattle.world_laws.proofs.Replicating.LinkFrames.{same_node}
use Rattle.world_laws.proofs.Replicating.PairRoles.{shape_within}
use Rattle.world_laws.proofs.Dispatching.Recalled.{Keeping, found_remembers}
use Rattle.world_laws.proofs.Dispatching.Remembers.{Kept, least_due_is, unlike, why_kept}
use Rattle.world_laws.proofs.Dispatching.DueCounts.{none_due, pick_some}
use Rattle.world_laws.proofs.Induction.Runs.{between_events, event_done, plan_halted}
use Rattle.world_laws.proofs.Walks.ServeWalk.{updates_after}
use Rattle.world_laws.proofs.Dispatching.Serving.{Lowers, Served, Serving, at_own, due_one, given_served, marker_lowers, named_at, passed_served, pushed_served}
use Rattle.world_laws.proofs.Walks.Shapes.{Updates}
use Rattle.world_laws.proofs.Dispatching.SubFrames.{at_name}
use Rattle.world_laws.proofs.Walks.Walk.{by_test, on_found, on_if, on_test, on_true}

-- a marker without a snapshot for the cache
plain_served : (h : Site) (b : Broker) (n : List ℕ) (m k i : ℕ) (v x : Subscription) (ws : List Write) → Serving m k n b v → least_due v (length b.entries) ≡ Some i
    → Updates h b x ws
    → Served m (suc k) n (done h.per_ledger b (plan_of (write.Acks v.name (i ∷ []) ∷ ws) (change.Skipped v.name i ∷ change.Acked v.name ∷ []) []))
plain_served h b n m k i v x ws s least up = by ws up
  where
    acks : Subscription → Subscription
    acks = with_acks (i ∷ [])

    passes : Subscription → Subscription
    passes = skipped_index i

    u : Subscription
    u = after_acks (passes (acks v))

    after : List Write → Broker
    after ws = done h.per_ledger b (plan_of (write.Acks v.name (i ∷ []) ∷ ws) (change.Skipped v.name i ∷ change.Acked v.name ∷ []) [])

    is_own : at_name v.name after_acks (at_name v.name passes (at_name v.name acks v)) ≡ u
    is_own =
        ap (λ (z : Subscription). at_name v.name after_acks (at_name v.name passes z)) (at_own acks v)
        ∙ ap (λ (z : Subscription). at_name v.name after_acks z) (at_own passes (acks v)) ∙ at_own after_acks (passes (acks v))

    named : sub_named (after []).subs n ≡ Some u
    named =
        let vs = map (at_name v.name acks) b.subs in
        let one = at_name v.name acks v in
        named_at (map (at_name v.name passes) vs) n v.name after_acks (at_name v.name passes one) (λ z. refl)
        (named_at vs n v.name passes one (λ z. refl) (named_at b.subs n v.name acks v (λ z. refl) s.named))
        ∙ ap (λ (z : Subscription). Some z) is_own

    base : Serving m (suc k) n (after []) u
    base = passed_served b (after []) n m k i v u s least (marker_lowers v i) refl refl named refl

    by : (ws : List Write) → Updates h b x ws → Served m (suc k) n (after ws)
    by ws Updates.NoUpdate = (u, base)
    by ws (Updates.Update cut replicated passed) =
        (u, pushed_served (after []) (after (write.Append (update_marker h b x.name cut) ∷ [])) n m (suc k) (update_marker h b x.name cut) u refl refl refl base)

-- and with one
cached_served : (h : Site) (b : Broker) (n : List ℕ) (m k i : ℕ) (v x : Subscription) (c : CachedSnapshot) (ws : List Write) → Serving m k n b v
    → least_due v (length b.entries) ≡ Some i → Updates h b x ws
    → Served m (suc k) n (done h.per_ledger b (plan_of (write.Acks v.name (i ∷ []) ∷ ws) (change.Cache v.name c ∷ change.Skipped v.name i ∷ change.Acked v.name ∷ []) []))
cached_served h b n m k i v x c ws s least up = by ws up
  where
    acks : Subscription → Subscription
    acks = with_acks (i ∷ [])

    caches : Subscription → Subscription
    caches z = record z { cache = cached z.cache c }

    passes : Subscription → Subscription
    passes = skipped_index i

    u : Subscription
    u = after_acks (passes (caches (acks v)))

    after : List Write → Broker
    after ws = done h.per_ledger b (plan_of (write.Acks v.name (i ∷ []) ∷ ws) (change.Cache v.name c ∷ change.Skipped v.name i ∷ change.Acked v.name ∷ []) [])

    is_own : at_name v.name after_acks (at_name v.name passes (at_name v.name caches (at_name v.name acks v))) ≡ u
    is_own =
        ap (λ (z : Subscription). at_name v.name after_acks (at_name v.name passes (at_name v.name caches z))) (at_own acks v)
        ∙ ap (λ (z : Subscription). at_name v.name after_acks (at_name v.name passes z)) (at_own caches (acks v))
        ∙ ap (λ (z : Subscription). at_name v.name after_acks z) (at_own passes (caches (acks v))) ∙ at_own after_acks (passes (caches (acks v)))

    named : sub_named (after []).subs n ≡ Some u
    named =
        let vs = map (at_name v.name acks) b.subs in
        let one = at_name v.name acks v in
        let ws = map (at_name v.name caches) vs in
        let two = at_name v.name caches one in
        named_at (map (at_name v.name passes) ws) n v.name after_acks (at_name v.name passes two) (λ z. refl)
        (named_at ws n v.name passes two (λ z. refl) (named_at vs n v.name caches one (λ z. refl) (named_at b.subs n v.name acks v (λ z. refl) s.named)))
        ∙ ap (λ (z : Subscription). Some z) is_own

    low : Lowers v u i
    low = let l = marker_lowers v i in record { less = l.less; gone = l.gone }

    base : Serving m (suc k) n (after []) u
    base = passed_served b (after []) n m k i v u s least low refl refl named refl

    by : (ws : List Write) → Updates h b x ws → Served m (suc k) n (after ws)
    by ws Updates.NoUpdate = (u, base)
    by ws (Updates.Update cut replicated passed) =
        (u, pushed_served (after []) (after (write.Append (update_marker h b x.name cut) ∷ [])) n m (suc k) (update_marker h b x.name cut) u refl refl refl base)

marker_served : (h : Site) (b : Broker) (n : List ℕ) (m k i : ℕ) (v : Subscription) (o : Option CachedSnapshot) → Serving m k n b v
    → least_due v (length b.entries) ≡ Some i → Served m (suc k) n (done h.per_ledger b (skips_marker h b v i o))
marker_served h b n m k i v None s least = plain_served h b n m k i v (with_acks (i ∷ []) v) (update_after h b (with_acks (i ∷ []) v)) s least (updates_after h b (with_acks (i ∷ []) v))
marker_served h b n m k i v (Some c) s least =
    let x : Subscription = with_acks (i ∷ []) (record v { cache = cached v.cache c }) in
    cached_served h b n m k i v x c (update_after h b x) s least (updates_after h b x)

-- the broker after an offer
abbrev offered : Site → Broker → Plan → Broker
offered h b p = if p.idle then b else done h.per_ledger b p

pub record Behind (h : Site) (b : Broker) (n : List ℕ) (m k : ℕ) (p : Plan) : Type 0 where
  pub served : Served m k n (offered h b p)

entry_served : (h : Site) (b : Broker) (n : List ℕ) (m k i : ℕ) (v : Subscription) (e : Entry) → Serving m k n b v → least_due v (length b.entries) ≡ Some i
    → slice_get b.entries i ≡ Some e → Behind h b n m (suc k) (offer_entry h b v i e)
entry_served h b n m k i v e s least stands =
    on_test (Behind h b n m (suc k)) (is_data e.content) _ _
    (λ plain. on_found (Behind h b n m (suc k)) idle_plan (pick v.kind v.consumers (key_bytes e.meta.key)) _
    (λ none. absurd (pick_some v.kind v.consumers (key_bytes e.meta.key) _ s.some (due_one v b.entries i e (least_due_is v 0 (length b.entries) i least) stands plain) s.permits none))
    (λ at picked. record { served = given_served h b n m k i at v e s least stands plain picked }))
    (λ other. update_writes (own_snapshot h b v e.ident.origin e.content))
  where
    update_writes : (o : Option CachedSnapshot) → Behind h b n m (suc k) (skips_marker h b v i o)
    update_writes None = record { served = marker_served h b n m k i v None s least }
    update_writes (Some c) = record { served = marker_served h b n m k i v (Some c) s least }

offer_served : (h : Site) (b : Broker) (n : List ℕ) (m k : ℕ) (v : Subscription) → Serving m k n b v → Behind h b n m (suc k) (offer h b n)
unfolding offer
offer_served h b n m k v s =
    on_found (Behind h b n m (suc k)) idle_plan (sub_named b.subs n) _ (λ none. absurd (none-some v (sym none ∙ s.named)))
    (λ u named.
    let is : v ≡ u = same_Some v u (sym s.named ∙ named) in
    let s' : Serving m k n b u = subst (Serving m k n b) is s in
    on_found (Behind h b n m (suc k)) idle_plan (least_due u (length b.entries)) _ (λ none. record { served = (u, idle u s' none) })
    (λ i least. on_found (Behind h b n m (suc k)) idle_plan (slice_get b.entries i) _ (λ none. absurd (there u i least none))
    (λ e stands. entry_served h b n m k i u e s' least stands)))
  where
    idle : (u : Subscription) → Serving m k n b u → least_due u (length b.entries) ≡ None → Serving m (suc k) n b u
    idle u s none =
        let longer = s.longer in
        record {
          named = s.named;
          some = s.some;
          permits = s.permits;
          longer = s.longer;
          late = s.late;
          clear = λ j lt small. none_due u 0 (length b.entries) none j (omega arith) (omega (arith, small, longer));
        }

    got : (es : List Entry) (i : ℕ) → i < length es → slice_get es i ≡ None → ⊥
    got [] i lt e = omega (arith, lt)
    got (x ∷ es) zero lt e = none-some x (sym e)
    got (x ∷ es) (suc i) lt e = got es i (omega (arith, lt)) e

    there : (u : Subscription) (i : ℕ) → least_due u (length b.entries) ≡ Some i → slice_get b.entries i ≡ None → ⊥
    there u i least none = let l = least_due_is u 0 (length b.entries) i least in let high = l.high in got b.entries i (omega (arith, high)) none

-- in a world: the node of a topic that has a subscription is there
set_here : (bs : List Broker) (k : ℕ) (b : Broker) (n : List ℕ) (v : Subscription) → sub_named (slice_index_or bs k no_broker).subs n ≡ Some v
    → slice_index_or (slice_set bs k b) k no_broker ≡ b
set_here [] k b n v e = absurd (none-some v e)
set_here (x ∷ bs) zero b n v e = refl
set_here (x ∷ bs) (suc k) b n v e = set_here bs k b n v e

either_world : (s : Setup) (t x : ℕ) (i : Bool) (w w' : World) (b b' : Broker) → topic_at s w t x ≡ b → topic_at s w' t x ≡ b'
    → topic_at s (if i then w else w') t x ≡ (if i then b else b')
either_world s t x true w w' b b' h k = h
either_world s t x false w w' b b' h k = k

does_at : (s : Setup) (w : World) (p : Planned) (n : List ℕ) (v : Subscription) → sub_named (topic_at s w p.topic p.cluster).subs n ≡ Some v
    → topic_at s (broker_does s w p) p.topic p.cluster
    ≡ (if p.plan.idle then topic_at s w p.topic p.cluster else done s.per_ledger (topic_at s w p.topic p.cluster) p.plan)
unfolding broker_does
does_at s w p n v named =
    either_world s p.topic p.cluster p.plan.idle _ _ _ _ refl
    (set_here w.brokers (node s p.topic p.cluster) (done s.per_ledger (topic_at s w p.topic p.cluster) p.plan) n v named)

offer_at : (s : Setup) (w : World) (t x n : ℕ) (v : Subscription) → t < length s.topics → x < length s.clusters → n < length (sub_names s t) → sub_named (topic_at s w t x).subs (sub_name s t n) ≡ Some v
    → topic_at s (happens s w (event.Offer t x n)) t x ≡ offered (site s t x) (topic_at s w t x) (offer (site s t x) (topic_at s w t x) (sub_name s t n))
unfolding happens planned
offer_at s w t x n v small within known named =
    let is : in_range s (event.Offer t x n) ≡ true = both (has_node s t x) (nat_lt n (length (sub_names s t))) (both (nat_lt t (length s.topics)) (nat_lt x (length s.clusters)) (lt-ltb _ _ small) (lt-ltb _ _ within)) (lt-ltb _ _ known) in
    ap (λ (o : Option Planned). topic_at s (does_planned s w o) t x) (on_true (in_range s (event.Offer t x n)) (Some (plan_at s w t x (event.Offer t x n))) None is)
    ∙ does_at s w (plan_at s w t x (event.Offer t x n)) (sub_name s t n) v named
  where
    both : (a b : Bool) → a ≡ true → b ≡ true → (a && b) ≡ true
    both true b h k = k
    both false b h k = absurd (false≢true h)

-- an event elsewhere
elsewhere_set : (s : Setup) (w : World) (t x : ℕ) (p : Planned) (b : Broker) → p.cluster < length s.clusters → x < length s.clusters → is_elsewhere t x (Some p) ≡ true
    → slice_index_or (slice_set w.brokers (node s p.topic p.cluster) b) (node s t x) no_broker ≡ topic_at s w t x
elsewhere_set s w t x p b lt within far =
    at_set (λ (c : Broker). c ≡ topic_at s w t x) w.brokers (node s p.topic p.cluster) (node s t x) b no_broker
    (λ is.
    let same = same_node s p.topic t p.cluster x lt within is in
    absurd (here (p.topic == t) (p.cluster == x) (eq-eqb p.topic t same.0) (eq-eqb p.cluster x same.1) far))
    refl
  where
    here : (a c : Bool) → a ≡ true → c ≡ true → not (a && c) ≡ true → ⊥
    here true true h k far = false≢true far
    here true false h k far = false≢true k
    here false c h k far = false≢true h

elsewhere_does : (s : Setup) (w : World) (t x : ℕ) (o : Option Planned) → HasShape s w o → x < length s.clusters → is_elsewhere t x o ≡ true
    → topic_at s (does_planned s w o) t x ≡ topic_at s w t x
unfolding broker_does
elsewhere_does s w t x None shape within far = refl
elsewhere_does s w t x (Some p) shape within far =
    on_if (λ (w' : World). topic_at s w' t x ≡ topic_at s w t x) p.plan.idle _ _ refl (elsewhere_set s w t x p _ (shape_within s w p shape) within far)

elsewhere_halts : (s : Setup) (w : World) (t x k : ℕ) (o : Option Planned) → HasShape s w o → x < length s.clusters → is_elsewhere t x o ≡ true
    → topic_at s (halts_planned s w k o) t x ≡ topic_at s w t x
unfolding broker_halts
elsewhere_halts s w t x k None shape within far = refl
elsewhere_halts s w t x k (Some p) shape within far = elsewhere_set s w t x p _ (shape_within s w p shape) within far

client_at_rest : (s : Setup) (w : World) (t x c : ℕ) (l : Option LinkName) (a : Acted) → topic_at s (client_does s w c l a) t x ≡ topic_at s w t x
unfolding client_does
client_at_rest s w t x c l a = on_if (λ (w' : World). topic_at s w' t x ≡ topic_at s w t x) a.idle _ _ refl refl

elsewhere_happens : (s : Setup) (w : World) (t x : ℕ) (e : Event) → x < length s.clusters → is_elsewhere t x (planned s w e) ≡ true
    → topic_at s (happens s w e) t x ≡ topic_at s w t x
unfolding happens
elsewhere_happens s w t x (event.Go c) within far =
    on_if (λ (w' : World). topic_at s w' t x ≡ topic_at s w t x) (has_client s c) _ _ (client_at_rest s w t x c _ _) refl
elsewhere_happens s w t x (event.Reconnect c) within far =
    on_if (λ (w' : World). topic_at s w' t x ≡ topic_at s w t x) (has_client s c) _ _ (client_at_rest s w t x c _ _) refl
elsewhere_happens s w t x (event.Get c) within far =
    on_if (λ (w' : World). topic_at s w' t x ≡ topic_at s w t x) (has_client s c) _ _ (client_at_rest s w t x c _ _) refl
elsewhere_happens s w t x e within far = elsewhere_does s w t x (planned s w e) (planned_shape s w e) within far

-- so many offers
offers_served : (s : Setup) (t x n m : ℕ) (end : World) (j k : ℕ) (w : World) → t < length s.topics → x < length s.clusters → n < length (sub_names s t) → Offered s t x n end k w → Remembering w
    → Served m j (sub_name s t n) (topic_at s w t x) → Remembering end × Served m (j + k) (sub_name s t n) (topic_at s end t x)
offers_served s t x n m end j k w small within known Offered.Ends all served =
    let is : j ≡ j + 0 = omega arith in (all, subst (λ i. Served m i (sub_name s t n) (topic_at s end t x)) is served)
offers_served s t x n m end j k w small within known (Offered.Offers k' w' o) all served =
    let nm = sub_name s t n in
    let next = offer_served (site s t x) (topic_at s w t x) nm m j served.0 served.1 in
    let now : Served m (suc j) nm (topic_at s (happens s w (event.Offer t x n)) t x) =
    subst (Served m (suc j) nm) (sym (offer_at s w t x n served.0 small within known served.1.named)) next.served in
    let r = offers_served s t x n m end (suc j) k' (happens s w (event.Offer t x n)) small within known o (event_done s Remembering (remembering_kept s) w (event.Offer t x n) all) now in
    let is : suc j + k' ≡ j + suc k' = omega arith in
    (r.0, subst (λ i. Served m i nm (topic_at s end t x)) is r.1)
offers_served s t x n m end j k w small within known (Offered.Happens k' w' e far o) all served =
    offers_served s t x n m end j k (happens s w e) small within known o (event_done s Remembering (remembering_kept s) w e all)
    (subst (Served m j (sub_name s t n)) (sym (elsewhere_happens s w t x e within far)) served)
offers_served s t x n m end j k w small within known (Offered.Halts k' w' i e far o) all served =
    offers_served s t x n m end j k (halts_planned s w i (planned s w e)) small within known o
    (plan_halted s Remembering (remembering_kept s) w i (planned s w e) (planned_shape s w e) all)
    (subst (Served m j (sub_name s t n)) (sym (elsewhere_halts s w t x i (planned s w e) (planned_shape s w e) within far)) served)

-- what is due no more and outside the cursor is out
all_out : (b : Broker) (n : List ℕ) (m k : ℕ) → m ≤ k → Keeping b → Served m k n b → IsAllOut b n
all_out b n m k le keep served = record {
  sub = served.0;
  here = served.1.named;
  out = λ i e at plain lacks.
      let lt = slice_get_within b.entries i e at in
      let early : i < m = by_test (nat_lt i m) (λ is. ltb-true i m is) (λ is. absurd (unlike _ plain (served.1.late i e (grind (arith, nat_tests, is)) at))) in
      let none = served.1.clear i (omega (arith, early, le)) early in
      by i lacks none (why_kept served.0 i ((found_remembers b n served.0 served.1.named keep).outside i lt lacks));
}
  where
    due_not : (a d : Bool) → a ≡ false → (not a && d) ≡ false → d ≡ true → ⊥
    due_not true d h k is = false≢true (sym h)
    due_not false d h k is = false≢true (sym k ∙ is)

    by : (i : ℕ) → has served.0.cursor i ≡ false → is_due served.0 i ≡ false → Kept served.0 i → is_out served.0 i ≡ true
    by i lacks none (Kept.Out out) = out
    by i lacks none (Kept.Due due) = absurd (due_not (has served.0.cursor i) _ lacks none (ap (λ (t : Bool). t || nat_le served.0.read_index i) due))
    by i lacks none (Kept.Ahead ahead) = absurd (due_not (has served.0.cursor i) _ lacks none (or_right (has served.0.due i) _ ahead))

served_at : (s : Setup) (w : World) → Remembering w → IsServed s w
served_at s w all t x n v end small within known named some permits o =
    let b = topic_at s w t x in
    let m = length b.entries in
    let nm = sub_name s t n in
    let start : Serving m 0 nm b v = record {
      named = named;
      some = some;
      permits = permits;
      longer = omega arith;
      late = λ i e le at. let lt = slice_get_within b.entries i e at in absurd (omega (arith, le, lt));
      clear = λ j lt small. absurd (omega (arith, lt));
    } in
    let r = offers_served s t x n m end 0 (2 * m + 10) w small within known o all (v, start) in
    all_out (topic_at s end t x) nm m (0 + (2 * m + 10)) (omega arith) (r.0 (node s t x)) r.1

pub offers_between : LawOffers
offers_between s = between_events s Remembering (IsServed s) (remembering_kept s) (served_at s)

-- The phase begins with a snap, and ends with the snapshot that was asked for.
use Rattle.std.proofs.Common.{◌≡◌, zero, suc, ◌<◌, true, List, ◌∷◌, length, refl, sym, ap, subst, ◌∙◌, arith, inl, inr, ℕ, []}
use Rattle.std.specs.Prelude.{Option, Some, None, ◌-◌, ◌&&◌, nat_lt, slice_get, slice_index_or, is_none}
use Rattle.std.specs.List.{list_any}
use Rattle.std.proofs.lemmas.Bool.{lt-ltb}
use Rattle.std.proofs.lemmas.List.{get_or-set_same}
use Rattle.std.proofs.lemmas.Option.{none-some, same_Some, slice_get_within}
use Rattle.world_laws.proofs.Types.{SnapshotBuilder, Entry}
use Rattle.world_laws.proofs.Types.event
use Rattle.geo_base.specs.Broker.{Broker, Site, cluster_name, no_broker, replicator_at}
use Rattle.geo_base.specs.SnapshotBuilder.{snapshot_id, started}
use Rattle.geo_base.specs.Cursor.{has}
use Rattle.geo_base.specs.Happening.{broker_does, does_planned, happens}
use Rattle.geo_base.specs.Laws.{IsShort, after_settling}
use Rattle.geo_base.specs.Markers.{asks, request_marker, snap}
use Rattle.geo_base.specs.Plan.{Plan, done, idle_plan}
use Rattle.geo_base.specs.Planned.{Planned, in_range, planned, planned_in}
use Rattle.geo_base.specs.Setup.{Setup}
use Rattle.geo_base.specs.Subscription.{Subscription}
use Rattle.geo_base.specs.Topic.{index_of, next_position}
use Rattle.geo_base.specs.World.{World, node, site, topic_at}
use Rattle.world_laws.specs.Reached.{ReachedFrom}
use Rattle.world_laws.proofs.Replicating.Sizes.{IsThere, node_there}
use Rattle.world_laws.proofs.Snapshotting.Answering.{old_or_new}
use Rattle.world_laws.proofs.Walks.Walk.{both, on_true}
use Rattle.failover_laws.proofs.Covers.Known.{event_more, tracing_at}
use Rattle.failover_laws.proofs.Ending.Became.{at_node, Became, became}
use Rattle.failover_laws.proofs.Ending.Calm.{is_of_snapshot}
use Rattle.failover_laws.proofs.Ending.Phase.{AllOver, InPhase, IsMaking, IsStored}
use Rattle.failover_laws.proofs.Ending.PhaseGoesOn.{OneGoes, phase_event}
use Rattle.failover_laws.proofs.Ending.Settling.{done_keeps_index, IsKeptSettling, settling_keeps}
use Rattle.failover_laws.proofs.TracedRuns.{Tracing}

abbrev pub first_id : Setup → World → ℕ → ℕ → List ℕ
first_id s v t x = snapshot_id (cluster_name (site s t x) x) (next_position s.per_ledger (topic_at s v t x).ledgers)

abbrev pub asking : Setup → World → ℕ → ℕ → Plan
asking s v t x = asks (site s t x) (topic_at s v t x) (first_id s v t x)

-- what is asked for: a subscription is replicated, and no snapshot is in the making
pub record MaySnap (s : Setup) (v : World) (t x : ℕ) : Type 0 where
  pub there : IsThere s t x
  pub replicated : list_any (λ (u : Subscription). u.replicated) (topic_at s v t x).subs ≡ true
  pub none : (topic_at s v t x).builder ≡ None

snap_plans : (h : Site) (b : Broker) → list_any (λ (u : Subscription). u.replicated) b.subs ≡ true → b.builder ≡ None
    → snap h b ≡ asks h b (snapshot_id (cluster_name h h.own) (next_position h.per_ledger b.ledgers))
unfolding snap
snap_plans h b any none =
    on_true (list_any (λ (u : Subscription). u.replicated) b.subs && is_none b.builder) _ idle_plan
    (both (list_any (λ (u : Subscription). u.replicated) b.subs) (is_none b.builder) any (ap (λ (o : Option SnapshotBuilder). is_none o) none))

planned_snap : (s : Setup) (v : World) (t x : ℕ) → MaySnap s v t x → planned s v (event.Snap t x) ≡ Some (at_node t x None (asking s v t x))
unfolding planned
planned_snap s v t x m =
    on_true (in_range s (event.Snap t x)) (planned_in s v (event.Snap t x)) None
    (both (nat_lt t (length s.topics)) (nat_lt x (length s.clusters)) (lt-ltb t (length s.topics) m.there.0) (lt-ltb x (length s.clusters) m.there.1))
    ∙ ap (λ (p : Plan). Some (at_node t x None p)) (snap_plans (site s t x) (topic_at s v t x) m.replicated m.none)

pub snap_is : (s : Setup) (v : World) (t x : ℕ) → MaySnap s v t x → node s t x < length v.brokers → topic_at s (happens s v (event.Snap t x)) t x ≡ done s.per_ledger (topic_at s v t x) (asking s v t x)
unfolding happens broker_does
snap_is s v t x m there =
    ap (λ (o : Option Planned). topic_at s (does_planned s v o) t x) (planned_snap s v t x m)
    ∙ get_or-set_same v.brokers (node s t x) (done s.per_ledger (topic_at s v t x) (asking s v t x)) no_broker there

start_goes : (s : Setup) (v : World) (t x a : ℕ) (c : Broker) → MaySnap s v t x → Tracing s v → a < length s.clusters → Became s v (event.Snap t x) t a c → OneGoes s v v t a c
start_goes s v t x a _ m traced small Became.Same = record {
  own = λ i e at of le. let lt = slice_get_within (topic_at s v t a).entries i e at in absurd (omega (arith, lt, le));
  subs = refl;
  acked = λ z i lt h. h;
}
start_goes s v t x a _ m traced small (Became.Did k q is) = record {
  own = λ i e at of le.
      elim (old_or_new b.entries (request_marker (site s t x) (topic_at s v t x) (first_id s v t x) ∷ []) i e (subst (λ (p : Plan). slice_get (done s.per_ledger b p).entries i ≡ Some e) same at)) [
        | inl old ↦ let lt = old.0 in absurd (omega (arith, lt, le))
        | inr new ↦ last (i - length b.entries) e new.1
      ];
  subs = subst (λ (p : Plan). (done s.per_ledger b p).subs ≡ b.subs) (sym same) refl;
  acked = λ z i lt h. done_keeps_index s.per_ledger b z i q (let wide = (traced.0.0.0.0.0.0.0.sized.wide t a (m.there.0, small)).replicators in omega (arith, wide, lt)) h;
}
  where
    b : Broker
    b = topic_at s v t a

    plan_in : Option Planned → Plan
    plan_in None = idle_plan
    plan_in (Some p) = p.plan

    same : q ≡ asking s v t x
    same = ap plan_in (sym is ∙ planned_snap s v t x m)

    last : (j : ℕ) (e : Entry) → slice_get (request_marker (site s t x) (topic_at s v t x) (first_id s v t x) ∷ []) j ≡ Some e → is_of_snapshot e.content ≡ true
    last zero e at = subst (λ (f : Entry). is_of_snapshot f.content ≡ true) (same_Some _ e at) refl
    last (suc j) e at = absurd (none-some e at)

phase_start : (s : Setup) (v : World) (t x : ℕ) → AllOver s v t → MaySnap s v t x → InPhase s v t x (first_id s v t x) (happens s v (event.Snap t x))
phase_start s v t x over m = record {
  reached = ReachedFrom.AfterEvent v (event.Snap t x) ReachedFrom.Starting;
  own = λ a i e lt at of le. (one a lt).own i e at of le;
  subs = λ a lt. (one a lt).subs;
  acked = λ a z i lt lt_z h. (one a lt).acked z i lt_z h;
  made = IsMaking.Still (started (first_id s v t x) x (length s.clusters))
      (ap (λ (b : Broker). b.builder) (snap_is s v t x m (node_there s v t x traced.0.0.0.0.0.0.0.sized m.there))) refl;
}
  where
    traced : Tracing s v
    traced = tracing_at s over.scripted v over.reached

    one : (a : ℕ) → a < length s.clusters → OneGoes s v v t a (topic_at s (happens s v (event.Snap t x)) t a)
    one a lt = start_goes s v t x a (topic_at s (happens s v (event.Snap t x)) t a) m traced lt (became s v (event.Snap t x) t a lt)

-- ---- and ends with the snapshot

pub record Ends (s : Setup) (v w : World) (t x : ℕ) (id : List ℕ) : Type 0 where
  pub phase : InPhase s v t x id w
  pub stored : IsStored s v w t x id

phase_keeps : (s : Setup) (v : World) (t x : ℕ) (id : List ℕ) → AllOver s v t → x < length s.clusters → IsKeptSettling s (λ w. IsShort w → InPhase s v t x id w)
phase_keeps s v t x id over small = record {
  event = λ w e settles p short. let more = event_more s w e in phase_event s v w t x id e over small settles short (p (omega (arith, more, short)));
  idle = λ w n p short. moved w (record w { idle = n }) (ReachedFrom.Idling w n (p short).reached) refl (p short);
  round = λ w n p short. moved w (record w { rounds = n }) (ReachedFrom.AfterRound w n (p short).reached) refl (p short);
}
  where
    making : (w w' : World) → w.brokers ≡ w'.brokers → IsMaking s v w t x id → IsMaking s v w' t x id
    making w w' same (IsMaking.Still u is named_so) = IsMaking.Still u (subst (λ (bs : List Broker). (slice_index_or bs (node s t x) no_broker).builder ≡ Some u) same is) named_so
    making w w' same (IsMaking.Stood h) =
        let b = ap (λ (bs : List Broker). slice_index_or bs (node s t x) no_broker) same in
        IsMaking.Stood (record {
          index = h.index;
          entry = h.entry;
          local = h.local;
          listed = h.listed;
          stands = subst (λ (c : Broker). slice_get c.entries h.index ≡ Some h.entry) b h.stands;
          of = h.of;
          is = h.is;
          behind = h.behind;
          at = h.at;
          stored = subst (λ (c : Broker). index_of c.ledgers h.local ≡ Some h.at) b h.stored;
          low = h.low;
        })

    moved : (w w' : World) → ReachedFrom s v w' → w.brokers ≡ w'.brokers → InPhase s v t x id w → InPhase s v t x id w'
    moved w w' r same p =
        let at = λ (a : ℕ). ap (λ (bs : List Broker). slice_index_or bs (node s t a) no_broker) same in record {
          reached = r;
          own = λ a i e lt is of le. p.own a i e lt (subst (λ (c : Broker). slice_get c.entries i ≡ Some e) (sym (at a)) is) of le;
          subs = λ a lt. subst (λ (c : Broker). c.subs ≡ (topic_at s v t a).subs) (at a) (p.subs a lt);
          acked = λ a z i lt lt_z h. subst (λ (c : Broker). has (replicator_at c z).cursor i ≡ true) (at a) (p.acked a z i lt lt_z h);
          made = making w w' same p.made;
        }

pub snapshot_ends : (s : Setup) (v : World) (t x : ℕ) → AllOver s v t → MaySnap s v t x → let w = after_settling s (happens s v (event.Snap t x)) in IsShort w
    → (topic_at s w t x).builder ≡ None → Ends s v w t x (first_id s v t x)
snapshot_ends s v t x over m short none =
    let w = after_settling s (happens s v (event.Snap t x)) in
    let p = settling_keeps s (λ z. IsShort z → InPhase s v t x (first_id s v t x) z) (phase_keeps s v t x (first_id s v t x) over m.there.1) (happens s v (event.Snap t x)) (λ _. phase_start s v t x over m) short in
    record { phase = p; stored = by w none p.made }
  where
    by : (w : World) → (topic_at s w t x).builder ≡ None → IsMaking s v w t x (first_id s v t x) → IsStored s v w t x (first_id s v t x)
    by w none (IsMaking.Still u is named_so) = absurd (none-some u (sym none ∙ is))
    by w none (IsMaking.Stood h) = h

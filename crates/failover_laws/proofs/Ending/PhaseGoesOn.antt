-- Each event of settling keeps the phase.
use Rattle.std.proofs.Common.{◌≡◌, ◌<◌, ◌≤◌, true, List, ◌∷◌, ◌++◌, length, refl, sym, ap, subst, ◌∙◌, arith, inl, inr, ℕ, []}
use Rattle.std.specs.Prelude.{Option, Some, ◌-◌, slice_get}
use Rattle.std.proofs.lemmas.Bool.{eq-eqb}
use Rattle.std.proofs.lemmas.Bool.Decides.{nat_tests}
use Rattle.std.proofs.lemmas.List.{length-append}
use Rattle.std.proofs.lemmas.Option.{same_Some}
use Rattle.world_laws.proofs.Types.{SnapshotBuilder, Entry, Event}
use Rattle.world_laws.proofs.Types.content
use Rattle.world_laws.proofs.Types.marker
use Rattle.world_laws.proofs.Types.progress
use Rattle.geo_base.specs.Broker.{Broker, Site, cluster_name, replicator_at}
use Rattle.geo_base.specs.SnapshotBuilder.{named}
use Rattle.geo_base.specs.Cursor.{has}
use Rattle.geo_base.specs.Happening.{happens}
use Rattle.geo_base.specs.Laws.{IsShort}
use Rattle.geo_base.specs.Markers.{snapshot_marker}
use Rattle.geo_base.specs.Plan.{Plan, done}
use Rattle.geo_base.specs.Planned.{planned}
use Rattle.geo_base.specs.Setup.{Setup}
use Rattle.geo_base.specs.World.{LinkName, World, opening_world, site, topic_at}
use Rattle.world_laws.specs.Reached.{ReachedFrom}
use Rattle.world_laws.proofs.OnceInOrder.Members.{get_last}
use Rattle.world_laws.proofs.Replicating.Prefixes.{is_of}
use Rattle.world_laws.proofs.Snapshotting.Answering.{Numbered, old_or_new}
use Rattle.world_laws.proofs.Snapshotting.Completing.{heard_over}
use Rattle.world_laws.proofs.Snapshotting.Grows.{unchanged}
use Rattle.world_laws.proofs.Snapshotting.Hearing.{Stays, grown_get}
use Rattle.world_laws.proofs.Snapshotting.MakingEvents.{heard_made}
use Rattle.world_laws.proofs.Snapshotting.SecondRound.{Knows, knows_now}
use Rattle.world_laws.proofs.Snapshotting.SnapshotFacts.{Made}
use Rattle.world_laws.proofs.TopicOrder.Added.{appended}
use Rattle.world_laws.proofs.TopicOrder.Ledgers.{of_index}
use Rattle.failover_laws.proofs.Covers.Known.{event_more, grown_on, reached_then, tracing_at}
use Rattle.failover_laws.proofs.Ending.Became.{at_node, Became, became, done_entries, done_stays}
use Rattle.failover_laws.proofs.Ending.Calm.{is_of_snapshot, IsCalm, Makes}
use Rattle.failover_laws.proofs.Ending.Phase.{AllOver, calm_of, InPhase, IsMaking, IsStored}
use Rattle.failover_laws.proofs.Ending.Settling.{done_keeps_index, is_settling}
use Rattle.failover_laws.proofs.TracedRuns.{Tracing}

abbrev Kept : Setup → World → ℕ → ℕ → Broker → Type 0
Kept s w t a c = Stays (topic_at s w t a).entries c.entries (topic_at s w t a).ledgers c.ledgers

stored_grows : (s : Setup) (v w w' : World) (t x : ℕ) (id : List ℕ) → Kept s w t x (topic_at s w' t x) → IsStored s v w t x id → IsStored s v w' t x id
stored_grows s v w w' t x id g h = record {
  index = h.index;
  entry = h.entry;
  local = h.local;
  listed = h.listed;
  stands = grown_get (topic_at s w t x).entries (topic_at s w' t x).entries (topic_at s w t x).ledgers (topic_at s w' t x).ledgers g h.index h.entry h.stands;
  of = h.of;
  is = h.is;
  behind = h.behind;
  at = h.at;
  stored = g.index h.local h.at h.stored;
  low = h.low;
}

-- one broker
pub record OneGoes (s : Setup) (v w : World) (t a : ℕ) (c : Broker) : Type 0 where
  pub own : (i : ℕ) (e : Entry) → slice_get c.entries i ≡ Some e → is_of a e ≡ true → length (topic_at s v t a).entries ≤ i → is_of_snapshot e.content ≡ true
  pub subs : c.subs ≡ (topic_at s v t a).subs
  pub acked : (z i : ℕ) → z < length s.clusters → has (replicator_at (topic_at s v t a) z).cursor i ≡ true → has (replicator_at c z).cursor i ≡ true

one_goes : (s : Setup) (v w : World) (t x a : ℕ) (id : List ℕ) (e : Event) (c : Broker) → InPhase s v t x id w → Tracing s w → t < length s.topics → a < length s.clusters
    → ((k : Option LinkName) (q : Plan) → planned s w e ≡ Some (at_node t a k q) → IsCalm (site s t a) (topic_at s w t a) q) → Became s w e t a c → OneGoes s v w t a c
one_goes s v w t x a id e _ p traced lt small calm Became.Same = record { own = λ i f at of le. p.own a i f small at of le; subs = p.subs a small; acked = λ z i lt h. p.acked a z i small lt h }
one_goes s v w t x a id e _ p traced lt small calm (Became.Did k q is) = record {
  own = λ i f at of le.
      elim (old_or_new b.entries (appended q.writes) i f (subst (λ (es : List Entry). slice_get es i ≡ Some f) (done_entries s.per_ledger b q) at)) [
        | inl old ↦ p.own a i f small old.1 of le
        | inr new ↦ (calm k q is).own (i - length b.entries) f new.1 of
      ];
  subs = (calm k q is).subs s.per_ledger ∙ p.subs a small;
  acked = λ z i lt_z h. done_keeps_index s.per_ledger b z i q (let wide = (traced.0.0.0.0.0.0.0.sized.wide t a (lt, small)).replicators in omega (arith, wide, lt_z)) (p.acked a z i small lt_z h);
}
  where
    b : Broker
    b = topic_at s w t a

-- the snapshot
making_goes : (s : Setup) (v w : World) (t x : ℕ) (id : List ℕ) (e : Event) (c : Broker) → AllOver s v t → InPhase s v t x id w → Tracing s w → IsShort w → x < length s.clusters
    → ((k : Option LinkName) (q : Plan) → planned s w e ≡ Some (at_node t x k q) → IsCalm (site s t x) (topic_at s w t x) q) → Became s w e t x c
    → (w' : World) → topic_at s w' t x ≡ c → IsMaking s v w' t x id
making_goes s v w t x id e _ over p traced short small calm Became.Same w' here =
    let same : Kept s w t x (topic_at s w' t x) = subst (Kept s w t x) (sym here) (unchanged (topic_at s w t x)) in
    go same (ap (λ (b : Broker). b.builder) here) p.made
  where
    go : Kept s w t x (topic_at s w' t x) → (topic_at s w' t x).builder ≡ (topic_at s w t x).builder → IsMaking s v w t x id → IsMaking s v w' t x id
    go same builder (IsMaking.Still u is named_so) = IsMaking.Still u (builder ∙ is) named_so
    go same builder (IsMaking.Stood h) = IsMaking.Stood (stored_grows s v w w' t x id same h)
making_goes s v w t x id e _ over p traced short small calm (Became.Did k q is) w' here =
    go (calm k q is).makes p.made
  where
    b : Broker
    b = topic_at s w t x

    h : Site
    h = site s t x

    c : Broker
    c = done s.per_ledger b q

    knows : Knows s w
    knows = knows_now s w traced.0.0 short

    numbered : Numbered b.entries b.ledgers
    numbered = (knows.answers t x (over.topic, small)).numbered

    same : Kept s w t x (topic_at s w' t x)
    same = subst (Kept s w t x) (sym here) (done_stays s.per_ledger b q numbered)

    now : (o : Option SnapshotBuilder) → c.builder ≡ o → (topic_at s w' t x).builder ≡ o
    now o is = ap (λ (z : Broker). z.builder) here ∙ is

    go : Makes h b q → IsMaking s v w t x id → IsMaking s v w' t x id
    go makes (IsMaking.Stood old) = IsMaking.Stood (stored_grows s v w w' t x id same old)
    go (Makes.Leaves leaves) (IsMaking.Still u making named_so) = IsMaking.Still u (now (Some u) (leaves s.per_ledger ∙ making)) named_so
    go (Makes.GoesOn u' u'' making' stays next) (IsMaking.Still u making named_so) =
        let it : u' ≡ u = same_Some u' u (sym making' ∙ making) in
        IsMaking.Still u'' (now (Some u'') (next s.per_ledger)) (stays ∙ ap (λ (z : SnapshotBuilder). z.id) it ∙ named_so)
    go (Makes.Stores y i f id' answer u' u'' making' stays next response heard only) (IsMaking.Still u making named_so) =
        let it : u' ≡ u = same_Some u' u (sym making' ∙ making) in
        let named_it : u''.id ≡ id = stays ∙ ap (λ (z : SnapshotBuilder). z.id) it ∙ named_so in
        let made : Made (length s.clusters) x (cluster_name h x) b.entries b.ledgers u'' =
        heard_made h b y i f id' answer u' u'' progress.Done small numbered next response heard (traced.0.0.1 short t x (over.topic, small)) in
        let ended = (heard_over b y i id' answer u' u'' heard).heard in
        let many = over.scripted.clusters.0 in let clusters = made.clusters in
        let some : 0 < length u''.heard = grind (arith, nat_tests, ended, many, clusters) in
        let place = made.local (inr some) in
        let within = (of_index b.ledgers u''.cut.local place.0 place.1).within in let whole = numbered.whole in
        let last : c.entries ≡ b.entries ++ snapshot_marker h b u'' ∷ [] = done_entries s.per_ledger b q ∙ ap (λ (l : List Entry). b.entries ++ l) only in
        let grows = grown_on s over.scripted v w over.reached p.reached in
        let longer = grows t x (over.topic, small) in
        IsMaking.Stood (record {
          index = length b.entries;
          entry = snapshot_marker h b u'';
          local = u''.cut.local;
          listed = named u''.cut;
          stands = subst (λ (z : Broker). slice_get z.entries (length b.entries) ≡ Some (snapshot_marker h b u'')) (sym here)
              (subst (λ (es : List Entry). slice_get es (length b.entries) ≡ Some (snapshot_marker h b u'')) (sym last) (get_last b.entries (snapshot_marker h b u'')));
          of = eq-eqb x x refl;
          is = ap (λ (l : List ℕ). content.Marked (marker.Snapshot l u''.cut.local (named u''.cut))) named_it;
          behind = let size = ap (λ (es : List Entry). length es) longer.is ∙ length-append (topic_at s v t x).entries longer.more in omega (arith, size);
          at = place.0;
          stored = same.index u''.cut.local place.0 place.1;
          low = omega (arith, within, whole);
        })

pub phase_event : (s : Setup) (v w : World) (t x : ℕ) (id : List ℕ) (e : Event) → AllOver s v t → x < length s.clusters → is_settling e ≡ true → IsShort (happens s w e) → InPhase s v t x id w
    → InPhase s v t x id (happens s w e)
phase_event s v w t x id e over small settles short p = record {
  reached = ReachedFrom.AfterEvent w e p.reached;
  own = λ a i f lt at of le. (one a lt).own i f at of le;
  subs = λ a lt. (one a lt).subs;
  acked = λ a z i lt lt_z h. (one a lt).acked z i lt_z h;
  made = making_goes s v w t x id e (topic_at s (happens s w e) t x) over p traced was small (λ k q is. calm x k q small is) (became s w e t x small) (happens s w e) refl;
}
  where
    was : IsShort w
    was = let more = event_more s w e in omega (arith, more, short)

    traced : Tracing s w
    traced = tracing_at s over.scripted w (reached_then s (opening_world s) v w over.reached p.reached)

    calm : (a : ℕ) (k : Option LinkName) (q : Plan) → a < length s.clusters → planned s w e ≡ Some (at_node t a k q) → IsCalm (site s t a) (topic_at s w t a) q
    calm a k q lt is = calm_of s v w t x a id e k q over p traced (knows_now s w traced.0.0 was) settles lt is

    one : (a : ℕ) → a < length s.clusters → OneGoes s v w t a (topic_at s (happens s w e) t a)
    one a lt = one_goes s v w t x a id e (topic_at s (happens s w e) t a) p traced over.topic lt (λ k q is. calm a k q lt is) (became s w e t a lt)

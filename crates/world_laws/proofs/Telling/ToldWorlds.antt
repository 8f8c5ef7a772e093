-- What is told, in the world: every event keeps that only what is told is acknowledged, and that updates name only what is told,
-- where what its writes gain is told.
use Rattle.std.proofs.Common.{◌≡◌, ℕ, ◌*◌, ◌<◌, List, [], ◌∷◌, ◌++◌, length, refl, sym, subst}
use Rattle.std.specs.Prelude.{Option, Some, None, slice_index_or, slice_set, take}
use Rattle.std.proofs.lemmas.List.{get_or-replicate}
use Rattle.std.proofs.lemmas.Option.{none-some}
use Rattle.world_laws.proofs.Types.{Change, Event, Write}
use Rattle.world_laws.proofs.Types.change
use Rattle.world_laws.proofs.Types.write
use Rattle.geo_base.specs.Broker.{Broker, new_broker, no_broker}
use Rattle.geo_base.specs.Client.{Acted}
use Rattle.geo_base.specs.Happening.{broker_does, broker_halts, client_does, stops}
use Rattle.geo_base.specs.Laws.{IsShort}
use Rattle.geo_base.specs.Moments.{partly_written}
use Rattle.geo_base.specs.Plan.{all_changed, all_written, done, halted}
use Rattle.geo_base.specs.Planned.{Planned, planned}
use Rattle.geo_base.specs.Seeking.{restart}
use Rattle.geo_base.specs.Settled.{SettledSoFar, settled_event}
use Rattle.geo_base.specs.Setup.{Setup}
use Rattle.geo_base.specs.World.{LinkName, ToClient, World, node, opening_world, site, topic_at}
use Rattle.world_laws.proofs.Telling.Announcing.{Announcing, announcing_halt, announcing_take, shape_announcing}
use Rattle.world_laws.proofs.OnceInOrder.Appends.{all_changed_entries}
use Rattle.world_laws.proofs.Snapshotting.Asked.{Named}
use Rattle.world_laws.proofs.Snapshotting.Cuts.{Cutting, IsCachedCut, cutting_kept}
use Rattle.world_laws.proofs.Replicating.Effects.{each_map}
use Rattle.world_laws.proofs.Snapshotting.Grows.{Grown, Lengthened, grown_does, grown_halts, grown_stops, grown_written, unchanged}
use Rattle.world_laws.proofs.Induction.Layers.{one_topic}
use Rattle.world_laws.proofs.Telling.NamesTold.{cached_cut, names_after, names_more, names_same}
use Rattle.world_laws.proofs.Telling.OnlyTold.{includes_only, only_changed, only_written, tells_both}
use Rattle.world_laws.proofs.Replicating.PairRoles.{shape_within}
use Rattle.world_laws.proofs.Snapshotting.SecondRound.{Knows}
use Rattle.world_laws.proofs.Induction.Runs.{IsKept}
use Rattle.world_laws.proofs.Walks.Shapes.{Shape}
use Rattle.world_laws.proofs.Induction.Short.{client_short, does_short, halts_short, stops_short}
use Rattle.world_laws.proofs.Replicating.Sizes.{IsThere, Sized, node_lt, node_there, stopped_at}
use Rattle.world_laws.proofs.Dispatching.SubFrames.{AllSubs}
use Rattle.world_laws.proofs.Telling.Told.{HasTold, HasToldFrom, Includes, IsToldKept, NamesTold, OnlyTold, Tells, TellsAll, TellsAt, ToldIn, ToldSince, ToldOver, from_first, nothing_told, told_now, told_too}
use Rattle.world_laws.proofs.Walks.Walk.{on_if}

-- THE TOPIC OF AN EVENT, after writes and changes of it

pub event_told : (from : ℕ → ℕ → ℕ) (s : Setup) (w w' : World) (told : SettledSoFar) (t x : ℕ) → IsThere s t x → Knows s w → Grown s w w' → (ws : List Write) (cs : List Change)
    → Announcing (IsCachedCut s w t x (topic_at s w t x).ledgers) (site s t x) (topic_at s w t x) ws → Tells told t s.per_ledger (topic_at s w t x) ws
    → ToldIn s w told t x (from t x) (topic_at s w t x) → ToldIn s w' told t x (from t x) (all_changed (all_written s.per_ledger (topic_at s w t x) ws) cs)
event_told from s w w' told t x there k grown ws cs announcing tells old = record {
  only = only_changed told t c cs only;
  names = subst (NamesTold s w' told t x (from t x)) (sym (all_changed_entries c cs)) (names_after s w w' told t x (from t x) there k.answers grown ws announcing only old.names);
}
  where
    c : Broker
    c = all_written s.per_ledger (topic_at s w t x) ws

    only : AllSubs (OnlyTold told t c.entries) c
    only = only_written told t s.per_ledger (topic_at s w t x) ws tells old.only

-- a topic that the event leaves alone
pub same_told : (from : ℕ → ℕ → ℕ) (s : Setup) (w w' : World) (told : SettledSoFar) (t x : ℕ) → IsThere s t x → Knows s w → Grown s w w' → ToldIn s w told t x (from t x) (topic_at s w t x)
    → ToldIn s w' told t x (from t x) (topic_at s w t x)
same_told from s w w' told t x there k grown old =
    record { only = old.only; names = names_same s w w' told t x (from t x) (topic_at s w t x).entries there.0 k.answers grown old.names }

pub node_told : (from : ℕ → ℕ → ℕ) (s : Setup) (w w' : World) (told : SettledSoFar) (t x : ℕ) (b : Broker) → x < length s.clusters → Knows s w → HasToldFrom from s w told → Grown s w w'
    → w'.brokers ≡ slice_set w.brokers (node s t x) b → (IsThere s t x → ToldIn s w' told t x (from t x) b) → HasToldFrom from s w' told
node_told from s w w' told t x b lt k kept grown is new u v there =
    subst (λ (bs : List Broker). ToldIn s w' told u v (from u v) (slice_index_or bs (node s u v) no_broker)) (sym is)
    (one_topic s (λ y z c. ToldIn s w' told y z (from y z) c) w t x b lt new (λ y z here. same_told from s w w' told y z here k grown (kept y z here)) u v there)

-- a world with the same brokers
pub same_world : (from : ℕ → ℕ → ℕ) (s : Setup) (w w' : World) (told : SettledSoFar) → w'.brokers ≡ w.brokers → Knows s w → HasToldFrom from s w told → HasToldFrom from s w' told
same_world from s w w' told is k kept t x there =
    subst (λ (bs : List Broker). ToldIn s w' told t x (from t x) (slice_index_or bs (node s t x) no_broker)) (sym is)
    (same_told from s w w' told t x there k
    (λ u v here. subst (λ (bs : List Broker). Lengthened (topic_at s w u v) (slice_index_or bs (node s u v) no_broker)) (sym is) (unchanged (topic_at s w u v))) (kept t x there))

-- EVENTS

-- where the updates among a plan's writes come from
pub plan_announcing : (from : ℕ → ℕ → ℕ) (s : Setup) (w : World) (told : SettledSoFar) (p : Planned) → Shape s w p → ToldSince from s told w → IsThere s p.topic p.cluster
    → Announcing (IsCachedCut s w p.topic p.cluster (topic_at s w p.topic p.cluster).ledgers) (site s p.topic p.cluster) (topic_at s w p.topic p.cluster) p.plan.writes
plan_announcing from s w told p shape now there =
    let cuts = now.cuts p.topic p.cluster there in
    shape_announcing s w p (IsCachedCut s w p.topic p.cluster (topic_at s w p.topic p.cluster).ledgers) shape now.no_self cuts.caches
    (λ c q. cached_cut s w p.topic p.cluster c cuts q)

-- what some writes of it gain is told
abbrev pub TellsThere : Setup → World → SettledSoFar → Planned → List Write → Type 0
TellsThere s w told p ws = IsThere s p.topic p.cluster → Tells told p.topic s.per_ledger (topic_at s w p.topic p.cluster) ws

pub told_does : (from : ℕ → ℕ → ℕ) (s : Setup) (told : SettledSoFar) (w : World) (p : Planned) → Shape s w p → ToldSince from s told w → TellsThere s w told p p.plan.writes → HasToldFrom from s (broker_does s w p) told
unfolding broker_does
told_does from s told w p shape now tells =
    let b = topic_at s w p.topic p.cluster in
    on_if (λ (w' : World). Grown s w w' → HasToldFrom from s w' told) p.plan.idle _ _ (λ g. same_world from s w _ told refl now.knows now.kept)
    (λ g. node_told from s w _ told p.topic p.cluster (done s.per_ledger b p.plan) (shape_within s w p shape) now.knows now.kept g refl
    (λ here. event_told from s w _ told p.topic p.cluster here now.knows g p.plan.writes p.plan.changes (plan_announcing from s w told p shape now here) (tells here)
    (now.kept p.topic p.cluster here)))
    (grown_does s w p shape now.knows.answers)

pub told_halts : (from : ℕ → ℕ → ℕ) (s : Setup) (told : SettledSoFar) (w : World) (m : ℕ) (p : Planned) → Shape s w p → ToldSince from s told w → TellsThere s w told p (take m p.plan.writes)
    → HasToldFrom from s (broker_halts s w m p) told
unfolding broker_halts
told_halts from s told w m p shape now tells =
    let b = topic_at s w p.topic p.cluster in let g = grown_halts s w m p shape now.knows.answers in let ws = take m p.plan.writes in
    node_told from s w _ told p.topic p.cluster (halted s.per_ledger b m p.plan) (shape_within s w p shape) now.knows now.kept g refl
    (λ here. event_told from s w _ told p.topic p.cluster here now.knows g (ws ++ write.Ledger ∷ []) (change.Forget ∷ [])
    (announcing_halt _ (site s p.topic p.cluster) b m p.plan.writes (plan_announcing from s w told p shape now here))
    (tells_both told p.topic s.per_ledger b ws (write.Ledger ∷ []) (tells here) (tt, tt)) (now.kept p.topic p.cluster here))

-- in the midst of an event's writes
pub told_partly : (from : ℕ → ℕ → ℕ) (s : Setup) (told : SettledSoFar) (w : World) (m : ℕ) (p : Planned) → Shape s w p → ToldSince from s told w
    → TellsThere s w told p (take m p.plan.writes) → HasToldFrom from s (partly_written s w m (Some p)) told
told_partly from s told w m p shape now tells =
    let b = topic_at s w p.topic p.cluster in let g = grown_written s w m p shape now.knows.answers in
    let w' = partly_written s w m (Some p) in
    node_told from s w w' told p.topic p.cluster (all_written s.per_ledger b (take m p.plan.writes)) (shape_within s w p shape) now.knows now.kept g refl
    (λ here. event_told from s w w' told p.topic p.cluster here now.knows g (take m p.plan.writes) []
    (announcing_take _ (site s p.topic p.cluster) b m p.plan.writes (plan_announcing from s w told p shape now here)) (tells here) (now.kept p.topic p.cluster here))

pub told_written : (s : Setup) (told : SettledSoFar) (w : World) (m : ℕ) (p : Planned) → Shape s w p → TellsAt s w told p (take m p.plan.writes) → ToldOver s told w → IsShort w
    → HasTold s (partly_written s w m (Some p)) told
told_written s told w m p shape tells h short = told_partly from_first s told w m p shape (told_now s told w h short) (tells short)

pub told_client : (from : ℕ → ℕ → ℕ) (s : Setup) (told : SettledSoFar) (w : World) (c : ℕ) (l : Option LinkName) (a : Acted) → ToldSince from s told w → HasToldFrom from s (client_does s w c l a) told
unfolding client_does
told_client from s told w c l a now =
    on_if (λ (w' : World). HasToldFrom from s w' told) a.idle _ _ (same_world from s w _ told refl now.knows now.kept) (same_world from s w _ told refl now.knows now.kept)

pub told_stops : (from : ℕ → ℕ → ℕ) (s : Setup) (told : SettledSoFar) (w : World) → Sized s w → ToldSince from s told w → HasToldFrom from s (stops s w) told
unfolding stops restart
told_stops from s told w z now t x there =
    let b = topic_at s w t x in
    subst (ToldIn s _ told t x (from t x)) (sym (stopped_at w.brokers (λ c. done s.per_ledger c restart) (node s t x) (node_there s w t x z there)))
    (event_told from s w _ told t x there now.knows (grown_stops s w z now.knows.answers) (write.Ledger ∷ []) (change.Forget ∷ []) (Announcing.Silent _ (tt, tt)) (tt, tt)
    (now.kept t x there))

told_opening : (s : Setup) → HasTold s (opening_world s) nothing_told
told_opening s t x there =
    let n = length s.clusters in
    subst (ToldIn s (opening_world s) nothing_told t x 0)
    (sym (get_or-replicate (length s.topics * n) (node s t x) (new_broker n (length s.clients)) no_broker (node_lt s t x there)))
    (record { only = tt; names = λ i e m remote since at. absurd (none-some e at) })

-- as more is told
pub told_more : (from : ℕ → ℕ → ℕ) (s : Setup) (told more : SettledSoFar) (w : World) → Includes told more → HasToldFrom from s w told → HasToldFrom from s w more
told_more from s told more w includes kept t x there =
    let b = topic_at s w t x in let old = kept t x there in record {
      only = each_map (OnlyTold told t b.entries) (OnlyTold more t b.entries) (λ v h. includes_only told more includes t b.entries v h) b.subs old.only;
      names = names_more s w told more t x (from t x) b.entries includes old.names;
    }

-- so runs keep it, where an event first settles what it settles
pub told_over_kept : (s : Setup) → Named s
    → ((told : SettledSoFar) (w : World) (e : Event) → ToldOver s told w → TellsAll s w (told_too told (λ t n. settled_event s w t n e)) (planned s w e)) → IsToldKept s (ToldOver s)
told_over_kept s names tells = record {
  opening = (cut.opening, λ short. told_opening s);
  more = λ told more w includes h. (h.0, λ short. told_more from_first s told more w includes (h.1 short));
  tells = tells;
  idle = λ told w n h. (cut.idle w n h.0, λ short. same_world from_first s w _ told refl (told_now s told w h short).knows (h.1 short));
  round = λ told w n h. (cut.round w n h.0, λ short. same_world from_first s w _ told refl (told_now s told w h short).knows (h.1 short));
  does = λ told w p shape tells h.
      (cut.does w p shape h.0, λ short. let was = does_short s w p short in told_does from_first s told w p shape (told_now s told w h was) (tells was));
  halts = λ told w m p shape tells h.
      (cut.halts w m p shape h.0, λ short. let was = halts_short s w m p short in told_halts from_first s told w m p shape (told_now s told w h was) (tells was));
  goes = λ told w c a h. (cut.goes w c a h.0, λ short. let was = client_short s w c None a short in told_client from_first s told w c None a (told_now s told w h was));
  gets = λ told w c x a h. (
    cut.gets w c x a h.0,
    λ short. let was = client_short s w c (Some (ToClient c x)) a short in told_client from_first s told w c (Some (ToClient c x)) a (told_now s told w h was),
  );
  stop = λ told w h.
      (cut.stop w h.0, λ short. let was = stops_short s w short in told_stops from_first s told w h.0.0.0.0.0.0.0.sized (told_now s told w h was));
}
  where
    cut : IsKept s (Cutting s)
    cut = cutting_kept s names

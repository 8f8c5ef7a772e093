-- In every world of a short run all that is stored, kept for markers or on a link is clean.
use Rattle.std.proofs.Common.{◌≡◌, ℕ, ◌+◌, ◌*◌, ◌<◌, ◌≤◌, true, List, [], ◌∷◌, ◌++◌, length, All, map, sym, subst, arith}
use Rattle.std.specs.Prelude.{Option, Some, None, nat_lt, slice_index_or, take}
use Rattle.std.proofs.lemmas.Bool.{ltb-true}
use Rattle.std.proofs.lemmas.Bool.Decides.{nat_tests}
use Rattle.std.proofs.lemmas.List.{get_or-replicate}
use Rattle.std.proofs.lemmas.Option.{none-some}
use Rattle.world_laws.proofs.Types.{Event, Out, Packet, Peer}
use Rattle.world_laws.proofs.Types.change
use Rattle.world_laws.proofs.Types.event
use Rattle.world_laws.proofs.Types.write
use Rattle.geo_base.specs.Broker.{new_broker, no_broker}
use Rattle.geo_base.specs.Client.{Acted}
use Rattle.geo_base.specs.Happening.{broker_does, broker_halts, client_does, does_planned, halts_planned, happens, stops}
use Rattle.geo_base.specs.Laws.{IsShort}
use Rattle.geo_base.specs.Link.{Link, discarded, no_link, sent_on, took}
use Rattle.geo_base.specs.Plan.{all_written, done, halted}
use Rattle.geo_base.specs.Planned.{Planned, has_client, planned}
use Rattle.geo_base.specs.Scripted.{IsScripted}
use Rattle.geo_base.specs.Seeking.{restart}
use Rattle.geo_base.specs.Setup.{Setup}
use Rattle.geo_base.specs.World.{Back, Forward, LinkName, Links, ToBroker, ToClient, World, client_at, delivered, from_broker, from_client, link_at, node, opening_world, packet_at, site, stamped, taken_from, topic_at, with_link}
use Rattle.world_laws.specs.Starts.{most_at_start}
use Rattle.world_laws.proofs.Snapshotting.Asked.{named}
use Rattle.world_laws.proofs.Counters.Bounds.{link_set, table_has}
use Rattle.world_laws.proofs.Counters.Counts.{FewAt, HasRoom, few_kept, few_room, next_small, stored_small}
use Rattle.world_laws.proofs.Replicating.Effects.{Each, each_both, each_take}
use Rattle.world_laws.proofs.Walks.EventWalk.{HasShape, planned_shape}
use Rattle.world_laws.proofs.Induction.Frames.{at_map}
use Rattle.world_laws.proofs.Snapshotting.Ids.{IsSmall}
use Rattle.world_laws.proofs.Induction.Layers.{Both, Everywhere, Grounds, both_kept, grounds_kept, one_node}
use Rattle.world_laws.proofs.TopicOrder.Ledgers.{at_index}
use Rattle.world_laws.proofs.Counters.MarkerRuns.{Marked, marked_on}
use Rattle.world_laws.proofs.Replicating.PairRoles.{shape_within}
use Rattle.world_laws.proofs.Replicating.Pairs.{past_node}
use Rattle.world_laws.proofs.Induction.Runs.{IsKeptByEvents, by_events}
use Rattle.world_laws.proofs.Walks.Shapes.{Shape}
use Rattle.world_laws.proofs.Induction.Short.{client_short, does_short, halts_short, stops_short}
use Rattle.world_laws.proofs.Replicating.Sizes.{IsThere, Sized, node_lt, node_there, sized_kept, stopped_at}
use Rattle.world_laws.proofs.KeptRuns.Starting.{opening_starts, start_marked}
use Rattle.world_laws.proofs.Dispatching.SubFrames.{each_at_place}
use Rattle.world_laws.proofs.Walks.Walk.{by_test, on_if, on_test}
use Rattle.world_laws.proofs.FrameContents.Widths.{AllWide, wide_kept}
use Rattle.trace_laws.proofs.Told.{numbered_here}
use Rattle.trace_laws.proofs.Traced.{Tracing, tracing_kept, whole}
use Rattle.script_text.specs.Scenario.{IsClient}
use Rattle.trace_laws.proofs.Words.{is_plain, named_plain}
use Rattle.trace_laws.proofs.Clean.{IsCleanFrame}
use Rattle.trace_laws.proofs.CleanClients.{gets_clean, goes_clean, reconnects_clean}
use Rattle.trace_laws.proofs.CleanPlans.{IsCleanPlan, Ready, KeepsClean, SendsClean, WritesClean, all_written_clean, changed_clean, done_clean, shape_clean, written_clean}

-- ---- links

abbrev CleanPacket : Packet → Type 0
CleanPacket p = IsCleanFrame p.frame

abbrev CleanLink : Link → Type 0
CleanLink l = Each CleanPacket l.sent

abbrev pub CleanLinks : Links → Type 0
CleanLinks ls = (k : LinkName) → CleanLink (link_at ls k)

all_delivered : (to : Peer → LinkName) (stamp : ℕ) (os : List Out) (ls : Links) → Each SendsClean os → CleanLinks ls → CleanLinks (delivered to stamp os ls)
all_delivered to stamp [] ls h all = all
all_delivered to stamp (o ∷ os) ls h all =
    all_delivered to stamp os (with_link ls (to o.to) (sent_on (link_at ls (to o.to)) (stamped stamp o))) h.1
    (λ k. link_set CleanLink ls (to o.to) k (sent_on (link_at ls (to o.to)) (stamped stamp o))
    (each_both CleanPacket (link_at ls (to o.to)).sent (stamped stamp o ∷ []) (all (to o.to)) (h.0, tt)) (all k))

all_taken : (o : Option LinkName) (ls : Links) → CleanLinks ls → CleanLinks (taken_from o ls)
all_taken None ls all = all
all_taken (Some j) ls all = λ k. link_set CleanLink ls j k (took (link_at ls j)) (all j) (all k)

discarded_sent : (m : List (List Link)) (i j : ℕ) → CleanLink (slice_index_or (slice_index_or m i []) j no_link)
    → CleanLink (slice_index_or (slice_index_or (map (λ (ls : List Link). map discarded ls) m) i []) j no_link)
discarded_sent m i j h =
    at_map (λ (r : List Link). CleanLink (slice_index_or r j no_link)) (λ (ls : List Link). map discarded ls) (λ r q. at_map CleanLink discarded (λ l p. p) r j no_link tt q) m i [] tt h

all_stopped : (s : Setup) (w : World) → CleanLinks w.links → CleanLinks (stops s w).links
unfolding stops
all_stopped s w all (Forward n y) = discarded_sent w.links.forward n y (all (Forward n y))
all_stopped s w all (Back n y) = discarded_sent w.links.back n y (all (Back n y))
all_stopped s w all (ToBroker c x) = discarded_sent w.links.to_broker c x (all (ToBroker c x))
all_stopped s w all (ToClient c x) = discarded_sent w.links.to_client c x (all (ToClient c x))

all_opening : (s : Setup) → CleanLinks (opening_world s).links
all_opening s (Forward n y) = table_has CleanLink (length s.topics * length s.clusters) (length s.clusters) n y tt
all_opening s (Back n y) = table_has CleanLink (length s.topics * length s.clusters) (length s.clusters) n y tt
all_opening s (ToBroker c x) = table_has CleanLink (length s.clients) (length s.clusters) c x tt
all_opening s (ToClient c x) = table_has CleanLink (length s.clients) (length s.clusters) c x tt

pub taken_clean : (w : World) (o : Option LinkName) (q : Packet) → CleanLinks w.links → packet_at w.links o ≡ Some q → IsCleanFrame q.frame
taken_clean w None q all at = absurd (none-some q at)
taken_clean w (Some k) q all at = each_at_place CleanPacket (link_at w.links k).sent (link_at w.links k).taken q (all k) at

-- ---- worlds

-- what stands below
pub record Base (s : Setup) (w : World) : Type 0 where
  pub marked : Marked most_at_start s w
  pub few : Both (Grounds s) (FewAt s) w
  pub wide : Both (Sized s) (AllWide s) w
  pub tracing : Tracing s w

pub record AllClean (s : Setup) (w : World) : Type 0 where
  pub links : CleanLinks w.links
  pub brokers : Everywhere s (λ x b. KeepsClean b) w

cluster_plain : (s : Setup) → IsScripted s → (x : ℕ) → is_plain (slice_index_or s.clusters x []) ≡ true
cluster_plain s scripted x = named_plain s.clusters x scripted.cluster_names.0

ready_there : (s : Setup) → IsScripted s → (w : World) (t x : ℕ) → IsShort w → Base s w → AllClean s w → IsThere s t x → Ready (site s t x) (topic_at s w t x)
ready_there s scripted w t x short base all there =
    let b = topic_at s w t x in
    let numbered = numbered_here s w t x ((whole s w scripted base.tracing short).here t x there) in
    let room : HasRoom b = few_room s w short base.few.1 t x there in
    let few = base.marked.few t x there in
    record {
      clean = all.brokers t x there;
      names = (base.wide.1 t x there).names;
      places = λ i lt. let all = numbered.whole in stored_small b _ i room numbered (at_index b.ledgers i (omega (arith, all, lt)));
      next = next_small s.per_ledger w.events b short (base.few.1 t x there) numbered;
      number = omega (arith, few, short);
      clusters = λ y. cluster_plain s scripted y;
    }

ready_nowhere : (s : Setup) → IsScripted s → (t x : ℕ) → Ready (site s t x) no_broker
ready_nowhere s scripted t x = record {
  clean = record { stored = tt; builder = tt; caches = tt };
  names = tt;
  places = λ i lt. absurd (omega (arith, lt));
  next = on_if IsSmall (nat_lt 0 s.per_ledger) _ _ (record { ledger = omega arith; entry = omega arith }) (record { ledger = omega arith; entry = omega arith });
  number = omega arith;
  clusters = λ y. cluster_plain s scripted y;
}

ready_at : (s : Setup) → IsScripted s → (w : World) (t x : ℕ) → x < length s.clusters → IsShort w → Base s w → AllClean s w → Ready (site s t x) (topic_at s w t x)
ready_at s scripted w t x lt short base all =
    by_test (nat_lt t (length s.topics)) (λ is. ready_there s scripted w t x short base all (ltb-true t (length s.topics) is, lt))
    (λ is.
    let le : length s.topics ≤ t = grind (arith, nat_tests, is) in
    let size = base.wide.0.brokers in
    subst (Ready (site s t x)) (sym (past_node s w.brokers t x size le)) (ready_nowhere s scripted t x))

pub plan_clean : (s : Setup) → IsScripted s → (w : World) (p : Planned) → Shape s w p → IsShort w → Base s w → AllClean s w → IsCleanPlan p.plan
plan_clean s scripted w p shape short base all =
    shape_clean s w p shape (ready_at s scripted w p.topic p.cluster (shape_within s w p shape) short base all) (λ q at. taken_clean w p.takes q all.links at)

clean_does : (s : Setup) → IsScripted s → (w : World) (p : Planned) → Shape s w p → IsShort w → Base s w → AllClean s w → AllClean s (broker_does s w p)
unfolding broker_does
clean_does s scripted w p shape short base all =
    let b = topic_at s w p.topic p.cluster in
    let k = plan_clean s scripted w p shape short base all in
    on_if (AllClean s) p.plan.idle _ _ (record { links = all.links; brokers = all.brokers }) (record {
      links = all_taken p.takes _ (all_delivered (from_broker s p.topic p.cluster) _ p.plan.sent w.links k.sent all.links);
      brokers = one_node s (λ x b. KeepsClean b) w p.topic p.cluster (done s.per_ledger b p.plan) (shape_within s w p shape)
          (λ here. done_clean s.per_ledger b p.plan k (all.brokers p.topic p.cluster here)) all.brokers;
    })

clean_halts : (s : Setup) → IsScripted s → (w : World) (n : ℕ) (p : Planned) → Shape s w p → IsShort w → Base s w → AllClean s w → AllClean s (broker_halts s w n p)
unfolding broker_halts
clean_halts s scripted w n p shape short base all =
    let b = topic_at s w p.topic p.cluster in
    let k = plan_clean s scripted w p shape short base all in
    let ws = take n p.plan.writes ++ write.Ledger ∷ [] in
    record {
      links = all_taken p.takes w.links all.links;
      brokers = one_node s (λ x b. KeepsClean b) w p.topic p.cluster (halted s.per_ledger b n p.plan) (shape_within s w p shape)
          (λ here. changed_clean (all_written s.per_ledger b ws) change.Forget tt
          (all_written_clean s.per_ledger b ws (each_both WritesClean (take n p.plan.writes) (write.Ledger ∷ []) (each_take WritesClean n p.plan.writes k.writes) (tt, tt))
          (all.brokers p.topic p.cluster here))) all.brokers;
    }

clean_client : (s : Setup) (w : World) (c : ℕ) (o : Option LinkName) (a : Acted) → Each SendsClean a.sent → AllClean s w → AllClean s (client_does s w c o a)
unfolding client_does
clean_client s w c o a sends all =
    on_if (AllClean s) a.idle _ _ (record { links = all.links; brokers = all.brokers }) (record {
      links = all_delivered (from_client c) _ a.sent (taken_from o w.links) sends (all_taken o w.links all.links);
      brokers = all.brokers;
    })

clean_stops : (s : Setup) (w : World) → Sized s w → AllClean s w → AllClean s (stops s w)
unfolding stops restart
clean_stops s w z all = record {
  links = all_stopped s w all.links;
  brokers = λ t x there. let b = topic_at s w t x in
      subst KeepsClean (sym (stopped_at w.brokers (λ c. done s.per_ledger c restart) (node s t x) (node_there s w t x z there)))
      (changed_clean (all_written s.per_ledger b (write.Ledger ∷ [])) change.Forget tt (written_clean s.per_ledger b write.Ledger tt (all.brokers t x there)));
}

clean_opening : (s : Setup) → AllClean s (opening_world s)
clean_opening s = record {
  links = all_opening s;
  brokers = λ t x there. let n = length s.clusters in
      subst KeepsClean (sym (get_or-replicate (length s.topics * n) (node s t x) (new_broker n (length s.clients)) no_broker (node_lt s t x there)))
      (record { stored = tt; builder = tt; caches = tt });
}

-- ---- in every run

abbrev pub CleanShort : Setup → World → Type 0
CleanShort s w = IsShort w → AllClean s w

clean_planned : (s : Setup) → IsScripted s → (w : World) (o : Option Planned) → HasShape s w o → Base s w → CleanShort s w → CleanShort s (does_planned s w o)
clean_planned s scripted w None shape base all = λ short. let k = all short in record { links = k.links; brokers = k.brokers }
clean_planned s scripted w (Some p) shape base all = λ short. let was = does_short s w p short in clean_does s scripted w p shape was base (all was)

halt_planned : (s : Setup) → IsScripted s → (w : World) (n : ℕ) (o : Option Planned) → HasShape s w o → Base s w → CleanShort s w → CleanShort s (halts_planned s w n o)
halt_planned s scripted w n None shape base all = λ short. let k = all short in record { links = k.links; brokers = k.brokers }
halt_planned s scripted w n (Some p) shape base all = λ short. let was = halts_short s w n p short in clean_halts s scripted w n p shape was base (all was)

idle_clean : (s : Setup) (w : World) (n : ℕ) → CleanShort s w → CleanShort s (record w { idle = n })
idle_clean s w n all short = let k = all short in record { links = k.links; brokers = k.brokers }

acted_clean : (s : Setup) (w : World) (c : ℕ) (o : Option LinkName) (a : Acted) → Each SendsClean a.sent → CleanShort s w → CleanShort s (client_does s w c o a)
acted_clean s w c o a sends all short = clean_client s w c o a sends (all (client_short s w c o a short))

clean_event : (s : Setup) → IsScripted s → All IsClient s.clients → (w : World) (e : Event) → Base s w → CleanShort s w → CleanShort s (happens s w e)
unfolding happens
clean_event s scripted texts w (event.Go c) base all =
    on_test (CleanShort s) (has_client s c) _ _ (λ has. acted_clean s w c None _ (goes_clean s scripted texts c has (client_at s w c)) all) (λ none. idle_clean s w (w.idle + 1) all)
clean_event s scripted texts w (event.Reconnect c) base all =
    on_test (CleanShort s) (has_client s c) _ _ (λ has. acted_clean s w c None _ (reconnects_clean s scripted texts c has (client_at s w c)) all) (λ none. idle_clean s w (w.idle + 1) all)
clean_event s scripted texts w (event.Get c) base all =
    on_test (CleanShort s) (has_client s c) _ _
    (λ has. acted_clean s w c (Some (ToClient c (client_at s w c).cluster)) _ (gets_clean s c (client_at s w c) _) all) (λ none. idle_clean s w (w.idle + 1) all)
clean_event s scripted texts w e base all = clean_planned s scripted w (planned s w e) (planned_shape s w e) base all

base_kept : (s : Setup) → IsScripted s → IsKeptByEvents s (Base s)
base_kept s scripted =
    let m = marked_on most_at_start s scripted in
    let f = by_events s (Both (Grounds s) (FewAt s)) (both_kept s (Grounds s) (FewAt s) (grounds_kept s) (few_kept s)) in
    let d = by_events s (Both (Sized s) (AllWide s)) (both_kept s (Sized s) (AllWide s) (sized_kept s) (wide_kept s)) in
    let t = by_events s (Tracing s) (tracing_kept s (named s scripted)) in
    record {
      opening = record { marked = start_marked s (opening_world s) (opening_starts s); few = f.opening; wide = d.opening; tracing = t.opening };
      idle = λ w n h. record { marked = m.idle w n h.marked; few = f.idle w n h.few; wide = d.idle w n h.wide; tracing = t.idle w n h.tracing };
      round = λ w n h. record { marked = m.round w n h.marked; few = f.round w n h.few; wide = d.round w n h.wide; tracing = t.round w n h.tracing };
      event = λ w e h. record { marked = m.event w e h.marked; few = f.event w e h.few; wide = d.event w e h.wide; tracing = t.event w e h.tracing };
      halts = λ w n e h. record { marked = m.halts w n e h.marked; few = f.halts w n e h.few; wide = d.halts w n e h.wide; tracing = t.halts w n e h.tracing };
      stop = λ w h. record { marked = m.stop w h.marked; few = f.stop w h.few; wide = d.stop w h.wide; tracing = t.stop w h.tracing };
    }

pub record StaysClean (s : Setup) (w : World) : Type 0 where
  pub base : Base s w
  pub clean : CleanShort s w

pub clean_kept : (s : Setup) → IsScripted s → All IsClient s.clients → IsKeptByEvents s (StaysClean s)
clean_kept s scripted texts =
    let b = base_kept s scripted in
    record {
      opening = record { base = b.opening; clean = λ short. clean_opening s };
      idle = λ w n h. record { base = b.idle w n h.base; clean = idle_clean s w n h.clean };
      round = λ w n h. record { base = b.round w n h.base; clean = λ short. let k = h.clean short in record { links = k.links; brokers = k.brokers } };
      event = λ w e h. record { base = b.event w e h.base; clean = clean_event s scripted texts w e h.base h.clean };
      halts = λ w n e h. record { base = b.halts w n e h.base; clean = halt_planned s scripted w n (planned s w e) (planned_shape s w e) h.base h.clean };
      stop = λ w h. record { base = b.stop w h.base; clean = λ short. clean_stops s w h.base.wide.0 (h.clean (stops_short s w short)) };
    }

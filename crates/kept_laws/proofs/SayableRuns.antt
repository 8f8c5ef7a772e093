-- In every world of a short run all that is stored, kept for markers or on a link can be written.
use Rattle.std.proofs.Common.{◌≡◌, ℕ, ◌+◌, ◌*◌, ◌<◌, ◌≤◌, List, [], ◌∷◌, ◌++◌, length, map, sym, subst, arith}
use Rattle.std.specs.Prelude.{Option, Some, None, nat_lt, slice_index_or, take}
use Rattle.std.proofs.lemmas.Bool.{ltb-true}
use Rattle.std.proofs.lemmas.Bool.Decides.{nat_tests}
use Rattle.std.proofs.lemmas.List.{get_or-replicate}
use Rattle.std.proofs.lemmas.Option.{none-some}
use Rattle.world_laws.proofs.Types.{Event, Out, Packet, Peer}
use Rattle.world_laws.proofs.Types.change
use Rattle.world_laws.proofs.Types.event
use Rattle.world_laws.proofs.Types.write
use Rattle.geo_base.specs.Broker.{Broker, new_broker, no_broker}
use Rattle.geo_base.specs.Client.{Acted}
use Rattle.geo_base.specs.Happening.{broker_does, broker_halts, client_does, does_planned, halts_planned, happens, stops}
use Rattle.geo_base.specs.Laws.{IsShort}
use Rattle.geo_base.specs.Link.{Link, discarded, no_link, sent_on, took}
use Rattle.geo_base.specs.Plan.{all_written, done, halted}
use Rattle.geo_base.specs.Planned.{Planned, has_client, planned}
use Rattle.geo_base.specs.Scripted.{IsScripted}
use Rattle.geo_base.specs.Seeking.{restart}
use Rattle.geo_base.specs.Setup.{Setup}
use Rattle.geo_base.specs.World.{Back, Forward, LinkName, Links, ToBroker, ToClient, World, client_at, delivered, from_broker, from_client, link_at, node, opening_world, packet_at, site, stamped, taken_from, topic_at, with_link}
use Rattle.world_laws.specs.Starts.{most_at_start}
use Rattle.world_laws.proofs.Snapshotting.Answering.{Numbered}
use Rattle.world_laws.proofs.Counters.Bounds.{link_set, table_has}
use Rattle.world_laws.proofs.Counters.Counts.{FewAt, HasRoom, few_kept, few_room, next_small, stored_small}
use Rattle.world_laws.proofs.Replicating.Effects.{Each, each_both, each_take}
use Rattle.world_laws.proofs.Walks.EventWalk.{HasShape, planned_shape}
use Rattle.world_laws.proofs.Induction.Frames.{at_map}
use Rattle.world_laws.proofs.Snapshotting.Ids.{IsSmall}
use Rattle.world_laws.proofs.Induction.Layers.{Both, Everywhere, Grounds, both_kept, grounds_kept, one_node}
use Rattle.world_laws.proofs.TopicOrder.Ledgers.{at_index}
use Rattle.world_laws.proofs.Counters.MarkerRuns.{Marked, marked_on}
use Rattle.world_laws.proofs.Replicating.PairRoles.{shape_within}
use Rattle.world_laws.proofs.Replicating.Pairs.{past_node}
use Rattle.world_laws.proofs.Induction.Runs.{IsKeptByEvents, by_events}
use Rattle.world_laws.proofs.Walks.Shapes.{Shape}
use Rattle.world_laws.proofs.Induction.Short.{client_short, does_short, halts_short, stops_short}
use Rattle.world_laws.proofs.Replicating.Sizes.{IsThere, Sized, node_lt, node_there, sized_kept, stopped_at}
use Rattle.world_laws.proofs.KeptRuns.Starting.{opening_starts, start_marked}
use Rattle.world_laws.proofs.Dispatching.SubFrames.{each_at_place}
use Rattle.world_laws.proofs.Walks.Walk.{by_test, on_if, on_test}
use Rattle.world_laws.proofs.FrameContents.Widths.{AllWide, wide_kept}
use Rattle.kept_laws.proofs.Ascii.{AreLow, named_low}
use Rattle.kept_laws.proofs.Sayable.{IsSayableFrame}
use Rattle.kept_laws.proofs.SayableClients.{gets_say, goes_say, reconnects_say}
use Rattle.kept_laws.proofs.SayablePlans.{IsSayablePlan, Ready, Says, SendsSayable, WritesSayable, all_written_says, changed_says, done_says, shape_says, written_says}
use Rattle.kept_laws.proofs.Steady.{steady_kept}
use Rattle.kept_laws.proofs.Tidy.{IsTidy, tidy_steady}

-- ---- links

abbrev SaysPacket : Packet → Type 0
SaysPacket p = IsSayableFrame p.frame

abbrev SaysLink : Link → Type 0
SaysLink l = Each SaysPacket l.sent

abbrev pub SayLinks : Links → Type 0
SayLinks ls = (k : LinkName) → SaysLink (link_at ls k)

all_delivered : (to : Peer → LinkName) (stamp : ℕ) (os : List Out) (ls : Links) → Each SendsSayable os → SayLinks ls → SayLinks (delivered to stamp os ls)
all_delivered to stamp [] ls h all = all
all_delivered to stamp (o ∷ os) ls h all =
    all_delivered to stamp os (with_link ls (to o.to) (sent_on (link_at ls (to o.to)) (stamped stamp o))) h.1
    (λ k. link_set SaysLink ls (to o.to) k (sent_on (link_at ls (to o.to)) (stamped stamp o))
    (each_both SaysPacket (link_at ls (to o.to)).sent (stamped stamp o ∷ []) (all (to o.to)) (h.0, tt)) (all k))

all_taken : (o : Option LinkName) (ls : Links) → SayLinks ls → SayLinks (taken_from o ls)
all_taken None ls all = all
all_taken (Some j) ls all = λ k. link_set SaysLink ls j k (took (link_at ls j)) (all j) (all k)

discarded_sent : (m : List (List Link)) (i j : ℕ) → SaysLink (slice_index_or (slice_index_or m i []) j no_link)
    → SaysLink (slice_index_or (slice_index_or (map (λ (ls : List Link). map discarded ls) m) i []) j no_link)
discarded_sent m i j h =
    at_map (λ (r : List Link). SaysLink (slice_index_or r j no_link)) (λ (ls : List Link). map discarded ls) (λ r q. at_map SaysLink discarded (λ l p. p) r j no_link tt q) m i [] tt h

all_stopped : (s : Setup) (w : World) → SayLinks w.links → SayLinks (stops s w).links
unfolding stops
all_stopped s w all (Forward n y) = discarded_sent w.links.forward n y (all (Forward n y))
all_stopped s w all (Back n y) = discarded_sent w.links.back n y (all (Back n y))
all_stopped s w all (ToBroker c x) = discarded_sent w.links.to_broker c x (all (ToBroker c x))
all_stopped s w all (ToClient c x) = discarded_sent w.links.to_client c x (all (ToClient c x))

all_opening : (s : Setup) → SayLinks (opening_world s).links
all_opening s (Forward n y) = table_has SaysLink (length s.topics * length s.clusters) (length s.clusters) n y tt
all_opening s (Back n y) = table_has SaysLink (length s.topics * length s.clusters) (length s.clusters) n y tt
all_opening s (ToBroker c x) = table_has SaysLink (length s.clients) (length s.clusters) c x tt
all_opening s (ToClient c x) = table_has SaysLink (length s.clients) (length s.clusters) c x tt

pub taken_says : (w : World) (o : Option LinkName) (q : Packet) → SayLinks w.links → packet_at w.links o ≡ Some q → IsSayableFrame q.frame
taken_says w None q all at = absurd (none-some q at)
taken_says w (Some k) q all at = each_at_place SaysPacket (link_at w.links k).sent (link_at w.links k).taken q (all k) at

-- ---- worlds

-- what stands below
pub record Base (s : Setup) (w : World) : Type 0 where
  pub marked : Marked most_at_start s w
  pub few : Both (Grounds s) (FewAt s) w
  pub wide : Both (Sized s) (AllWide s) w
  pub tidy : Both (Sized s) (Everywhere s (λ x b. IsTidy s.per_ledger b)) w

pub record AllSay (s : Setup) (w : World) : Type 0 where
  pub links : SayLinks w.links
  pub brokers : Everywhere s (λ x b. Says b) w

cluster_low : (s : Setup) → IsScripted s → (x : ℕ) → AreLow (slice_index_or s.clusters x [])
cluster_low s scripted x = named_low s.clusters x scripted.cluster_names.0

ready_there : (s : Setup) → IsScripted s → (w : World) (t x : ℕ) → IsShort w → Base s w → AllSay s w → IsThere s t x → Ready (site s t x) (topic_at s w t x)
ready_there s scripted w t x short base all there =
    let b = topic_at s w t x in
    let tidy = base.tidy.1 t x there in
    let numbered : Numbered b.entries b.ledgers = record { some = tidy.ledgers.some; whole = tidy.ledgers.whole } in
    let room : HasRoom b = few_room s w short base.few.1 t x there in
    let few = base.marked.few t x there in
    record {
      says = all.brokers t x there;
      names = (base.wide.1 t x there).names;
      places = λ i lt. let whole = numbered.whole in stored_small b _ i room numbered (at_index b.ledgers i (omega (arith, whole, lt)));
      next = next_small s.per_ledger w.events b short (base.few.1 t x there) numbered;
      number = omega (arith, few, short);
      clusters = λ y. cluster_low s scripted y;
    }

ready_nowhere : (s : Setup) → IsScripted s → (t x : ℕ) → Ready (site s t x) no_broker
ready_nowhere s scripted t x = record {
  says = record { stored = tt; builder = tt; caches = tt };
  names = tt;
  places = λ i lt. absurd (omega (arith, lt));
  next = on_if IsSmall (nat_lt 0 s.per_ledger) _ _ (record { ledger = omega arith; entry = omega arith }) (record { ledger = omega arith; entry = omega arith });
  number = omega arith;
  clusters = λ y. cluster_low s scripted y;
}

ready_at : (s : Setup) → IsScripted s → (w : World) (t x : ℕ) → x < length s.clusters → IsShort w → Base s w → AllSay s w → Ready (site s t x) (topic_at s w t x)
ready_at s scripted w t x lt short base all =
    by_test (nat_lt t (length s.topics)) (λ is. ready_there s scripted w t x short base all (ltb-true t (length s.topics) is, lt))
    (λ is.
    let le : length s.topics ≤ t = grind (arith, nat_tests, is) in
    let size = base.wide.0.brokers in
    subst (Ready (site s t x)) (sym (past_node s w.brokers t x size le)) (ready_nowhere s scripted t x))

plan_says : (s : Setup) → IsScripted s → (w : World) (p : Planned) → Shape s w p → IsShort w → Base s w → AllSay s w → IsSayablePlan p.plan
plan_says s scripted w p shape short base all =
    shape_says s w p shape (ready_at s scripted w p.topic p.cluster (shape_within s w p shape) short base all) (λ q at. taken_says w p.takes q all.links at)

say_does : (s : Setup) → IsScripted s → (w : World) (p : Planned) → Shape s w p → IsShort w → Base s w → AllSay s w → AllSay s (broker_does s w p)
unfolding broker_does
say_does s scripted w p shape short base all =
    let b = topic_at s w p.topic p.cluster in
    let k = plan_says s scripted w p shape short base all in
    on_if (AllSay s) p.plan.idle _ _ (record { links = all.links; brokers = all.brokers }) (record {
      links = all_taken p.takes _ (all_delivered (from_broker s p.topic p.cluster) _ p.plan.sent w.links k.sent all.links);
      brokers = one_node s (λ x b. Says b) w p.topic p.cluster (done s.per_ledger b p.plan) (shape_within s w p shape)
          (λ here. done_says s.per_ledger b p.plan k (all.brokers p.topic p.cluster here)) all.brokers;
    })

say_halts : (s : Setup) → IsScripted s → (w : World) (n : ℕ) (p : Planned) → Shape s w p → IsShort w → Base s w → AllSay s w → AllSay s (broker_halts s w n p)
unfolding broker_halts
say_halts s scripted w n p shape short base all =
    let b = topic_at s w p.topic p.cluster in
    let k = plan_says s scripted w p shape short base all in
    let ws = take n p.plan.writes ++ write.Ledger ∷ [] in
    record {
      links = all_taken p.takes w.links all.links;
      brokers = one_node s (λ x b. Says b) w p.topic p.cluster (halted s.per_ledger b n p.plan) (shape_within s w p shape)
          (λ here. changed_says (all_written s.per_ledger b ws) change.Forget tt
          (all_written_says s.per_ledger b ws (each_both WritesSayable (take n p.plan.writes) (write.Ledger ∷ []) (each_take WritesSayable n p.plan.writes k.writes) (tt, tt))
          (all.brokers p.topic p.cluster here))) all.brokers;
    }

say_client : (s : Setup) (w : World) (c : ℕ) (o : Option LinkName) (a : Acted) → Each SendsSayable a.sent → AllSay s w → AllSay s (client_does s w c o a)
unfolding client_does
say_client s w c o a sends all =
    on_if (AllSay s) a.idle _ _ (record { links = all.links; brokers = all.brokers }) (record {
      links = all_delivered (from_client c) _ a.sent (taken_from o w.links) sends (all_taken o w.links all.links);
      brokers = all.brokers;
    })

say_stops : (s : Setup) (w : World) → Sized s w → AllSay s w → AllSay s (stops s w)
unfolding stops restart
say_stops s w z all = record {
  links = all_stopped s w all.links;
  brokers = λ t x there. let b = topic_at s w t x in
      subst Says (sym (stopped_at w.brokers (λ c. done s.per_ledger c restart) (node s t x) (node_there s w t x z there)))
      (changed_says (all_written s.per_ledger b (write.Ledger ∷ [])) change.Forget tt (written_says s.per_ledger b write.Ledger tt (all.brokers t x there)));
}

say_opening : (s : Setup) → AllSay s (opening_world s)
say_opening s = record {
  links = all_opening s;
  brokers = λ t x there. let n = length s.clusters in
      subst Says (sym (get_or-replicate (length s.topics * n) (node s t x) (new_broker n (length s.clients)) no_broker (node_lt s t x there)))
      (record { stored = tt; builder = tt; caches = tt });
}

-- ---- in every run

abbrev pub SayShort : Setup → World → Type 0
SayShort s w = IsShort w → AllSay s w

say_planned : (s : Setup) → IsScripted s → (w : World) (o : Option Planned) → HasShape s w o → Base s w → SayShort s w → SayShort s (does_planned s w o)
say_planned s scripted w None shape base all = λ short. let k = all short in record { links = k.links; brokers = k.brokers }
say_planned s scripted w (Some p) shape base all = λ short. let was = does_short s w p short in say_does s scripted w p shape was base (all was)

halt_planned : (s : Setup) → IsScripted s → (w : World) (n : ℕ) (o : Option Planned) → HasShape s w o → Base s w → SayShort s w → SayShort s (halts_planned s w n o)
halt_planned s scripted w n None shape base all = λ short. let k = all short in record { links = k.links; brokers = k.brokers }
halt_planned s scripted w n (Some p) shape base all = λ short. let was = halts_short s w n p short in say_halts s scripted w n p shape was base (all was)

idle_says : (s : Setup) (w : World) (n : ℕ) → SayShort s w → SayShort s (record w { idle = n })
idle_says s w n all short = let k = all short in record { links = k.links; brokers = k.brokers }

acted_says : (s : Setup) (w : World) (c : ℕ) (o : Option LinkName) (a : Acted) → Each SendsSayable a.sent → SayShort s w → SayShort s (client_does s w c o a)
acted_says s w c o a sends all short = say_client s w c o a sends (all (client_short s w c o a short))

say_event : (s : Setup) → IsScripted s → (w : World) (e : Event) → Base s w → SayShort s w → SayShort s (happens s w e)
unfolding happens
say_event s scripted w (event.Go c) base all =
    on_test (SayShort s) (has_client s c) _ _ (λ has. acted_says s w c None _ (goes_say s scripted c has (client_at s w c)) all) (λ none. idle_says s w (w.idle + 1) all)
say_event s scripted w (event.Reconnect c) base all =
    on_test (SayShort s) (has_client s c) _ _ (λ has. acted_says s w c None _ (reconnects_say s scripted c has (client_at s w c)) all) (λ none. idle_says s w (w.idle + 1) all)
say_event s scripted w (event.Get c) base all =
    on_test (SayShort s) (has_client s c) _ _
    (λ has. acted_says s w c (Some (ToClient c (client_at s w c).cluster)) _ (gets_say s c (client_at s w c) _) all) (λ none. idle_says s w (w.idle + 1) all)
say_event s scripted w e base all = say_planned s scripted w (planned s w e) (planned_shape s w e) base all

base_kept : (s : Setup) → IsScripted s → IsKeptByEvents s (Base s)
base_kept s scripted =
    let m = marked_on most_at_start s scripted in
    let f = by_events s (Both (Grounds s) (FewAt s)) (both_kept s (Grounds s) (FewAt s) (grounds_kept s) (few_kept s)) in
    let d = by_events s (Both (Sized s) (AllWide s)) (both_kept s (Sized s) (AllWide s) (sized_kept s) (wide_kept s)) in
    let T : ℕ → Broker → Type 0 = λ x b. IsTidy s.per_ledger b in
    let t = by_events s (Both (Sized s) (Everywhere s T)) (steady_kept s T (tidy_steady s scripted.ledger.0)) in
    record {
      opening = record { marked = start_marked s (opening_world s) (opening_starts s); few = f.opening; wide = d.opening; tidy = t.opening };
      idle = λ w n h. record { marked = m.idle w n h.marked; few = f.idle w n h.few; wide = d.idle w n h.wide; tidy = t.idle w n h.tidy };
      round = λ w n h. record { marked = m.round w n h.marked; few = f.round w n h.few; wide = d.round w n h.wide; tidy = t.round w n h.tidy };
      event = λ w e h. record { marked = m.event w e h.marked; few = f.event w e h.few; wide = d.event w e h.wide; tidy = t.event w e h.tidy };
      halts = λ w n e h. record { marked = m.halts w n e h.marked; few = f.halts w n e h.few; wide = d.halts w n e h.wide; tidy = t.halts w n e h.tidy };
      stop = λ w h. record { marked = m.stop w h.marked; few = f.stop w h.few; wide = d.stop w h.wide; tidy = t.stop w h.tidy };
    }

pub record Saying (s : Setup) (w : World) : Type 0 where
  pub base : Base s w
  pub say : SayShort s w

pub saying_kept : (s : Setup) → IsScripted s → IsKeptByEvents s (Saying s)
saying_kept s scripted =
    let b = base_kept s scripted in
    record {
      opening = record { base = b.opening; say = λ short. say_opening s };
      idle = λ w n h. record { base = b.idle w n h.base; say = idle_says s w n h.say };
      round = λ w n h. record { base = b.round w n h.base; say = λ short. let k = h.say short in record { links = k.links; brokers = k.brokers } };
      event = λ w e h. record { base = b.event w e h.base; say = say_event s scripted w e h.base h.say };
      halts = λ w n e h. record { base = b.halts w n e h.base; say = halt_planned s scripted w n (planned s w e) (planned_shape s w e) h.base h.say };
      stop = λ w h. record { base = b.stop w h.base; say = λ short. say_stops s w h.base.wide.0 (h.say (stops_short s w short)) };
    }

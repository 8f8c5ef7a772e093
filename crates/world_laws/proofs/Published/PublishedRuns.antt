-- So every event keeps it, a stop of everything too, and the opening world has it.
use Rattle.std.proofs.Common.{ℕ, ◌*◌, length, sym, subst}
use Rattle.std.proofs.lemmas.List.{get_or-replicate}
use Rattle.geo_base.specs.Broker.{Broker, new_broker, no_broker}
use Rattle.geo_base.specs.Client.{Client, new_client, unconnected}
use Rattle.geo_base.specs.Happening.{stops}
use Rattle.geo_base.specs.Plan.{done}
use Rattle.geo_base.specs.Planned.{planned}
use Rattle.geo_base.specs.Scripted.{IsScripted}
use Rattle.geo_base.specs.Seeking.{restart}
use Rattle.geo_base.specs.Setup.{Setup, declared_at}
use Rattle.geo_base.specs.World.{World, client_at, node, opening_world, topic_at}
use Rattle.world_laws.proofs.Clients.ClientLinks.{Packets, SentDown, none_down, none_up, stops_down, stops_up}
use Rattle.world_laws.proofs.Clients.Meeting.{MeetsAll, event_meets, halt_meets, meets_on, opening_meets, stop_meets}
use Rattle.world_laws.proofs.Induction.Frames.{at_map}
use Rattle.world_laws.proofs.Induction.Runs.{IsKeptByEvents, event_done, plan_halted}
use Rattle.world_laws.proofs.Merges.ClientRoams.{IsCluster, good_client}
use Rattle.world_laws.proofs.Merges.Opened.{opening_client}
use Rattle.world_laws.proofs.Published.BrokerEvents.{chained_halts}
use Rattle.world_laws.proofs.Published.Chained.{Chained, GotThere, all_got_longer}
use Rattle.world_laws.proofs.Published.ClientEvents.{chained_event, idle_chained}
use Rattle.world_laws.proofs.Published.ClientPackets.{Told, packets_longer}
use Rattle.world_laws.proofs.Published.Homes.{IsHome, new_home, none_home}
use Rattle.world_laws.proofs.Published.OwnMessages.{OwnPublished, Publishes}
use Rattle.world_laws.proofs.Replicating.Effects.{Each}
use Rattle.world_laws.proofs.Replicating.Sizes.{node_lt, node_there, stopped_at}
use Rattle.world_laws.proofs.Snapshotting.Grows.{grown_stops}
use Rattle.world_laws.proofs.Snapshotting.Positions.{Answered, answered_kept}
use Rattle.world_laws.proofs.Walks.EventWalk.{planned_shape}

-- ---- a stop of everything, and the opening world

chained_stops : (s : Setup) (w : World) → IsScripted s → Answered s (stops s w) → ((c : ℕ) → MeetsAll s c (stops s w)) → Chained s w → Chained s (stops s w)
unfolding stops restart
chained_stops s w scripted ground meets h = record {
  ground = ground;
  own = λ t x there.
      subst (λ (b : Broker). Each (OwnPublished s t x) b.entries) (sym (stopped_at w.brokers (λ b. done s.per_ledger b restart) (node s t x) (node_there s w t x h.ground.0.0.sized there))) (h.own t x there);
  clients = λ c. let d = declared_at s c in let k = h.clients c in record {
    meets = meets c;
    home = at_map (IsHome d) unconnected (λ j p. none_home d j p) w.clients c (new_client d) (new_home d) k.home;
    cluster = λ lt. at_map (λ (j : Client). IsCluster s j.cluster) unconnected (λ j p. p) w.clients c (new_client d) (good_client s c scripted lt).cluster (k.cluster lt);
    up = λ x. subst (Packets (Publishes s c x)) (sym (stops_up s w c x)) (k.up x);
    down = λ x there.
        subst (Packets (Told d x (topic_at s (stops s w) d.topic x))) (sym (stops_down s w c x))
        (packets_longer d x (topic_at s w d.topic x) (topic_at s (stops s w) d.topic x) (SentDown w.links c x) (grown_stops s w h.ground.0.0.sized h.ground.1 d.topic x there) (k.down x there));
    got = λ lt.
        at_map (λ (j : Client). Each (GotThere s (stops s w) d.topic) j.got) unconnected (λ j p. p) w.clients c (new_client d) tt
        (all_got_longer s w (stops s w) c (client_at s w c).got scripted lt (grown_stops s w h.ground.0.0.sized h.ground.1) (k.got lt));
  };
}

chained_opening : (s : Setup) → IsScripted s → Chained s (opening_world s)
chained_opening s scripted = record {
  ground = (answered_kept s).opening;
  own = λ t x there. let n = length s.clusters in
      subst (λ (b : Broker). Each (OwnPublished s t x) b.entries) (sym (get_or-replicate (length s.topics * n) (node s t x) (new_broker n (length s.clients)) no_broker (node_lt s t x there))) tt;
  clients = λ c. let d = declared_at s c in let is = sym (opening_client s.clients c) in record {
    meets = opening_meets s c;
    home = subst (IsHome d) is (new_home d);
    cluster = λ lt. subst (λ (j : Client). IsCluster s j.cluster) is (good_client s c scripted lt).cluster;
    up = λ x. none_up s c x (Publishes s c x);
    down = λ x there. none_down s c x (Told d x (topic_at s (opening_world s) d.topic x));
    got = λ lt. subst (λ (j : Client). Each (GotThere s (opening_world s) d.topic) j.got) is tt;
  };
}

-- so every event keeps it
pub chained_kept : (s : Setup) → IsScripted s → IsKeptByEvents s (Chained s)
chained_kept s scripted = let k = answered_kept s in record {
  opening = chained_opening s scripted;
  idle = λ w n h. idle_chained s w n (k.idle w n h.ground) (λ c. (meets_on s c).idle w n (h.clients c).meets) h;
  round = λ w n h. record {
    ground = k.round w n h.ground;
    own = h.own;
    clients = λ c. let j = h.clients c in record { meets = (meets_on s c).round w n j.meets; home = j.home; cluster = j.cluster; up = j.up; down = j.down; got = j.got };
  };
  event = λ w e h. chained_event s w e scripted (event_done s (Answered s) k w e h.ground) (λ c. event_meets s c w e (h.clients c).meets) h;
  halts = λ w n e h.
      chained_halts s w n (planned s w e) scripted (planned_shape s w e) (plan_halted s (Answered s) k w n (planned s w e) (planned_shape s w e) h.ground)
      (λ c. halt_meets s c w n (planned s w e) (planned_shape s w e) (h.clients c).meets) h;
  stop = λ w h. chained_stops s w scripted (k.stop w h.ground) (λ c. stop_meets s c w (h.clients c).meets) h;
}

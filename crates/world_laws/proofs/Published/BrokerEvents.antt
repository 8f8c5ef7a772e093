-- An event of a broker, done or stopped, keeps what is known of each client, and that own messages are published.
use Rattle.std.proofs.Common.{ℕ, ◌<◌, List, [], ◌∷◌, ◌++◌, length, sym, subst, ◌∙◌}
use Rattle.std.specs.Prelude.{Option, Some, None, ◌+◌, slice_index, slice_set, take}
use Rattle.std.proofs.lemmas.Bool.{ltb-true}
use Rattle.world_laws.proofs.Types.{Write}
use Rattle.world_laws.proofs.Types.write
use Rattle.geo_base.specs.Broker.{Broker}
use Rattle.geo_base.specs.FrameSizes.{sent_bytes}
use Rattle.geo_base.specs.Happening.{broker_does, broker_halts, does_planned, halts_planned, idles, next_stamp}
use Rattle.geo_base.specs.Moments.{partly_written}
use Rattle.geo_base.specs.Plan.{all_written, done, halted}
use Rattle.geo_base.specs.Planned.{Planned}
use Rattle.geo_base.specs.Scripted.{IsScripted}
use Rattle.geo_base.specs.Setup.{Setup, declared_at}
use Rattle.geo_base.specs.World.{World, broker_at, client_at, delivered, from_broker, node, packet_at, taken_from, topic_at}
use Rattle.world_laws.proofs.Clients.ClientLinks.{Packets, SentDown, does_down, does_up, halts_down, halts_up}
use Rattle.world_laws.proofs.Clients.Meeting.{MeetsAll}
use Rattle.world_laws.proofs.Induction.Layers.{one_topic}
use Rattle.world_laws.proofs.Merges.ClientRoams.{good_client}
use Rattle.world_laws.proofs.OnceInOrder.Appends.{all_changed_entries, written_entries}
use Rattle.world_laws.proofs.Published.Chained.{Chained, Knows, all_got_longer, numbered_at, same_there}
use Rattle.world_laws.proofs.Published.ClientPackets.{Told, packets_longer, told_outs}
use Rattle.world_laws.proofs.Published.Messages.{MessagesOut, shape_messages}
use Rattle.world_laws.proofs.Published.OwnMessages.{AllOwn, OwnPublished, Publishes, shape_own}
use Rattle.world_laws.proofs.Published.Receipts.{ReceiptsOut, shape_receipts}
use Rattle.world_laws.proofs.Replicating.Effects.{Each, each_both, each_take}
use Rattle.world_laws.proofs.Replicating.PairRoles.{shape_within}
use Rattle.world_laws.proofs.Replicating.Sizes.{IsThere}
use Rattle.world_laws.proofs.Snapshotting.Grows.{Grown, grown_does, grown_halts}
use Rattle.world_laws.proofs.Snapshotting.Positions.{Answered}
use Rattle.world_laws.proofs.TopicOrder.Added.{after_is, appended, appended_both, appended_take}
use Rattle.world_laws.proofs.Walks.EventWalk.{HasShape}
use Rattle.world_laws.proofs.Walks.Shapes.{Shape}
use Rattle.world_laws.proofs.Walks.Walk.{on_if}

-- what an event sends holds
pub event_receipts : (s : Setup) (w : World) (p : Planned) → IsScripted s → Shape s w p → Chained s w → ReceiptsOut s p.topic p.cluster (done s.per_ledger (topic_at s w p.topic p.cluster) p.plan) p.plan.sent
event_receipts s w p scripted shape h =
    shape_receipts s w p shape (λ c x. (h.clients c).up x)
    (λ c lt topic. numbered_at s w p.topic p.cluster h.ground
    (subst (λ (n : ℕ). n < length s.topics) (sym topic) (ltb-true _ _ (good_client s c scripted lt).topic), shape_within s w p shape))

event_messages : (s : Setup) (w : World) (p : Planned) → Shape s w p → Chained s w → MessagesOut s p.topic p.cluster (done s.per_ledger (topic_at s w p.topic p.cluster) p.plan) p.plan.sent
event_messages s w p shape h =
    shape_messages s w p shape (λ t x lt c. ((h.clients c).meets.brokers t x lt).consumers) (λ t x topic lt. numbered_at s w t x h.ground (topic, lt))

-- what an event that is not idle leaves
abbrev pub after_event : Setup → World → Planned → World
after_event s w p =
    let n = node s p.topic p.cluster in
    let stamp = next_stamp (slice_index w.broker_clocks n) (packet_at w.links p.takes) in
    record {
      brokers = slice_set w.brokers n (done s.per_ledger (broker_at w n) p.plan);
      clients = w.clients;
      links = taken_from p.takes (delivered (from_broker s p.topic p.cluster) stamp p.plan.sent w.links);
      broker_clocks = slice_set w.broker_clocks n stamp;
      client_clocks = w.client_clocks;
      events = w.events + 1;
      idle = w.idle;
      rounds = w.rounds;
      frame_bytes = w.frame_bytes + sent_bytes s.clusters p.plan.sent;
    }

-- what is known of client c stays known
knows_does : (s : Setup) (c : ℕ) (w : World) (p : Planned) → IsScripted s → Shape s w p → Chained s w → MeetsAll s c (broker_does s w p) → Grown s w (broker_does s w p) → Knows s c (broker_does s w p)
unfolding broker_does
knows_does s c w p scripted shape h =
    let d = declared_at s c in let k = h.clients c in let b = topic_at s w p.topic p.cluster in
    let Goal : World → Type 0 = λ w'. MeetsAll s c w' → Grown s w w' → Knows s c w' in
    on_if Goal p.plan.idle (idles w) (after_event s w p) (λ meets grown. record { meets = meets; home = k.home; cluster = k.cluster; up = k.up; down = k.down; got = k.got })
    (λ meets grown. record {
      meets = meets;
      home = k.home;
      cluster = k.cluster;
      up = λ x. subst (Packets (Publishes s c x)) (sym (does_up s p.topic p.cluster _ c x p.takes p.plan.sent w.links)) (k.up x);
      down = λ x there.
          let b' = topic_at s (record w { brokers = slice_set w.brokers (node s p.topic p.cluster) (done s.per_ledger b p.plan) }) d.topic x in
          does_down s p.topic p.cluster _ c x (Told d x b') p.takes p.plan.sent w.links
          (told_outs s p.topic p.cluster c x (done s.per_ledger b p.plan) b' p.plan.sent
          (λ e e'. same_there s w p.topic p.cluster d.topic x (done s.per_ledger b p.plan) h.ground.0.0.sized there e e') (event_receipts s w p scripted shape h) (event_messages s w p shape h))
          (packets_longer d x (topic_at s w d.topic x) b' (SentDown w.links c x) (grown d.topic x there) (k.down x there));
      got = λ lt. all_got_longer s w (after_event s w p) c (client_at s w c).got scripted lt grown (k.got lt);
    })

knows_halts : (s : Setup) (c : ℕ) (w : World) (n : ℕ) (p : Planned) → IsScripted s → Shape s w p → Chained s w → MeetsAll s c (broker_halts s w n p) → Grown s w (broker_halts s w n p) → Knows s c (broker_halts s w n p)
unfolding broker_halts
knows_halts s c w n p scripted shape h meets grown =
    let d = declared_at s c in let k = h.clients c in
    let b' = λ (x : ℕ). topic_at s (record w { brokers = slice_set w.brokers (node s p.topic p.cluster) (halted s.per_ledger (topic_at s w p.topic p.cluster) n p.plan) }) d.topic x in
    record {
      meets = meets;
      home = k.home;
      cluster = k.cluster;
      up = λ x. subst (Packets (Publishes s c x)) (sym (halts_up c x p.takes w.links)) (k.up x);
      down = λ x there.
          subst (Packets (Told d x (b' x))) (sym (halts_down c x p.takes w.links))
          (packets_longer d x (topic_at s w d.topic x) (b' x) (SentDown w.links c x) (grown d.topic x there) (k.down x there));
      got = λ lt. all_got_longer s w (broker_halts s w n p) c (client_at s w c).got scripted lt grown (k.got lt);
    }

-- own messages
own_more : (s : Setup) (t x : ℕ) (b : Broker) (ws : List Write) → Each (OwnPublished s t x) b.entries → AllOwn s t x ws → Each (OwnPublished s t x) (all_written s.per_ledger b ws).entries
own_more s t x b ws h new =
    subst (Each (OwnPublished s t x)) (sym (written_entries s.per_ledger b ws ∙ after_is b.entries ws)) (each_both (OwnPublished s t x) b.entries (appended ws) h new)

own_take : (s : Setup) (t x n : ℕ) (ws : List Write) → AllOwn s t x ws → AllOwn s t x (take n ws)
own_take s t x n ws h = let r = appended_take n ws in subst (Each (OwnPublished s t x)) (sym r.1) (each_take (OwnPublished s t x) r.0 (appended ws) h)

own_halt : (s : Setup) (t x n : ℕ) (ws : List Write) → AllOwn s t x ws → AllOwn s t x (take n ws ++ write.Ledger ∷ [])
own_halt s t x n ws h =
    subst (Each (OwnPublished s t x)) (sym (appended_both (take n ws) (write.Ledger ∷ []))) (each_both (OwnPublished s t x) (appended (take n ws)) [] (own_take s t x n ws h) tt)

event_own : (s : Setup) (w : World) (p : Planned) → Shape s w p → Chained s w → AllOwn s p.topic p.cluster p.plan.writes
event_own s w p shape h = shape_own s w p shape h.ground.0.1 (λ c x. (h.clients c).up x)

abbrev pub OwnEverywhere : Setup → World → Type 0
OwnEverywhere s w = (t x : ℕ) → IsThere s t x → Each (OwnPublished s t x) (topic_at s w t x).entries

own_does : (s : Setup) (w : World) (p : Planned) → Shape s w p → Chained s w → OwnEverywhere s (broker_does s w p)
unfolding broker_does
own_does s w p shape h t x there =
    let b = topic_at s w p.topic p.cluster in
    on_if (λ (w' : World). Each (OwnPublished s t x) (topic_at s w' t x).entries) p.plan.idle _ _ (h.own t x there)
    (one_topic s (λ t x b. Each (OwnPublished s t x) b.entries) w p.topic p.cluster (done s.per_ledger b p.plan) (shape_within s w p shape)
    (λ here. subst (Each (OwnPublished s p.topic p.cluster)) (sym (all_changed_entries (all_written s.per_ledger b p.plan.writes) p.plan.changes))
    (own_more s p.topic p.cluster b p.plan.writes (h.own p.topic p.cluster here) (event_own s w p shape h))) h.own t x there)

own_halts : (s : Setup) (w : World) (n : ℕ) (p : Planned) → Shape s w p → Chained s w → OwnEverywhere s (broker_halts s w n p)
unfolding broker_halts
own_halts s w n p shape h =
    let b = topic_at s w p.topic p.cluster in let ws = take n p.plan.writes ++ write.Ledger ∷ [] in
    one_topic s (λ t x b. Each (OwnPublished s t x) b.entries) w p.topic p.cluster (halted s.per_ledger b n p.plan) (shape_within s w p shape)
    (λ here. own_more s p.topic p.cluster b ws (h.own p.topic p.cluster here) (own_halt s p.topic p.cluster n p.plan.writes (event_own s w p shape h))) h.own

pub own_written : (s : Setup) (w : World) (n : ℕ) (p : Planned) → Shape s w p → Chained s w → OwnEverywhere s (partly_written s w n (Some p))
own_written s w n p shape h =
    let b = topic_at s w p.topic p.cluster in let ws = take n p.plan.writes in
    one_topic s (λ t x b. Each (OwnPublished s t x) b.entries) w p.topic p.cluster (all_written s.per_ledger b ws) (shape_within s w p shape)
    (λ here. own_more s p.topic p.cluster b ws (h.own p.topic p.cluster here) (own_take s p.topic p.cluster n p.plan.writes (event_own s w p shape h))) h.own

pub chained_planned : (s : Setup) (w : World) (o : Option Planned) → IsScripted s → HasShape s w o → Answered s (does_planned s w o) → ((c : ℕ) → MeetsAll s c (does_planned s w o)) → Chained s w → Chained s (does_planned s w o)
chained_planned s w None scripted shape ground meets h = record {
  ground = ground;
  own = h.own;
  clients = λ c. let k = h.clients c in record { meets = meets c; home = k.home; cluster = k.cluster; up = k.up; down = k.down; got = k.got };
}
chained_planned s w (Some p) scripted shape ground meets h = record {
  ground = ground;
  own = own_does s w p shape h;
  clients = λ c. knows_does s c w p scripted shape h (meets c) (grown_does s w p shape h.ground.1);
}

pub chained_halts : (s : Setup) (w : World) (n : ℕ) (o : Option Planned) → IsScripted s → HasShape s w o → Answered s (halts_planned s w n o) → ((c : ℕ) → MeetsAll s c (halts_planned s w n o)) → Chained s w → Chained s (halts_planned s w n o)
chained_halts s w n None scripted shape ground meets h = record {
  ground = ground;
  own = h.own;
  clients = λ c. let k = h.clients c in record { meets = meets c; home = k.home; cluster = k.cluster; up = k.up; down = k.down; got = k.got };
}
chained_halts s w n (Some p) scripted shape ground meets h = record {
  ground = ground;
  own = own_halts s w n p shape h;
  clients = λ c. knows_halts s c w n p scripted shape h (meets c) (grown_halts s w n p shape h.ground.1);
}

-- How a step leaves the world.
use Rattle.std.specs.Prelude.{◌≡◌, ℕ, ◌+◌, ◌≤◌, Bool, true, false, List, Option, Some, None, Ok, Err, OnOk, Result, is_some, max, slice_index, slice_set, ⊤}
use Rattle.geo_base.specs.declared.event.Event.{Event}
use Rattle.geo_base.specs.declared.packet.Packet.{Packet}
use Rattle.geo_base.specs.Broker.{Broker}
use Rattle.geo_base.specs.Plan.{done, halted}
use Rattle.geo_base.specs.Run.{all_limits}
use Rattle.geo_base.specs.Setup.{Setup}
use Rattle.geo_base.specs.World.{World}
use Rattle.broker_state.specs.Plan.{PlanView, plan_in}
use Rattle.broker_plans.specs.Prepared.{IsPrepared}
use Rattle.world.specs.declared.broker_ref.BrokerRef.{BrokerRef}
use Rattle.world.specs.World.{AreNodes, WorldView, brokers_of, kept_of, node_at}
use Rattle.broker.specs.Events.{plan_at_node}
use Rattle.broker.specs.Node.{BrokerView}
use Rattle.world.specs.declared.fault.RunFault.{RunFault}
use Rattle.world.specs.declared.fault.RunFault.TheVariants as fault
use Rattle.links.specs.declared.name.Node.TheVariants as wire_node
use Rattle.links.specs.declared.port.Port.{Port}
use Rattle.links.specs.Each.{Both}
use Rattle.links.specs.Queues.{IsFound, WireLinks, packet_in, packet_on, port_at, taken_in}
use Rattle.wire_ends.specs.declared.packet.WirePacket.{WirePacket}
use Rattle.kept_laws.specs.Events.{cluster_of, takes_of, topic_of}
use Rattle.kept_laws.specs.Kept.{broker_acted, broker_stopped, idled}
use Rattle.frame_laws.specs.BytePackets.{StandsForPacket}
use Rattle.kept_laws.specs.Standing.{Stands}

-- the broker of an event, and the link that it takes from, where these links are
abbrev pub broker_ref_at : Setup → WireLinks → Event → BrokerRef
broker_ref_at s ls e = record { topic = topic_of s e; cluster = cluster_of e; takes = record { link = takes_of e; number = port_at ls (takes_of e) } }

-- the broker of an event alone
pub record IsBrokerOf (s : Setup) (e : Event) (b : BrokerRef) : Type 0 where
  pub topic : b.topic ≡ topic_of s e
  pub cluster : b.cluster ≡ cluster_of e

-- an event that takes from a link on which there is no packet
pub record Waits (b : WorldView) (takes : Port) : Type 0 where
  pub taking : is_some takes.link ≡ true
  pub none : packet_in b.links takes ≡ None

-- an event that takes this packet is prepared at broker n: whatever the packet stands for, it is the machine's plan of it there
abbrev pub PreparesAt : WorldView → ℕ → Option WirePacket → Event → PlanView → Type 0
PreparesAt b n taken e p = (v : Option Packet) → Both (StandsForPacket (node_at b.brokers n).site.clusters) taken v
    → IsPrepared (node_at b.brokers n).site (node_at b.brokers n).broker (plan_at_node (node_at b.brokers n) e v) p

-- A step that leads the machine from w to next: where it ends well, the world stands for the machine's after it, which is within the
-- limits; a limit that it would pass is the one that next is past, and then nothing has changed, nor where memory is wanting.
pub record Leads (s : Setup) (old new : WorldView) (next : World) (result : Result (Unit {0}) RunFault) : Type 0 where
  pub done : OnOk result (Stands s (kept_of new) next × (all_limits next ≡ None))
  pub large : (n : ℕ) → result ≡ Err (fault.TooLarge n) → all_limits next ≡ Some n

-- An event that is done where it is enabled, and the answer says whether it was; next is the machine's world after it, which counts
-- one that was not. The others are as in Leads; an event that would pass a limit is no idle one.
abbrev pub Acts : Setup → (old new : WorldView) → World → Result Bool RunFault → Type 0
Acts s old new next (Ok true) = Stands s (kept_of new) next × (all_limits next ≡ None)
Acts s old new next (Ok false) = Stands s (idled (kept_of new)) next
Acts s old new next (Err (fault.TooLarge n)) = (next.idle ≡ old.idle) × (all_limits next ≡ Some n)
Acts s old new next (Err fault.Memory) = ⊤

-- no event was undone, and neither an idle one nor a round was counted
pub record IsLater (old new : WorldView) : Type 0 where
  pub events : old.events ≤ new.events
  pub idle : new.idle ≡ old.idle
  pub rounds : new.rounds ≡ old.rounds

-- a broker after an event that was prepared there
abbrev pub done_at : BrokerView → PlanView → Broker
done_at v p = done v.site.per_ledger v.broker (plan_in v.broker p)

-- and after a stop in an event, which takes a packet that stands for v
abbrev pub halted_at : BrokerView → Event → ℕ → Option Packet → Broker
halted_at u e k v = halted u.site.per_ledger u.broker k (plan_at_node u e v)

-- one broker has another state, and knows the same of the setup
pub record IsSetNode (old new : List BrokerView) (n : ℕ) (b : Broker) : Type 0 where
  pub brokers : brokers_of new ≡ slice_set (brokers_of old) n b
  pub same : (s : Setup) → AreNodes s old → AreNodes s new

-- all but the brokers, after an event of broker n whose packets were delivered
pub record IsCommitted (broker_ref : BrokerRef) (n stamp : ℕ) (old new : WorldView) : Type 0 where
  pub clients : new.clients ≡ old.clients
  pub links : new.links ≡ taken_in broker_ref.takes old.links
  pub broker_clocks : new.broker_clocks ≡ slice_set old.broker_clocks n stamp
  pub client_clocks : new.client_clocks ≡ old.client_clocks
  pub events : new.events ≡ old.events + 1
  pub idle : new.idle ≡ old.idle
  pub rounds : new.rounds ≡ old.rounds
  pub frame_bytes : new.frame_bytes ≡ old.frame_bytes

-- the stamp of an event at the node of a clock, which takes a packet of this stamp, or none, for which it is 0
abbrev pub stamp_over : List ℕ → ℕ → ℕ → ℕ
stamp_over clocks n taken = 1 + max (slice_index clocks n) taken

-- what was prepared at broker n is done, its packets are on their links, and the one that it takes is taken from its own, which was found
pub record IsFinished (broker_ref : BrokerRef) (n : ℕ) (p : PlanView) (old new : WorldView) : Type 0 where
  pub kept : IsFound old.links broker_ref.takes
      → kept_of new ≡ broker_acted (kept_of old) n (wire_node.Broker broker_ref.topic broker_ref.cluster) broker_ref.takes.link (done_at (node_at old.brokers n) p) p.sent
  pub same : (s : Setup) → AreNodes s old.brokers → AreNodes s new.brokers

-- a stop after the first k durable writes of an event that takes this packet: broker n is halted in the machine's plan of it, whatever
-- the packet stands for, and nothing else has changed
pub record IsHalted (n : ℕ) (taken : Option WirePacket) (e : Event) (k : ℕ) (old new : WorldView) : Type 0 where
  pub broker : (v : Option Packet) → Both (StandsForPacket (node_at old.brokers n).site.clusters) taken v
      → brokers_of new.brokers ≡ slice_set (brokers_of old.brokers) n (halted_at (node_at old.brokers n) e k v)
  pub same : (s : Setup) → AreNodes s old.brokers → AreNodes s new.brokers
  pub rest : new ≡ record old { brokers = new.brokers }

-- and then its packet is taken, and it is counted
pub record IsStopped (n : ℕ) (takes : Port) (e : Event) (k : ℕ) (old new : WorldView) : Type 0 where
  pub kept : IsFound old.links takes → (v : Option Packet) → Both (StandsForPacket (node_at old.brokers n).site.clusters) (packet_on old.links takes.link) v
      → kept_of new ≡ broker_stopped (kept_of old) n takes.link (halted_at (node_at old.brokers n) e k v)
  pub same : (s : Setup) → AreNodes s old.brokers → AreNodes s new.brokers

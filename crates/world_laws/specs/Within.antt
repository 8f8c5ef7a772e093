-- Numbers of a world that count what happened, each at most a bound. An event raises none of them by more than one, so none
-- is greater than the count of all events, idle ones included.
use Rattle.std.specs.Prelude.{◌≡◌, ℕ, ◌+◌, ◌≤◌, ◌<◌, ◌^◌, List, length, Some, slice_get, slice_index, slice_index_or}
use Rattle.std.specs.List.{AllByRecursion}
use Rattle.geo_base.specs.declared.packet.Packet.{Packet}
use Rattle.geo_base.specs.Broker.{Broker}
use Rattle.geo_base.specs.Client.{Client}
use Rattle.geo_base.specs.Laws.{BetweenEvents, IsShort}
use Rattle.geo_base.specs.Link.{Link}
use Rattle.geo_base.specs.Scripted.{IsScripted}
use Rattle.geo_base.specs.Replicator.{Replicator, new_replicator}
use Rattle.geo_base.specs.Setup.{Setup}
use Rattle.geo_base.specs.Subscription.{Subscription}
use Rattle.geo_base.specs.Topic.{next_marker}
use Rattle.geo_base.specs.World.{LinkName, World, broker_at, client_at, link_at, topic_at}

-- of a replicator: its session, and the next number in it
pub record ReplicatorWithin (n : ℕ) (s : Replicator) : Type 0 where
  pub session : s.session ≤ n
  pub next : s.next ≤ n

abbrev pub ReplicatorsWithin : ℕ → List Replicator → Type 0
ReplicatorsWithin n ss = (y : ℕ) → ReplicatorWithin n (slice_index_or ss y new_replicator)

-- of a client: its connection, and the counts of what came
pub record ClientWithin (n : ℕ) (k : Client) : Type 0 where
  pub connection : k.connection ≤ n
  pub receipts : k.receipts ≤ n
  pub duplicates : k.duplicates ≤ n
  pub errors : k.errors ≤ n

-- the stamps of all packets that were ever sent on a link
abbrev pub StampsWithin : ℕ → Link → Type 0
StampsWithin n l = (i : ℕ) (p : Packet) → slice_get l.sent i ≡ Some p → p.stamp ≤ n

pub record WorldWithin (s : Setup) (n : ℕ) (w : World) : Type 0 where
  pub count : w.events + w.idle ≤ n
  pub replicators : (z : ℕ) → ReplicatorsWithin n (broker_at w z).replicators
  pub clients : (c : ℕ) → ClientWithin n (client_at s w c)
  pub broker_clocks : (z : ℕ) → slice_index w.broker_clocks z ≤ n
  pub client_clocks : (c : ℕ) → slice_index w.client_clocks c ≤ n
  pub stamps : (k : LinkName) → StampsWithin n (link_at w.links k)

-- how often seeks set each subscription
abbrev pub SeeksWithin : ℕ → List Subscription → Type 0
SeeksWithin n vs = AllByRecursion (λ (v : Subscription). v.seeks ≤ n) vs

-- the numbers of a broker
pub record BrokerWithin (n : ℕ) (b : Broker) : Type 0 where
  pub replicators : ReplicatorsWithin n b.replicators
  pub seeks : SeeksWithin n b.subs

-- numbers: none that rises with events is above a bound
pub record NumbersWithin (s : Setup) (n : ℕ) (w : World) : Type 0 where
  pub brokers : (z : ℕ) → BrokerWithin n (broker_at w z)
  pub clients : (c : ℕ) → ClientWithin n (client_at s w c)
  pub broker_clocks : (z : ℕ) → slice_index w.broker_clocks z ≤ n
  pub client_clocks : (c : ℕ) → slice_index w.client_clocks c ≤ n
  pub stamps : (k : LinkName) → StampsWithin n (link_at w.links k)

-- no session, connection, stamp or count is above the count of the events that were done
abbrev pub LawNumbers : Type 0
LawNumbers = (s : Setup) → BetweenEvents s (λ w. NumbersWithin s w.events w)

-- markers: the number of a cluster's next own marker has 64 bits, and so has the one after it
abbrev pub MarkersRise : Setup → World → Type 0
MarkersRise s w = (t x : ℕ) → t < length s.topics → x < length s.clusters → next_marker x (topic_at s w t x).entries + 1 < 2 ^ 64

abbrev pub LawMarkers : Type 0
LawMarkers = (s : Setup) → IsScripted s → BetweenEvents s (λ w. IsShort w → MarkersRise s w)

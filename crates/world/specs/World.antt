-- The world of the program, and where it stands.
use Rattle.std.specs.Prelude.{◌≡◌, ℕ, ◌+◌, ◌*◌, ◌<◌, ◌≤◌, List, [], length, map, slice_index_or}
use Rattle.geo_base.specs.Broker.{Broker, no_broker}
use Rattle.geo_base.specs.Client.{Client}
use Rattle.geo_base.specs.Run.{most_events, most_sent_bytes}
use Rattle.geo_base.specs.Scripted.{IsScripted}
use Rattle.geo_base.specs.Setup.{Setup}
use Rattle.geo_base.specs.World.{World, node}
use Rattle.broker.specs.Events.{IsNodeOf}
use Rattle.broker.specs.Node.{BrokerView}
use Rattle.links.specs.Queues.{WireLinks}
use Rattle.kept_laws.specs.Kept.{Kept}
use Rattle.kept_laws.specs.Standing.{Stands}
use Rattle.kept_laws.specs.Reached.{Reached}
use Rattle.world_laws.specs.Starts.{most_at_start}

-- brokers by topic and then by cluster, clients by number; a clock is a node's last stamp
pub record WorldView : Type 0 where
  pub brokers : List BrokerView
  pub clients : List Client
  pub links : WireLinks
  pub broker_clocks : List ℕ
  pub client_clocks : List ℕ
  pub events : ℕ
  pub idle : ℕ
  pub rounds : ℕ
  pub frame_bytes : ℕ

-- what always holds between events, of n rounds and m events, where this holds of the plan: no event is prepared in it; and each round
-- that was counted did an event, but for those of a file
pub record WorldHolds (empty : Type 0) (n m : ℕ) : Type 0 where
  pub plan : empty
  pub rounds : n ≤ most_at_start + m

abbrev pub no_node : BrokerView
no_node = record { topic = 0; site = record { own = 0; clusters = []; topic = []; per_ledger = 0 }; names = []; broker = no_broker; room = record { entries = 0; streams = 0; places = 0; subs = []; replicators = 0 } }

abbrev pub node_at : List BrokerView → ℕ → BrokerView
node_at vs n = slice_index_or vs n no_node

abbrev pub brokers_of : List BrokerView → List Broker
brokers_of vs = map (λ (v : BrokerView). v.broker) vs

-- without what its brokers know of the setup, and the room that they have
abbrev pub kept_of : WorldView → Kept
kept_of b = record {
  brokers = brokers_of b.brokers;
  clients = b.clients;
  links = b.links;
  broker_clocks = b.broker_clocks;
  client_clocks = b.client_clocks;
  events = b.events;
  idle = b.idle;
  rounds = b.rounds;
  frame_bytes = b.frame_bytes;
}

-- the brokers are those of a setup
pub record AreNodes (s : Setup) (vs : List BrokerView) : Type 0 where
  pub count : length vs ≡ length s.topics * length s.clusters
  pub each : (t x : ℕ) → t < length s.topics → x < length s.clusters → IsNodeOf s t x (node_at vs (node s t x))

-- it is within the limits of a run
pub record IsWithin (b : WorldView) : Type 0 where
  pub few : b.events + b.idle ≤ most_events
  pub short : b.frame_bytes ≤ most_sent_bytes

-- The world stands for one that a run of the setup comes to, within the limits of a run.
pub record IsAt (s : Setup) (b : WorldView) : Type 0 where
  pub setup : IsScripted s
  pub brokers : AreNodes s b.brokers
  pub world : World
  pub reached : Reached s world
  pub stands : Stands s (kept_of b) world
  pub within : IsWithin b

-- nothing of a world's state has changed; brokers may have other room
pub record SameWorld (old new : WorldView) : Type 0 where
  pub kept : kept_of new ≡ kept_of old
  pub brokers : (s : Setup) → AreNodes s old.brokers → AreNodes s new.brokers

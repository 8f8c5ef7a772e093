-- The log of a node: what it keeps, and what its type knows of it.
use Rattle.std.specs.Prelude.{◌≡◌, ℕ, true, List, [], length, ⊤}
use Rattle.log_parts.specs.declared.table.EndRow.{EndRow}
use Rattle.log_parts.specs.Rows.{has_peer}
use Rattle.frame_laws.specs.Logs.{IsLogOf}
use Rattle.broker.specs.Events.{IsNodeOf}
use Rattle.geo_base.specs.declared.packet.Peer.{Peer}
use Rattle.geo_base.specs.NodeState.{BrokerState, ClientState, NodeState}
use Rattle.geo_base.specs.Nodes.{BrokerNode, ClientNode, Node, is_node, is_peer, node_number}
use Rattle.geo_base.specs.Scripted.{IsScripted}
use Rattle.geo_base.specs.Setup.{Setup}
use Rattle.node_log.specs.declared.state.NodeState.{NodeState as Kept}
use Rattle.node_log.specs.declared.state.NodeState.TheVariants as kept
use Rattle.script_text.specs.Script.{Script}
use Rattle.wire_ends.specs.declared.packet.WirePacket.{WirePacket}
use Rattle.world_laws.specs.ByteHistories.{ByteEvent}

-- the configuration, the node and its state, the events that it did with the stamp of the last one, and the ends of its links
pub record NodeLogView (E : Type 0) : Type 0 where
  pub scenario : Script
  pub node : Node
  pub state : NodeState
  pub history : List (ByteEvent WirePacket)
  pub clock : ℕ
  pub ends : List (EndRow E)

-- which node it is, and its state as the machine's
abbrev pub node_in : Kept → Node
node_in (kept.Broker v) = BrokerNode v.topic v.site.own
node_in (kept.Client k) = ClientNode k.number

abbrev pub machine_state : Kept → NodeState
machine_state (kept.Broker v) = BrokerState v.broker
machine_state (kept.Client k) = ClientState k.client

abbrev pub log_view : {E : Type 0} → Script → Kept → List (ByteEvent WirePacket) → ℕ → List (EndRow E) → NodeLogView E
log_view scenario st history clock ends =
    record { scenario = scenario; node = node_in st; state = machine_state st; history = history; clock = clock; ends = ends }

-- before any event
abbrev pub opening_log : {E : Type 0} → Script → Node → NodeState → List (EndRow E) → NodeLogView E
opening_log scenario n st ends = record { scenario = scenario; node = n; state = st; history = []; clock = 0; ends = ends }

-- a broker knows what the setup says at its topic and cluster
abbrev pub IsStateOf : Setup → Kept → Type 0
IsStateOf s (kept.Broker v) = IsNodeOf s v.topic v.site.own v × (length v.broker.sessions ≡ length s.clients)
IsStateOf s (kept.Client k) = ⊤

-- the table has just the peers of a node
abbrev pub HasPeers : {E : Type 0} → Setup → Node → List (EndRow E) → Type 0
HasPeers s n rs = (q : Peer) → has_peer rs q ≡ is_peer s n q

-- What holds of every log: its history replays from the node's opening state to its state, and its clock is the last stamp.
pub record LogHolds {E : Type 0} (s : Setup) (st : Kept) (history : List (ByteEvent WirePacket)) (clock : ℕ) (ends : List (EndRow E)) : Type 0 where
  pub scripted : IsScripted s
  pub there : is_node s (node_in st) ≡ true
  pub state : IsStateOf s st
  pub replays : IsLogOf s (node_number s (node_in st)) history (machine_state st) clock
  pub peers : HasPeers s (node_in st) ends

-- what a caller learns of a log
abbrev pub IsReplayed : {E : Type 0} → NodeLogView E → Type 0
IsReplayed b = IsLogOf b.scenario.setup (node_number b.scenario.setup b.node) b.history b.state b.clock

-- a state is that of the log's node
pub record StateOf {E : Type 0} (b : NodeLogView E) (st : Kept) : Type 0 where
  pub node : b.node ≡ node_in st
  pub state : b.state ≡ machine_state st

-- neither state nor history nor clock changed
pub record SameButEnds {E : Type 0} (old new : NodeLogView E) : Type 0 where
  pub scenario : new.scenario ≡ old.scenario
  pub node : new.node ≡ old.node
  pub state : new.state ≡ old.state
  pub history : new.history ≡ old.history
  pub clock : new.clock ≡ old.clock

-- The history of a node: the events that happened at it, in order, each with the packet that it took, the packets that it
-- sent, and its stamp. It says nothing of other nodes, and its replay asks for none: so a node can keep and check its own
-- (own).
use Rattle.std.specs.Prelude.{◌≡◌, ℕ, Bool, true, false, if◌then◌else◌, List, [], ◌∷◌, ◌++◌, map, Option, Some, None}
use Rattle.geo_base.specs.Types.{Event, Out, Packet, Peer}
use Rattle.geo_base.specs.Happening.{next_stamp}
use Rattle.geo_base.specs.Nodes.{Node, is_event, is_peer, link_from, link_to, node_number, node_of, same_link}
use Rattle.geo_base.specs.NodeState.{NodeState, acts, takes_from}
use Rattle.geo_base.specs.Setup.{Setup}
use Rattle.geo_base.specs.World.{LinkName, stamped}

pub record SentPacket : Type 0 where
  pub to : Peer
  pub packet : Packet

-- taken is None where the event takes no packet. Idle events are not recorded (own: they change nothing and have no stamp)
pub record RecordedEvent : Type 0 where
  pub event : Event
  pub taken : Option Packet
  pub sent : List SentPacket
  pub stamp : ℕ

-- all that an event sends has its stamp
abbrev pub sent_with : ℕ → Out → SentPacket
sent_with stamp o = record { to = o.to; packet = stamped stamp o }

-- a packet was taken exactly where the event takes one, and it is from a peer of the node
abbrev pub is_input : Setup → Node → Option Peer → Option Packet → Bool
is_input s n None None = true
is_input s n (Some q) (Some p) = is_peer s n q
is_input s n q p = false

-- a recorded event happens at node n, whose state is st and whose last stamp is clock: it is an event of that node and of the
-- setup, it is enabled there with the packet that it took, its stamp is the next one, and it sent just what it sends
pub record HappensAt (s : Setup) (n : ℕ) (st : NodeState) (clock : ℕ) (d : RecordedEvent) : Type 0 where
  pub here : node_number s (node_of s d.event) ≡ n
  pub in_range : is_event s d.event ≡ true
  pub enabled : (acts s st d.event d.taken).idle ≡ false
  pub input : is_input s (node_of s d.event) (takes_from st d.event) d.taken ≡ true
  pub stamp : d.stamp ≡ next_stamp clock d.taken
  pub sent : d.sent ≡ map (sent_with d.stamp) (acts s st d.event d.taken).sent

-- the state after a recorded event, and after all of a history
abbrev pub state_after : Setup → NodeState → RecordedEvent → NodeState
state_after s st d = (acts s st d.event d.taken).state

abbrev pub replayed : Setup → NodeState → List RecordedEvent → NodeState
replayed s st [] = st
replayed s st (d ∷ ds) = replayed s (state_after s st d) ds

-- the stamp of the last event; clock where there is none
abbrev pub last_stamp : ℕ → List RecordedEvent → ℕ
last_stamp clock [] = clock
last_stamp clock (d ∷ ds) = last_stamp d.stamp ds

-- a history replays at node n from a state and a last stamp on: each of its events happens where the replay meets it
abbrev pub Replays : Setup → ℕ → NodeState → ℕ → List RecordedEvent → Type 0
Replays s n st clock [] = Unit {0}
Replays s n st clock (d ∷ ds) = HappensAt s n st clock d × Replays s n (state_after s st d) d.stamp ds

-- the packets that an event of a node sent on a link, and those of a history
abbrev pub sent_over : Setup → LinkName → Node → List SentPacket → List Packet
sent_over s k n [] = []
sent_over s k n (o ∷ os) = if same_link (link_to s n o.to) k then o.packet ∷ sent_over s k n os else sent_over s k n os

abbrev pub sent_in : Setup → LinkName → List RecordedEvent → List Packet
sent_in s k [] = []
sent_in s k (d ∷ ds) = sent_over s k (node_of s d.event) d.sent ++ sent_in s k ds

-- the packet that an event of a node took from a link, if it is from there, and those of a history from a state on
abbrev pub taken_over : Setup → LinkName → Node → Option Peer → Option Packet → List Packet
taken_over s k n (Some q) (Some p) = if same_link (link_from s n q) k then p ∷ [] else []
taken_over s k n q p = []

abbrev pub taken_in : Setup → LinkName → NodeState → List RecordedEvent → List Packet
taken_in s k st [] = []
taken_in s k st (d ∷ ds) =
    taken_over s k (node_of s d.event) (takes_from st d.event) d.taken ++ taken_in s k (state_after s st d) ds

-- Whether there is room for what a client sends as it connects, and what is tried where there is none (own: without it each turn would
-- write all these packets, and then find no room).
use Rattle.std.specs.Prelude.{◌≡◌, ℕ, ◌+◌, ◌*◌, ◌<◌, ◌≤◌, Bool, true, false, length, List, [], min, Option, Result, Some, None}
use Rattle.actors.specs.Turns.{IsTurn, Walks, waited_after}
use Rattle.actors.specs.declared.role.Role.{Role}
use Rattle.actors.specs.declared.role.Role.TheVariants as role
use Rattle.actors.specs.declared.room.Reconnection.{Reconnection}
use Rattle.actors.specs.Drawing.{Drawing}
use Rattle.actors.specs.Tries.{Actor, Try, client_tries, connection_due}
use Rattle.log_parts.specs.Rows.{free_to, has_peer, looks_to}
use Rattle.geo_base.specs.declared.memory.Memory.{Memory}
use Rattle.geo_base.specs.declared.packet.Peer.TheVariants as peer
use Rattle.geo_base.specs.Client.{Client}
use Rattle.geo_base.specs.NodeState.{BrokerState, ClientState, NodeState}
use Rattle.node_log.specs.Acts.{SameLog}
use Rattle.node_log.specs.Logs.{NodeLogView}
use Rattle.wire_ends.specs.declared.packet.WirePacket.{WirePacket}
use Rattle.wire_ends.specs.Looks.{Looked, greatest_count}
use Rattle.wire_ends.specs.Parcels.{Packed as Parcel}

abbrev pub is_due : Option Bool → Bool
is_due None = false
is_due (Some due) = due

-- a client's actor that is to connect in a turn at a log
abbrev pub connects_now : {E : Type 0} → Actor → Role → NodeLogView E → Bool
connects_now a (role.Replicator l) b = false
connects_now a (role.Receiver l) b = false
connects_now a (role.Controller t x) b = false
connects_now a (role.Dispatcher t x i) b = false
connects_now a (role.Client c) b = is_due (connection_due a b c)
connects_now a (role.Server t c) b = false

abbrev pub one_if : {X : Type 0} → Option X → ℕ
one_if None = 0
one_if (Some x) = 1

-- CONNECT, what is in force, and each publish without receipt
abbrev pub connect_packets : Client → ℕ
connect_packets k = 1 + one_if k.produce + one_if k.sub + one_if k.flow + length k.unanswered

abbrev pub connecting : NodeState → Option Reconnection
connecting (BrokerState b) = None
connecting (ClientState k) = Some (record { to = peer.Broker k.cluster; packets = connect_packets k })

-- A look found that the end to the client's broker has fewer places than its packets take, so many each. free_of and looks_of are those
-- of an end.
pub record IsTooFull {E : Type 0} (free_of looks_of : E → ℕ) (places : ℕ) (old new : NodeLogView E) : Type 0 where
  pub at : Reconnection
  pub client : connecting old.state ≡ Some at
  pub few : free_to free_of new.ends at.to < places * at.packets
  pub looked : Looked (looks_to looks_of old.ends at.to) (looks_to looks_of new.ends at.to)

-- what a client tries but for a connection
abbrev pub unconnected_tries : Role → Drawing → List Try
unconnected_tries (role.Replicator l) d = []
unconnected_tries (role.Receiver l) d = []
unconnected_tries (role.Controller t x) d = []
unconnected_tries (role.Dispatcher t x i) d = []
unconnected_tries (role.Client c) d = client_tries (Some false) d c
unconnected_tries (role.Server t c) d = []

-- A look found that the end to the client's broker, where the log has one, has so many places for each of its packets. No end knows of
-- more places than 64 bits count.
abbrev pub HasPlaces : {E : Type 0} → (E → ℕ) → ℕ → (old new : NodeLogView E) → Type 0
HasPlaces free_of places old new = (at : Reconnection) → connecting old.state ≡ Some at → has_peer old.ends at.to ≡ true → min (places * at.packets) greatest_count ≤ free_to free_of new.ends at.to

-- ---- a turn that looks for room first

-- one that leaves a connection as it is
pub record IsUnconnected {E : Type 0} (sent_in taken_in : E → List WirePacket) (shown : E → Option WirePacket) (free looks : E → ℕ) (fits : Parcel → Type 0) (a : Actor) (b : NodeLogView E) (a' : Actor)
    (b' : NodeLogView E) (r : Result Bool Memory) : Type 0 where
  pub walk : Walks sent_in taken_in shown free looks fits (unconnected_tries a.role a.drawing) a.drawing b b' a.drawing r
  pub waited : a'.waited ≡ waited_after a b' r
  pub rest : a' ≡ record a { waited = a'.waited }

-- An actor's turn, with a look before it that changed nothing, after which the log is mid. It is unconnected exactly where the actor is
-- a client's that is to connect, and the look found too few places.
pub data IsTurnWithRoom {E : Type 0} (sent_in taken_in : E → List WirePacket) (shown : E → Option WirePacket) (free looks : E → ℕ) (fits : Parcel → Type 0) (places : ℕ) (a : Actor) (b : NodeLogView E) (a' : Actor)
    (b' : NodeLogView E) (r : Result Bool Memory) : Type 0 where
  Connected : (mid : NodeLogView E) → SameLog sent_in taken_in b mid → (connects_now a a.role b ≡ true → HasPlaces free places b mid)
      → IsTurn sent_in taken_in shown free looks fits a mid a' b' r → IsTurnWithRoom sent_in taken_in shown free looks fits places a b a' b' r
  Unconnected : (mid : NodeLogView E) → SameLog sent_in taken_in b mid → connects_now a a.role b ≡ true → IsTooFull free looks places b mid
      → IsUnconnected sent_in taken_in shown free looks fits a mid a' b' r → IsTurnWithRoom sent_in taken_in shown free looks fits places a b a' b' r

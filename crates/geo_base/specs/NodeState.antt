-- The state of a node, and what an event does to it: a function of that state and of the packet that the event takes. No
-- other node's state is looked at, so a node can do its events without a world.
use Rattle.std.specs.Prelude.{ℕ, ◌-◌, nat_lt, Bool, if◌then◌else◌, List, length, Option, Some, None, slice_index}
use Rattle.geo_base.specs.Types.{Event, Out, Packet, Peer}
use Rattle.geo_base.specs.Types.event
use Rattle.geo_base.specs.Types.peer
use Rattle.geo_base.specs.Broker.{Broker, new_broker}
use Rattle.geo_base.specs.Client.{Acted, Client, new_client}
use Rattle.geo_base.specs.Happening.{client_acted}
use Rattle.geo_base.specs.Nodes.{broker_count}
use Rattle.geo_base.specs.Plan.{Plan, done}
use Rattle.geo_base.specs.Planned.{broker_plan}
use Rattle.geo_base.specs.Setup.{Setup, declared_at}
use Rattle.geo_base.specs.World.{World, broker_at, client_at}

pub data NodeState : Type 0 where
  BrokerState : Broker → NodeState
  ClientState : Client → NodeState

-- the state in which a node begins, by its number: an empty topic, or a client that has done no line
abbrev pub opening_state : Setup → ℕ → NodeState
opening_state s n =
    if nat_lt n (broker_count s) then BrokerState (new_broker (length s.clusters) (length s.clients))
    else ClientState (new_client (declared_at s (n - broker_count s)))

-- the state of a node in a world, and its last stamp there
abbrev pub state_at : Setup → World → ℕ → NodeState
state_at s w n = if nat_lt n (broker_count s) then BrokerState (broker_at w n) else ClientState (client_at s w (n - broker_count s))

abbrev pub clock_at : Setup → World → ℕ → ℕ
clock_at s w n = if nat_lt n (broker_count s) then slice_index w.broker_clocks n else slice_index w.client_clocks (n - broker_count s)

-- the broker that a client is connected to, or was last
abbrev pub current : NodeState → Option Peer
current (BrokerState b) = None
current (ClientState k) = Some (peer.Broker k.cluster)

-- the peer whose next packet an event takes, if it takes one. That of a get is the client's current broker and not the
-- declared one, since a client moves
abbrev pub takes_from : NodeState → Event → Option Peer
takes_from st (event.Get c) = current st
takes_from st (event.Serve x c) = Some (peer.Client c)
takes_from st (event.Take t x y f) = Some (peer.Back x)
takes_from st (event.Receipt t x y f) = Some (peer.Forward y)
takes_from st e = None

-- what an event does: it is idle, or the state becomes this and these packets go out, in this order
pub record NodeActed : Type 0 where
  pub idle : Bool
  pub state : NodeState
  pub sent : List Out

abbrev pub broker_acted : ℕ → Broker → Plan → NodeActed
broker_acted per b q = record { idle = q.idle; state = BrokerState (done per b q); sent = q.sent }

abbrev pub from_acted : Acted → NodeActed
from_acted a = record { idle = a.idle; state = ClientState a.client; sent = a.sent }

-- an event at a node in this state, with the packet that it takes. An event of the other kind of node is idle
abbrev pub acts : Setup → NodeState → Event → Option Packet → NodeActed
acts s (BrokerState b) e p = broker_acted s.per_ledger b (broker_plan s b e p)
acts s (ClientState k) e p = from_acted (client_acted s k e p)

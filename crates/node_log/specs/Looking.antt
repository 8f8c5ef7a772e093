-- What an event will do with what came for it.
use Rattle.std.specs.Prelude.{◌≡◌, ◌≤◌, ◌<◌, ◌^◌, ℕ, Bool, false, max, List, Option, None}
use Rattle.frame_laws.specs.Logs.{StandsAs}
use Rattle.broker.specs.Events.{plan_at_node}
use Rattle.broker.specs.Node.{BrokerView}
use Rattle.broker_plans.specs.Prepared.{ArePackets, IsPrepared}
use Rattle.broker_state.specs.Plan.{PlanView}
use Rattle.geo_base.specs.declared.event.Event.{Event}
use Rattle.geo_base.specs.declared.packet.Packet.{Packet}
use Rattle.geo_base.specs.declared.packet.WireOut.{WireOut}
use Rattle.geo_base.specs.Client.{Client}
use Rattle.geo_base.specs.Getting.{get}
use Rattle.geo_base.specs.Happening.{stamp_of}
use Rattle.geo_base.specs.NodeState.{NodeState, acts}
use Rattle.geo_base.specs.Setup.{Declared, Setup}
use Rattle.node_log.specs.Acts.{stamp_in}
use Rattle.wire_ends.specs.declared.packet.WirePacket.{WirePacket}
use Rattle.world_laws.specs.ByteHistories.{TakenStands}

-- an event of a broker is prepared with what the packet that an end shows stands for; n is its stamp, 0 where none is shown
pub record IsLooked (v : BrokerView) (e : Event) (shown : Option WirePacket) (n : ℕ) (p : PlanView) : Type 0 where
  pub said : Option Packet
  pub stands : TakenStands (StandsAs v.site.clusters) shown said
  pub prepared : IsPrepared v.site v.broker (plan_at_node v e said) p
  pub stamp : n ≡ stamp_of said

-- what an event does at a node's state with the packet that an end shows: whether it is idle, what it sends as bytes, the state
-- after it, and the stamp of the packet
pub record IsSeen (s : Setup) (st : NodeState) (e : Event) (shown : Option WirePacket) (n : ℕ) (rests : Bool) (outs : List WireOut) (after : NodeState) : Type 0 where
  pub said : Option Packet
  pub stands : TakenStands (StandsAs s.clusters) shown said
  pub idle : (acts s st e said).idle ≡ rests
  pub sent : ArePackets s.clusters (acts s st e said).sent outs
  pub state : after ≡ (acts s st e said).state
  pub stamp : n ≡ stamp_of said

-- a client got the packet that an end shows; last is the greater of the clock and its stamp
pub record IsGot (names : List (List ℕ)) (d : Declared) (k : Client) (clock : ℕ) (shown : Option WirePacket) (after : Client) (last : ℕ) : Type 0 where
  pub said : Option Packet
  pub stands : TakenStands (StandsAs names) shown said
  pub some : (get d k said).idle ≡ false
  pub client : after ≡ (get d k said).client
  pub last_is : last ≡ max clock (stamp_of said)
  pub low : last < 2 ^ 63

-- it got none: none is shown, or the stamp of its event would pass 2^63
pub data IsNotGot (clock : ℕ) (shown : Option WirePacket) : Type 0 where
  Nothing : shown ≡ None → IsNotGot clock shown
  Late : 2 ^ 63 ≤ max clock (stamp_in shown) → IsNotGot clock shown

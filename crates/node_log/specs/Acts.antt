-- What an event does to a log: it joins the history, or nothing is done.
use Rattle.std.specs.Prelude.{◌≡◌, ℕ, ◌≤◌, ◌^◌, true, false, max, if◌then◌else◌, List, [], ◌∷◌, ◌++◌, Option, Some, None, ⊤}
use Rattle.std.specs.Option.{option_to_list}
use Rattle.log_parts.specs.declared.sending.Addressed.{Addressed}
use Rattle.log_parts.specs.declared.table.EndRow.{EndRow}
use Rattle.log_parts.specs.Peers.{same_peer}
use Rattle.log_parts.specs.Rows.{has_peer, looks_from, sent_to, shown_from, taken_from}
use Rattle.log_parts.specs.Sending.{AreAddressed, LacksRoom, packets_to}
use Rattle.frame_laws.specs.Logs.{AreSentAs, StandsAs}
use Rattle.broker.specs.Events.{MarkerRises, SeekRises, SessionRises}
use Rattle.client.specs.Counted.{CanConnect, CanCount}
use Rattle.geo_base.specs.declared.event.Event.{Event}
use Rattle.geo_base.specs.declared.event.Event.TheVariants as event
use Rattle.geo_base.specs.declared.packet.Packet.{Packet}
use Rattle.geo_base.specs.declared.packet.Peer.{Peer}
use Rattle.geo_base.specs.Broker.{Broker}
use Rattle.geo_base.specs.Client.{Client}
use Rattle.geo_base.specs.Happening.{next_stamp}
use Rattle.geo_base.specs.NodeState.{BrokerState, ClientState, NodeState, acts, takes_from}
use Rattle.geo_base.specs.Nodes.{BrokerNode, Node}
use Rattle.geo_base.specs.Setup.{Setup, sub_names}
use Rattle.geo_base.specs.World.{site}
use Rattle.node_log.specs.Logs.{NodeLogView}
use Rattle.node_log.specs.Owning.{IsOwn}
use Rattle.wire_ends.specs.declared.packet.WirePacket.{WirePacket}
use Rattle.wire_ends.specs.Looks.{Looked}
use Rattle.wire_ends.specs.Parcels.{Packed as Parcel}
use Rattle.world_laws.specs.ByteHistories.{ByteEvent, ByteSent, TakenStands}

-- ---- packets

-- those of an event that went to a peer, in order
abbrev pub packets_of : Peer → List (ByteSent WirePacket) → List WirePacket
packets_of q [] = []
packets_of q (o ∷ os) = if same_peer o.to q then o.packet ∷ packets_of q os else packets_of q os

-- the one that it took, if that came from a peer
abbrev pub packet_from : Option Peer → Option WirePacket → Peer → List WirePacket
packet_from None p q = []
packet_from (Some o) p q = if same_peer o q then option_to_list p else []

-- the one that is shown of those from the peer that it takes from; shown is that of an end
abbrev pub shown_for : {E : Type 0} → (E → Option WirePacket) → List (EndRow E) → Option Peer → Option WirePacket
shown_for shown rs None = None
shown_for shown rs (Some q) = shown_from shown rs q

abbrev pub stamp_in : Option WirePacket → ℕ
stamp_in None = 0
stamp_in (Some p) = p.stamp

-- a look at the end of that peer, where the node has one; looks are those of an end
abbrev pub LookedFor : {E : Type 0} → (E → ℕ) → List (EndRow E) → List (EndRow E) → Option Peer → Type 0
LookedFor looks old new None = ⊤
LookedFor looks old new (Some q) = has_peer old q ≡ true → Looked (looks_from looks old q) (looks_from looks new q)

-- ---- numbers that rise

-- The numbers that an event raises, but for its stamp, have room: those of a session, of a subscription's seeks and of the next
-- own marker at a broker; that of a connection and the counts at a client.
pub record BrokerRises (s : Setup) (t x : ℕ) (b : Broker) (e : Event) : Type 0 where
  pub session : SessionRises b e
  pub seeks : SeekRises (sub_names s t) b e
  pub marker : MarkerRises (site s t x) b e

abbrev pub ClientRises : Client → Event → Type 0
ClientRises k (event.Go c) = CanConnect k
ClientRises k (event.Reconnect c) = CanConnect k
ClientRises k (event.Get c) = CanCount k
ClientRises k e = ⊤

abbrev pub NumbersFit : Setup → Node → NodeState → Event → Type 0
NumbersFit s (BrokerNode t x) (BrokerState b) e = BrokerRises s t x b e
NumbersFit s n (ClientState k) e = ClientRises k e
NumbersFit s n st e = ⊤

-- ---- an event that is done

-- It is the node's own, and joined the history with the packet that it took and those that it sent, which are the machine's at
-- the node's state; just these were taken and sent; and the state, the clock and nothing else are those after it. sent_in and
-- taken_in are those of an end.
pub record IsActed {E : Type 0} (sent_in taken_in : E → List WirePacket) (e : Event) (old new : NodeLogView E) : Type 0 where
  pub own : IsOwn old.scenario.setup old.node e
  pub numbers : NumbersFit old.scenario.setup old.node old.state e
  pub done : ByteEvent WirePacket
  pub said : Option Packet
  pub event : done.event ≡ e
  pub stands : TakenStands (StandsAs old.scenario.setup.clusters) done.taken said
  pub enabled : (acts old.scenario.setup old.state e said).idle ≡ false
  pub state : new.state ≡ (acts old.scenario.setup old.state e said).state
  pub packets : AreSentAs old.scenario.setup.clusters done.stamp done.sent (acts old.scenario.setup old.state e said).sent
  pub stamp : done.stamp ≡ next_stamp old.clock said
  pub fits : done.stamp ≤ 2 ^ 63
  pub scenario : new.scenario ≡ old.scenario
  pub node : new.node ≡ old.node
  pub history : new.history ≡ old.history ++ done ∷ []
  pub clock : new.clock ≡ done.stamp
  pub sent : (q : Peer) → sent_to sent_in new.ends q ≡ sent_to sent_in old.ends q ++ packets_of q done.sent
  pub taken : (q : Peer) → taken_from taken_in new.ends q ≡ taken_from taken_in old.ends q ++ packet_from (takes_from old.state e) done.taken q

-- ---- an event that is not done

-- it is idle with the packet that an end shows, or with none where none is shown
pub record IsIdleWith {E : Type 0} (shown : E → Option WirePacket) (e : Event) (old new : NodeLogView E) : Type 0 where
  pub said : Option Packet
  pub stands : TakenStands (StandsAs old.scenario.setup.clusters) (shown_for shown new.ends (takes_from old.state e)) said
  pub idle : (acts old.scenario.setup old.state e said).idle ≡ true

-- it would send packets for which an end has too few places, each in a parcel that is cut as its end cuts them
pub record LacksPlaces {E : Type 0} (shown : E → Option WirePacket) (free_of looks_of : E → ℕ) (fits : Parcel → Type 0) (e : Event) (old new : NodeLogView E) : Type 0 where
  pub said : Option Packet
  pub stands : TakenStands (StandsAs old.scenario.setup.clusters) (shown_for shown new.ends (takes_from old.state e)) said
  pub sends : List (ByteSent WirePacket)
  pub packets : AreSentAs old.scenario.setup.clusters (next_stamp old.clock said) sends (acts old.scenario.setup old.state e said).sent
  pub parcels : List Addressed
  pub packed : (q : Peer) → packets_to q parcels ≡ packets_of q sends
  pub addressed : AreAddressed fits new.ends parcels
  pub lacks : LacksRoom free_of looks_of old.ends new.ends parcels

-- Why an event is not done: it is not the node's own; it is idle with the packet that a look in this call showed; a look in this
-- call found too few places in an end; or a number that it would raise has no room, its stamp would pass 2^63 (own: so that no
-- number of 64 bits wraps). shown, free, looks and fits are those of an end.
pub data IsHeld {E : Type 0} (shown : E → Option WirePacket) (free looks : E → ℕ) (fits : Parcel → Type 0) (e : Event) (old new : NodeLogView E) : Type 0 where
  Elsewhere : (IsOwn old.scenario.setup old.node e → ⊥) → IsHeld shown free looks fits e old new
  Idle : IsIdleWith shown e old new → LookedFor looks old.ends new.ends (takes_from old.state e) → IsHeld shown free looks fits e old new
  Full : LacksPlaces shown free looks fits e old new → IsHeld shown free looks fits e old new
  NoNumber : (NumbersFit old.scenario.setup old.node old.state e → ⊥) → IsHeld shown free looks fits e old new
  NoStamp : 2 ^ 63 ≤ max old.clock (stamp_in (shown_for shown new.ends (takes_from old.state e)))
      → LookedFor looks old.ends new.ends (takes_from old.state e) → IsHeld shown free looks fits e old new

-- the log is as it was, and nothing was sent or taken; what an end shows and how many places it knows may have changed
pub record SameLog {E : Type 0} (sent_in taken_in : E → List WirePacket) (old new : NodeLogView E) : Type 0 where
  pub scenario : new.scenario ≡ old.scenario
  pub node : new.node ≡ old.node
  pub state : new.state ≡ old.state
  pub history : new.history ≡ old.history
  pub clock : new.clock ≡ old.clock
  pub sent : (q : Peer) → sent_to sent_in new.ends q ≡ sent_to sent_in old.ends q
  pub taken : (q : Peer) → taken_from taken_in new.ends q ≡ taken_from taken_in old.ends q

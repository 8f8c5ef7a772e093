-- When an event joins the log of a node, which keeps its packets as the bytes that crossed its links.
use Rattle.std.specs.Prelude.{◌≡◌, ◌<◌, ℕ, true, false, List, [], ◌∷◌, ◌++◌, Option, ⊤}
use Rattle.geo_base.specs.declared.event.Event.{Event}
use Rattle.geo_base.specs.declared.packet.Out.{Out}
use Rattle.geo_base.specs.declared.packet.Packet.{Packet}
use Rattle.geo_base.specs.Happening.{next_stamp}
use Rattle.geo_base.specs.History.{is_input}
use Rattle.geo_base.specs.NodeState.{NodeState, acts, takes_from}
use Rattle.geo_base.specs.Nodes.{Node, is_event, is_peer, node_count, node_number, node_of}
use Rattle.geo_base.specs.Scripted.{IsScripted}
use Rattle.geo_base.specs.Setup.{Setup}
use Rattle.frame_laws.specs.BytePackets.{StandsForPacket}
use Rattle.frame_values.specs.Coded.{IsWritten}
use Rattle.wire_ends.specs.declared.packet.WirePacket.{WirePacket}
use Rattle.world_laws.specs.ByteHistories.{ByteEvent, ByteSent, IsLog, TakenStands}

-- a packet as it crosses a link stands for one of the machine; names are those of the clusters
abbrev pub StandsAs : List (List ℕ) → WirePacket → Packet → Type 0
StandsAs names b p = StandsForPacket names b p

-- the history of a node that keeps such packets: it stands for one of values that replays to this state and this last stamp
abbrev pub IsLogOf : Setup → ℕ → List (ByteEvent WirePacket) → NodeState → ℕ → Type 0
IsLogOf s n xs st clock = IsLog (StandsAs s.clusters) s n xs st clock

-- a kept packet that was sent at a stamp: the canonical text of what the machine sends, to the same peer in the same session
pub record IsSentAs (names : List (List ℕ)) (at : ℕ) (b : ByteSent WirePacket) (o : Out) : Type 0 where
  pub to : b.to ≡ o.to
  pub session : b.packet.session ≡ o.session
  pub stamp : b.packet.stamp ≡ at
  pub frame : IsWritten names o.frame b.packet.frame

-- one by one
abbrev pub AreSentAs : List (List ℕ) → ℕ → List (ByteSent WirePacket) → List Out → Type 0
AreSentAs names at [] [] = ⊤
AreSentAs names at (b ∷ bs) (o ∷ os) = IsSentAs names at b o × AreSentAs names at bs os
AreSentAs names at bs os = ⊥

-- The event is one of the node and of the setup, and enabled at its state with what it took; its stamp is the next one, and it sent
-- what the machine sends.
pub record IsNext (s : Setup) (n : ℕ) (st : NodeState) (clock : ℕ) (x : ByteEvent WirePacket) (v : Option Packet) : Type 0 where
  pub here : node_number s (node_of s x.event) ≡ n
  pub in_range : is_event s x.event ≡ true
  pub enabled : (acts s st x.event v).idle ≡ false
  pub input : is_input s (node_of s x.event) (takes_from st x.event) v ≡ true
  pub taken : TakenStands (StandsAs s.clusters) x.taken v
  pub stamp : x.stamp ≡ next_stamp clock v
  pub sent : AreSentAs s.clusters x.stamp x.sent (acts s st x.event v).sent

abbrev pub AllToPeers : Setup → Node → List Out → Type 0
AllToPeers s n [] = ⊤
AllToPeers s n (o ∷ os) = (is_peer s n o.to ≡ true) × AllToPeers s n os

-- grows: an event that is next joins the history

abbrev pub LawLogGrows : Type 0
LawLogGrows = (s : Setup) (n : ℕ) (xs : List (ByteEvent WirePacket)) (st : NodeState) (clock : ℕ) (x : ByteEvent WirePacket) (v : Option Packet)
    → IsScripted s → IsLogOf s n xs st clock → IsNext s n st clock x v → IsLogOf s n (xs ++ x ∷ []) (acts s st x.event v).state x.stamp

-- sends: whatever it sends goes to peers of the node

abbrev pub LawLogSends : Type 0
LawLogSends = (s : Setup) (n : ℕ) (xs : List (ByteEvent WirePacket)) (st : NodeState) (clock : ℕ) (e : Event) (v : Option Packet)
    → IsScripted s → n < node_count s → IsLogOf s n xs st clock → node_number s (node_of s e) ≡ n → is_event s e ≡ true
    → is_input s (node_of s e) (takes_from st e) v ≡ true → AllToPeers s (node_of s e) (acts s st e v).sent

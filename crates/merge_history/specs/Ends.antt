-- The two ends of a link, and histories that keep to the peers of their node.
use Rattle.std.specs.Prelude.{◌≡◌, ℕ, length, map, true, List, [], ◌∷◌, Option, Some, None}
use Rattle.geo_base.specs.declared.packet.Peer.{Peer}
use Rattle.geo_base.specs.declared.packet.Peer.TheVariants as peer
use Rattle.geo_base.specs.History.{RecordedEvent, Replays, state_after}
use Rattle.geo_base.specs.Merge.{history_of}
use Rattle.geo_base.specs.Scripted.{IsScripted}
use Rattle.geo_base.specs.NodeState.{NodeState, opening_state, takes_from}
use Rattle.geo_base.specs.Nodes.{BrokerNode, ClientNode, Node, broker_count, is_node, is_peer, link_from, node_count, node_number, node_of, sender_of, taker_of}
use Rattle.geo_base.specs.Setup.{Declared, Setup, declared_at}
use Rattle.geo_base.specs.World.{Back, Forward, LinkName, node}
use Rattle.world_laws.specs.ByteHistories.{ByteSent, StandAll}
use Rattle.frame_laws.specs.Logs.{StandsAs}
use Rattle.wire_ends.specs.declared.packet.WirePacket.{WirePacket}
use Rattle.merge_history.specs.declared.packet_layout.Home.{Home}
use Rattle.merge_history.specs.Kept.{Kept, kept_by}
use Rattle.merge_history.specs.Peers.{LayoutView, cluster_then, home_at, peer_taken}

-- ---- the other end of a link
pub record OtherEnd : Type 0 where
  pub node : Node
  pub peer : Peer

abbrev pub other_end : Setup → Node → Peer → OtherEnd
other_end s (BrokerNode t x) (peer.Forward y) = record { node = BrokerNode t y; peer = peer.Back x }
other_end s (BrokerNode t x) (peer.Back y) = record { node = BrokerNode t y; peer = peer.Forward x }
other_end s (BrokerNode t x) (peer.Client c) = record { node = ClientNode c; peer = peer.Broker x }
other_end s (BrokerNode t x) (peer.Broker y) = record { node = BrokerNode t y; peer = peer.Back x }
other_end s (ClientNode c) (peer.Broker x) = record { node = BrokerNode (declared_at s c).topic x; peer = peer.Client c }
other_end s (ClientNode c) (peer.Forward x) = record { node = BrokerNode (declared_at s c).topic x; peer = peer.Client c }
other_end s (ClientNode c) (peer.Back x) = record { node = BrokerNode (declared_at s c).topic x; peer = peer.Client c }
other_end s (ClientNode c) (peer.Client x) = record { node = BrokerNode (declared_at s c).topic x; peer = peer.Client c }

-- ---- histories of one node
abbrev pub ToPeers : Setup → Node → List (ByteSent WirePacket) → Type 0
ToPeers s n [] = Unit {0}
ToPeers s n (o ∷ os) = (is_peer s n o.to ≡ true) × ToPeers s n os

-- each event is one of the node, and sends to its peers
abbrev pub SendsToPeers : Setup → Node → List Kept → Type 0
SendsToPeers s n [] = Unit {0}
SendsToPeers s n (d ∷ ds) = ((node_of s d.event ≡ n) × ToPeers s n d.sent) × SendsToPeers s n ds

-- each event takes from a peer of the node, which its state and its history tell alike
abbrev pub IsFromPeer : Setup → Node → Option Peer → Type 0
IsFromPeer s n None = Unit {0}
IsFromPeer s n (Some p) = is_peer s n p ≡ true

abbrev pub TakesFromPeers : Setup → Node → ℕ → NodeState → List Kept → List RecordedEvent → Type 0
TakesFromPeers s n x st [] ds = Unit {0}
TakesFromPeers s n x st (d ∷ xs) [] = ⊥
TakesFromPeers s n x st (d ∷ xs) (v ∷ ds) =
    ((node_of s d.event ≡ n) × ((takes_from st d.event ≡ peer_taken x d.event) × IsFromPeer s n (peer_taken x d.event)))
    × TakesFromPeers s n (cluster_then x d.sent) (state_after s st v) xs ds

-- ---- the layout of a setup
abbrev pub home_declared : Declared → Home
home_declared d = record { topic = d.topic; cluster = d.cluster }

abbrev pub layout_of : Setup → LayoutView
layout_of s = record { clusters = length s.clusters; brokers = broker_count s; homes = map home_declared s.clients }

-- a layout that says what the setup says
pub record IsLayoutOf (s : Setup) (l : LayoutView) : Type 0 where
  pub clusters : l.clusters ≡ length s.clusters
  pub brokers : l.brokers ≡ broker_count s
  pub homes : (c : ℕ) → (home_at l c).topic ≡ (declared_at s c).topic
  pub declared : (c : ℕ) → (home_at l c).cluster ≡ (declared_at s c).cluster

-- a link of a setup is one that a node takes from a peer on and that this peer sends on; or it is that of a broker to itself, on
-- which nothing crosses
pub data LinkEnds (s : Setup) (k : LinkName) : Type 0 where
  Shared : (n : Node) (q : Peer) → is_node s n ≡ true → is_peer s n q ≡ true → link_from s n q ≡ k → node_number s n ≡ taker_of s k
      → node_number s (other_end s n q).node ≡ sender_of s k → LinkEnds s k
  ForwardToItself : (t x : ℕ) → is_node s (BrokerNode t x) ≡ true → k ≡ Forward (node s t x) x → LinkEnds s k
  BackToItself : (t x : ℕ) → is_node s (BrokerNode t x) ≡ true → k ≡ Back (node s t x) x → LinkEnds s k

-- histories of bytes that stand for histories of values, each of which replays from its node's opening state
pub record AreStood (s : Setup) (l : LayoutView) (kept : List (List Kept)) (said : List (List RecordedEvent)) : Type 0 where
  pub scripted : IsScripted s
  pub nodes : length said ≡ node_count s
  pub layout : IsLayoutOf s l
  pub stands : (n : ℕ) → StandAll (StandsAs s.clusters) (kept_by kept n) (history_of said n)
  pub replay : (n : ℕ) → Replays s n (opening_state s n) 0 (history_of said n)

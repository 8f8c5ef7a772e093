-- From whom a node takes packets, and what it sent to whom, by its history alone.
use Rattle.std.specs.Prelude.{ℕ, ◌<◌, ◌≤◌, ◌*◌, ◌+◌, ◌-◌, ◌/◌, ◌%◌, ◌==◌, nat_lt, Bool, false, if◌then◌else◌, List, [], ◌∷◌, ◌++◌, Option, Some, None, slice_index_or}
use Rattle.geo_base.specs.declared.event.Event.{Event}
use Rattle.geo_base.specs.declared.event.Event.TheVariants as event
use Rattle.geo_base.specs.declared.packet.Peer.{Peer}
use Rattle.geo_base.specs.declared.packet.Peer.TheVariants as peer
use Rattle.wire_ends.specs.declared.packet.WirePacket.{WirePacket}
use Rattle.merge_history.specs.declared.packet_layout.FarEnd.{FarEnd}
use Rattle.merge_history.specs.declared.packet_layout.Home.{Home}
use Rattle.merge_history.specs.Kept.{Kept}
use Rattle.world_laws.specs.ByteHistories.{ByteSent}

abbrev pub same_peer : Peer → Peer → Bool
same_peer (peer.Forward y) (peer.Forward z) = y == z
same_peer (peer.Back y) (peer.Back z) = y == z
same_peer (peer.Client y) (peer.Client z) = y == z
same_peer (peer.Broker y) (peer.Broker z) = y == z
same_peer p q = false

-- ---- where a client is: at the broker that it sent to last, at its declared one before it sent anything. It moves by sending
abbrev pub cluster_of : ℕ → Peer → ℕ
cluster_of x (peer.Broker y) = y
cluster_of x q = x

abbrev pub cluster_then : ℕ → List (ByteSent WirePacket) → ℕ
cluster_then x [] = x
cluster_then x (o ∷ os) = cluster_then (cluster_of x o.to) os

abbrev pub cluster_along : ℕ → List Kept → ℕ
cluster_along x [] = x
cluster_along x (d ∷ ds) = cluster_along (cluster_then x d.sent) ds

-- ---- what was taken: the peer whose packet an event takes, of a client that is at x
abbrev pub peer_taken : ℕ → Event → Option Peer
peer_taken x (event.Get c) = Some (peer.Broker x)
peer_taken x (event.Serve y c) = Some (peer.Client c)
peer_taken x (event.Take t y z f) = Some (peer.Back y)
peer_taken x (event.Receipt t y z f) = Some (peer.Forward z)
peer_taken x e = None

-- none where the event took no packet
abbrev pub if_taken : Option Peer → Option WirePacket → Option Peer
if_taken q None = None
if_taken q (Some b) = q

abbrev pub asked : ℕ → Kept → Option Peer
asked x d = if_taken (peer_taken x d.event) d.taken

abbrev pub taken_once : Peer → Option Peer → Option WirePacket → List WirePacket
taken_once q (Some p) (Some b) = if same_peer p q then b ∷ [] else []
taken_once q p b = []

-- the packets that a history took from a peer, of a node that is at x before it
abbrev pub taken_from : Peer → ℕ → List Kept → List WirePacket
taken_from q x [] = []
taken_from q x (d ∷ ds) = taken_once q (peer_taken x d.event) d.taken ++ taken_from q (cluster_then x d.sent) ds

-- ---- what was sent
abbrev pub sent_once : Peer → List (ByteSent WirePacket) → List WirePacket
sent_once q [] = []
sent_once q (o ∷ os) = if same_peer o.to q then o.packet ∷ sent_once q os else sent_once q os

-- the packets that a history sent to a peer
abbrev pub sent_to : Peer → List Kept → List WirePacket
sent_to q [] = []
sent_to q (d ∷ ds) = sent_once q d.sent ++ sent_to q ds

-- ---- the other end: the node that a peer is, and as what it knows this one. Brokers are numbered by topic and cluster, clients
-- after them
-- what a setup says of them
pub record LayoutView : Type 0 where
  pub clusters : ℕ
  pub brokers : ℕ
  pub homes : List Home

-- that of a script: it has 8 clusters and 16 topics at most, and one cluster at least
pub record IsLayout (l : LayoutView) : Type 0 where
  pub some : 0 < l.clusters
  pub few : l.clusters ≤ 8
  pub brokers : l.brokers ≤ 128

abbrev pub no_home : Home
no_home = record { topic = 0; cluster = 0 }

abbrev pub home_at : LayoutView → ℕ → Home
home_at l c = slice_index_or l.homes c no_home

abbrev pub home_of : LayoutView → ℕ → Home
home_of l n = if nat_lt n l.brokers then no_home else home_at l (n - l.brokers)

abbrev pub broker_end : LayoutView → (topic cluster : ℕ) → Peer → FarEnd
broker_end l t x (peer.Forward y) = record { node = t * l.clusters + y; peer = peer.Back x }
broker_end l t x (peer.Broker y) = record { node = t * l.clusters + y; peer = peer.Back x }
broker_end l t x (peer.Back y) = record { node = t * l.clusters + y; peer = peer.Forward x }
broker_end l t x (peer.Client c) = record { node = l.brokers + c; peer = peer.Broker x }

abbrev pub client_end : LayoutView → ℕ → Peer → FarEnd
client_end l c (peer.Forward x) = record { node = (home_at l c).topic * l.clusters + x; peer = peer.Client c }
client_end l c (peer.Back x) = record { node = (home_at l c).topic * l.clusters + x; peer = peer.Client c }
client_end l c (peer.Client x) = record { node = (home_at l c).topic * l.clusters + x; peer = peer.Client c }
client_end l c (peer.Broker x) = record { node = (home_at l c).topic * l.clusters + x; peer = peer.Client c }

abbrev pub end_of : LayoutView → ℕ → Peer → FarEnd
end_of l n q = if nat_lt n l.brokers then broker_end l (n / l.clusters) (n % l.clusters) q else client_end l (n - l.brokers) q

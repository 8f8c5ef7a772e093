-- The peers to which a table has ends, while links are made one after another.
use Rattle.std.specs.Prelude.{◌≡◌, ℕ, nat_lt, ◌==◌, Bool, false, not, ◌&&◌, ◌||◌, List, length}
use Rattle.log_parts.specs.declared.table.EndRow.{EndRow}
use Rattle.log_parts.specs.Peers.{same_peer}
use Rattle.log_parts.specs.Rows.{has_peer}
use Rattle.geo_base.specs.declared.packet.Peer.{Peer}
use Rattle.geo_base.specs.declared.packet.Peer.TheVariants as peer
use Rattle.geo_base.specs.Nodes.{Node, is_peer}
use Rattle.geo_base.specs.Setup.{Setup, declared_at}

-- a table has ends to just the peers of a node
abbrev pub HasPeers : {E : Type 0} → Setup → Node → List (EndRow E) → Type 0
HasPeers s n rs = (q : Peer) → has_peer rs q ≡ is_peer s n q

-- ---- what one link adds

-- a table gained ends to one peer
pub record GainsPeer {E : Type 0} (p : Peer) (old new : List (EndRow E)) : Type 0 where
  pub each : (q : Peer) → has_peer new q ≡ (has_peer old q || same_peer p q)

-- it gained those to the broker at cluster y, in both directions of replication
pub record GainsBroker {E : Type 0} (y : ℕ) (old new : List (EndRow E)) : Type 0 where
  pub each : (q : Peer) → has_peer new q ≡ (has_peer old q || (same_peer (peer.Forward y) q || same_peer (peer.Back y) q))

-- ---- what there is so far

-- the brokers at the first n clusters, but for cluster x, as that one's broker names them
abbrev pub are_brokers : ℕ → ℕ → Peer → Bool
are_brokers x n (peer.Forward y) = nat_lt y n && not (y == x)
are_brokers x n (peer.Back y) = nat_lt y n && not (y == x)
are_brokers x n (peer.Client c) = false
are_brokers x n (peer.Broker y) = false

-- those of the first n clients that are of topic t
abbrev pub are_clients : Setup → ℕ → ℕ → Peer → Bool
are_clients s t n (peer.Forward y) = false
are_clients s t n (peer.Back y) = false
are_clients s t n (peer.Client c) = nat_lt c n && ((declared_at s c).topic == t)
are_clients s t n (peer.Broker y) = false

-- the brokers at the first n clusters, as a client names them
abbrev pub are_sites : ℕ → Peer → Bool
are_sites n (peer.Forward y) = false
are_sites n (peer.Back y) = false
are_sites n (peer.Client c) = false
are_sites n (peer.Broker x) = nat_lt x n

pub record HasBrokers {E : Type 0} (x n : ℕ) (rs : List (EndRow E)) : Type 0 where
  pub each : (q : Peer) → has_peer rs q ≡ are_brokers x n q

-- all other brokers of topic t, and the first clients
pub record HasClients {E : Type 0} (s : Setup) (t x n : ℕ) (rs : List (EndRow E)) : Type 0 where
  pub each : (q : Peer) → has_peer rs q ≡ (are_brokers x (length s.clusters) q || are_clients s t n q)

pub record HasSites {E : Type 0} (n : ℕ) (rs : List (EndRow E)) : Type 0 where
  pub each : (q : Peer) → has_peer rs q ≡ are_sites n q

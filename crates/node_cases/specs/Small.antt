-- A script of two clusters, a topic and two clients of it.
use Rattle.std.specs.Prelude.{◌≡◌, List, length, map}
use Rattle.log_parts.specs.declared.table.EndRow.{EndRow}
use Rattle.geo_base.specs.declared.packet.Peer.{Peer}
use Rattle.geo_base.specs.Setup.{Setup, declared_at}

pub record IsSmall (s : Setup) : Type 0 where
  pub clusters : length s.clusters ≡ 2
  pub topics : length s.topics ≡ 1
  pub clients : length s.clients ≡ 2
  pub first : (declared_at s 0).topic ≡ 0
  pub second : (declared_at s 1).topic ≡ 0

-- the peers of a table, in order
abbrev pub peers_in : {E : Type 0} → List (EndRow E) → List Peer
peers_in {E} rs = map (λ (r : EndRow E). r.peer) rs

-- An event of a client that is prepared: its change, and its packets as bytes.
use Rattle.std.specs.Prelude.{◌≡◌, ℕ, not, List, Option, is_some}
use Rattle.geo_base.specs.Client.{Acted, Client}
use Rattle.client.specs.declared.client.change.ClientChange.{ClientChange}
use Rattle.geo_base.specs.declared.packet.WireOut.{WireOut}
use Rattle.client.specs.Changing.{client_after}
use Rattle.client.specs.Packets.{AreWritten}

pub record PreparedClient : Type 0 where
  pub change : Option ClientChange
  pub sent : List WireOut

-- What is prepared for a client is what the machine's event does: it is idle where that is, the client will be the same, and
-- the packets are the machine's, one by one, each frame as its canonical text; names are those of the clusters.
pub record IsPrepared (names : List (List ℕ)) (k : Client) (p : PreparedClient) (a : Acted) : Type 0 where
  pub idle : not (is_some p.change) ≡ a.idle
  pub client : client_after p.change k ≡ a.client
  pub sent : AreWritten names p.sent a.sent

-- What a builder keeps beside the machine's, so that no answer takes memory.
use Rattle.std.specs.Prelude.{◌≡◌, ℕ, ◌+◌, ◌<◌, ◌≤◌, Bool, false, List, length}
use Rattle.geo_base.specs.declared.snapshot.Cut.{Cut}
use Rattle.geo_base.specs.SnapshotBuilder.{second_id}

-- the second round's id, room for all clusters that may answer, and a place for each one's position; a round that is not over
-- lacks the answer of a cluster
pub record BuilderHolds (id second : List ℕ) (clusters len cap : ℕ) (cut : Cut) (finished : Bool) : Type 0 where
  pub named : second ≡ second_id id
  pub room : clusters ≤ cap
  pub places : length cut.remote ≡ clusters
  pub lacking : finished ≡ false → len + 1 < clusters

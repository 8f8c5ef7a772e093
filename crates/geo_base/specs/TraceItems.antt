-- What the lines of a trace say (own): that an event begins, and what was written durably of a topic at a cluster and of the
-- subscriptions there with their cursors. Here are the values, free of the machine that a run comes from; their texts are in
-- `TraceText`.
use Rattle.std.specs.Prelude.{ℕ, zero, suc, ◌==◌, Bool, true, false, ◌&&◌, List, [], ◌∷◌, length, Option}
use Rattle.geo_base.specs.Types.{Cause, ClusterPosition, Entry, Position}
use Rattle.geo_base.specs.Position.{same_position}
use Rattle.geo_base.specs.Updating.{positions_for}

-- One durable write. An append has the entry's position, and after an update of the own cluster the position of the snapshot
-- marker that it tells. A creation says whether it is at Latest. Acks are the indexes that a cursor gained, ascending, and why:
-- a client's, a marker's or an update's. A seek has the index that is the cursor's next one
pub data Act : Type 0 where
  Appends : Position → Entry → Option Position → Act
  Creates : List ℕ → Bool → Act
  Deletes : List ℕ → Act
  Acks : List ℕ → List ℕ → Cause → Act
  Seeks : List ℕ → ℕ → Act

-- the event of this number begins; a write of it in a topic at a cluster
pub data Item : Type 0 where
  Begins : ℕ → Item
  Writes : (topic cluster : ℕ) → Act → Item

abbrev pub same_positions : List Position → List Position → Bool
same_positions [] [] = true
same_positions (p ∷ ps) (q ∷ qs) = same_position p q && same_positions ps qs
same_positions ps qs = false

-- an update tells a snapshot where both name the same positions for each of the n clusters, and name as many in all
abbrev pub names_same : ℕ → List ClusterPosition → List ClusterPosition → Bool
names_same zero rs qs = length rs == length qs
names_same (suc n) rs qs = same_positions (positions_for n rs) (positions_for n qs) && names_same n rs qs

-- Covers: a snapshot reaches, in each other cluster, over all that stood there when it was asked for, whoever stored it first (PIP-33 has
-- each cluster answer a request with its last position). So its update lets a subscription pass over all that stood there then.
use Rattle.std.specs.Prelude.{◌≡◌, ℕ, ◌≤◌, true, List, length, Some}
use Rattle.geo_base.specs.declared.entry.Entry.{Entry}
use Rattle.geo_base.specs.declared.event.Event.{Event}
use Rattle.geo_base.specs.declared.marker.ClusterPosition.{ClusterPosition}
use Rattle.geo_base.specs.declared.marker.Marker.TheVariants as marker
use Rattle.geo_base.specs.declared.marker.ClusterRef.TheVariants as cluster_ref
use Rattle.geo_base.specs.declared.position.Position.{Position}
use Rattle.geo_base.specs.SnapshotBuilder.{named}
use Rattle.geo_base.specs.Cache.{cut_of}
use Rattle.geo_base.specs.Entry.{meant_for}
use Rattle.geo_base.specs.Laws.{ArePair, IsShort, MarkerAt}
use Rattle.geo_base.specs.Planned.{planned}
use Rattle.geo_base.specs.Safe.{IsEntry}
use Rattle.geo_base.specs.Scripted.{IsScripted}
use Rattle.geo_base.specs.Setup.{Setup}
use Rattle.geo_base.specs.Updating.{only_index, positions_for}
use Rattle.geo_base.specs.World.{World, opening_world, topic_at}
use Rattle.world_laws.specs.Reached.{ReachedFrom}
use Rattle.failover_laws.specs.Again.{gives}
use Rattle.failover_laws.specs.UpdatedTo.{HasUpdatedTo}
use Rattle.failover_laws.specs.Since.{Since}

-- in w these places are those of a snapshot of a that was asked for since v: its request stands above all that stood at a in v
pub record IsAskedSince (s : Setup) (v w : World) (t a : ℕ) (remote : List ClusterPosition) : Type 0 where
  pub id : List ℕ
  pub local : Position
  pub listed : List ClusterPosition
  pub index : ℕ
  pub snapshot : MarkerAt (topic_at s w t a) index a (marker.Snapshot id local listed)
  pub same : remote ≡ named (cut_of a (length s.clusters) local listed)
  pub request : ℕ
  pub asks : MarkerAt (topic_at s w t a) request a (marker.Request id (cluster_ref.Known a))
  pub since : length (topic_at s v t a).entries ≤ request

-- the index that such places name at y is above all that stood at y in v
abbrev pub Covers : Setup → World → World → Type 0
Covers s v w = (t a y j : ℕ) (remote : List ClusterPosition) → ArePair s a y → IsAskedSince s v w t a remote
    → only_index (topic_at s w t y).ledgers (positions_for y remote) ≡ Some j → length (topic_at s v t y).entries ≤ j

-- whatever event comes next, it gives no message that stood at y in v, and is meant for a, to a consumer of n at y
abbrev pub NotOfThen : Setup → World → World → ℕ → ℕ → List ℕ → ℕ → Type 0
NotOfThen s v w t y n a =
    (e : Event) (i : ℕ) (f : Entry) → gives s t y n i (planned s w e) ≡ true → IsEntry (topic_at s w t y) i f → meant_for a f ≡ true → length (topic_at s v t y).entries ≤ i

-- so where n has passed over that index at y in world w, none of it is given there again while nobody deletes or seeks n there
abbrev pub CoveredNotAgain : Setup → World → World → Type 0
CoveredNotAgain s v w = (t a y j : ℕ) (n : List ℕ) (remote : List ClusterPosition) (u : World) → ArePair s a y → IsAskedSince s v w t a remote
    → only_index (topic_at s w t y).ledgers (positions_for y remote) ≡ Some j → HasUpdatedTo (topic_at s w t y) n a j → Since s t y n w u → NotOfThen s v u t y n a

-- v and w being worlds that a run comes to one after the other, in runs of fewer than 2^62 events
pub record LawCovers : Type 0 where
  pub covers : (s : Setup) → IsScripted s → (v w : World) → ReachedFrom s (opening_world s) v → ReachedFrom s v w → IsShort w → Covers s v w
  pub again : (s : Setup) → IsScripted s → (v w : World) → ReachedFrom s (opening_world s) v → ReachedFrom s v w → IsShort w → CoveredNotAgain s v w

-- How far behind: of a cluster's own messages those alone can come again at another one that it stored after the request of the
-- snapshot whose update was acted on there last (own; PIP-33 says that the positions of an update are those of a snapshot, and not how
-- far back a snapshot reaches).
use Rattle.std.specs.Prelude.{◌≡◌, ℕ, ◌^◌, ◌<◌, ◌≤◌, true, List, length, Some}
use Rattle.geo_base.specs.declared.entry.Entry.{Entry}
use Rattle.geo_base.specs.declared.entry.Targets.TheVariants as targets
use Rattle.geo_base.specs.declared.event.Event.{Event}
use Rattle.geo_base.specs.declared.marker.ClusterPosition.{ClusterPosition}
use Rattle.geo_base.specs.declared.marker.Marker.TheVariants as marker
use Rattle.geo_base.specs.declared.marker.ClusterRef.TheVariants as cluster_ref
use Rattle.geo_base.specs.declared.position.Position.{Position}
use Rattle.geo_base.specs.SnapshotBuilder.{named}
use Rattle.geo_base.specs.Cache.{cut_of}
use Rattle.geo_base.specs.Entry.{is_data, is_outbound}
use Rattle.geo_base.specs.Laws.{Always, ArePair, IsShort, MarkerAt}
use Rattle.geo_base.specs.Planned.{planned}
use Rattle.geo_base.specs.Safe.{IsEntry}
use Rattle.geo_base.specs.Scripted.{IsScripted}
use Rattle.geo_base.specs.Setup.{Setup}
use Rattle.geo_base.specs.Topic.{index_of}
use Rattle.geo_base.specs.Updating.{only_index, positions_for}
use Rattle.geo_base.specs.World.{World, topic_at}
use Rattle.failover_laws.specs.Again.{gives}
use Rattle.failover_laws.specs.UpdatedTo.{HasUpdatedTo}

-- the requests that a cluster stored first differ by their ids
abbrev pub RequestsDiffer : Setup → World → Type 0
RequestsDiffer s w = (t a k l : ℕ) (id : List ℕ) → a < length s.clusters
    → MarkerAt (topic_at s w t a) k a (marker.Request id (cluster_ref.Known a)) → MarkerAt (topic_at s w t a) l a (marker.Request id (cluster_ref.Known a)) → k ≡ l

-- at index r of a's topic stands a request of a with this id, and what a stored first before it and goes to y stands at y at or below j
pub record IsAhead (s : Setup) (w : World) (t a y r j : ℕ) (id : List ℕ) : Type 0 where
  pub request : MarkerAt (topic_at s w t a) r a (marker.Request id (cluster_ref.Known a))
  pub ahead : (k : ℕ) (f : Entry) → k < r → IsEntry (topic_at s w t a) k f → is_outbound a y f ≡ true → (i : ℕ) × (i ≤ j) × IsEntry (topic_at s w t y) i f

-- the index that an answer of y to a names is at or above all that a had for y before its request with the answer's id
abbrev pub AnswersBehind : Setup → World → Type 0
AnswersBehind s w = (t a y r l j : ℕ) (id : List ℕ) (answer : ClusterPosition) → ArePair s a y
    → MarkerAt (topic_at s w t a) r a (marker.Request id (cluster_ref.Known a))
    → (m : MarkerAt (topic_at s w t y) l y (marker.Response id answer)) → m.entry.to ≡ targets.Only (2 ^ a)
    → index_of (topic_at s w t y).ledgers answer.position ≡ Some j → IsAhead s w t a y r j id

-- the update that names these places for y, at index j there, is that of a snapshot of a, whose request stands below it in a's topic
pub record IsOfSnapshot (s : Setup) (w : World) (t a y j : ℕ) (remote : List ClusterPosition) : Type 0 where
  pub id : List ℕ
  pub local : Position
  pub listed : List ClusterPosition
  pub index : ℕ
  pub snapshot : MarkerAt (topic_at s w t a) index a (marker.Snapshot id local listed)
  pub same : remote ≡ named (cut_of a (length s.clusters) local listed)
  pub request : ℕ
  pub below : request < index
  pub ahead : IsAhead s w t a y request j id

-- wherever an update of a stands, the index that it names at y is at or above all that a had for y before its snapshot's request
abbrev pub UpdatesBehind : Setup → World → Type 0
UpdatesBehind s w = (t z i a y j : ℕ) (n : List ℕ) (remote : List ClusterPosition) → z < length s.clusters → ArePair s a y
    → MarkerAt (topic_at s w t z) i a (marker.Update n remote) → only_index (topic_at s w t y).ledgers (positions_for y remote) ≡ Some j
    → IsOfSnapshot s w t a y j remote

-- whatever event comes next, a message that a stored first and that it gives to a consumer of n at y stands in a's topic after index r
abbrev pub OnlyBehind : Setup → World → ℕ → ℕ → List ℕ → ℕ → ℕ → Type 0
OnlyBehind s w t y n a r = (e : Event) (i : ℕ) (f : Entry) → gives s t y n i (planned s w e) ≡ true → IsEntry (topic_at s w t y) i f → is_data f.content ≡ true → f.ident.origin ≡ a
    → (k : ℕ) × (r < k) × IsEntry (topic_at s w t a) k f

-- so it is where n has passed over an index at y at or below which all stands that a had for y before that request
abbrev pub OwnBehind : Setup → World → Type 0
OwnBehind s w = (t a y j r : ℕ) (n id : List ℕ) → ArePair s a y → HasUpdatedTo (topic_at s w t y) n a j → IsAhead s w t a y r j id → OnlyBehind s w t y n a r

abbrev pub LawBehind : Type 0
LawBehind = (s : Setup) → IsScripted s → Always s (λ w settled. IsShort w → RequestsDiffer s w × AnswersBehind s w × UpdatesBehind s w × OwnBehind s w)

-- When an observation is safe (own): eight facts on what was read and logged. Six are what holds at every moment of every run of the
-- machine, as far as it can be told from outside; one is of clusters that were not read, and one of producers' receipts.
use Rattle.std.specs.Prelude.{◌≡◌, ◌≢◌, ℕ, ◌<◌, ◌≤◌, ◌==◌, Bool, true, false, ◌&&◌, ◌⊎◌, List, length, filter, Some, slice_get}
use Rattle.geo_base.specs.declared.entry.Content.TheVariants as content
use Rattle.geo_base.specs.declared.entry.Entry.{Entry}
use Rattle.geo_base.specs.declared.entry.Ident.{Ident}
use Rattle.geo_base.specs.declared.marker.ClusterPosition.{ClusterPosition}
use Rattle.geo_base.specs.declared.marker.Marker.TheVariants as marker
use Rattle.geo_base.specs.declared.position.Position.{Position}
use Rattle.geo_base.specs.Audit.{names_each, position_named, same_entry}
use Rattle.geo_base.specs.Cursor.{has}
use Rattle.geo_base.specs.Entry.{is_data, is_outbound, means_cluster, meant_for, same_ident, same_stream}
use Rattle.geo_base.specs.Laws.{of_origin, outbound}
use Rattle.geo_base.specs.Mirror.{MirrorSub, index_at}
use Rattle.geo_base.specs.Setup.{Setup}
use Rattle.observation.specs.declared.said.Said.TheVariants as said
use Rattle.observation.specs.Observed.{Observation, entries_seen, is_dealt_with, is_read, may_be_later, received_at, stands_at, topic_seen}

-- an entry stands at an index of what was read of a topic at a cluster
abbrev pub Stands : Setup → Observation → (t x i : ℕ) → Entry → Type 0
Stands s o t x i e = slice_get (entries_seen s o t x) i ≡ Some e

-- ---- once: of two entries of one origin and producer the earlier has the smaller sequence id

abbrev pub OnceIn : List Entry → Type 0
OnceIn es = (i j : ℕ) (e f : Entry) → i < j → slice_get es i ≡ Some e → slice_get es j ≡ Some f → same_stream e.ident f.ident ≡ true → e.ident.seq < f.ident.seq

-- ---- brought: what x has of y's is a beginning of what y has for x. Of what was read while all moved one is a beginning of the other

abbrev pub Begins : List Entry → List Entry → Type 0
Begins es fs = (k : ℕ) (e : Entry) → slice_get es k ≡ Some e → (f : Entry) × (slice_get fs k ≡ Some f) × (same_entry e f ≡ true)

abbrev pub came_from : Setup → Observation → (t y x : ℕ) → List Entry
came_from s o t y x = of_origin y (entries_seen s o t x)

abbrev pub went_to : Setup → Observation → (t y x : ℕ) → List Entry
went_to s o t y x = outbound y x (entries_seen s o t y)

abbrev pub IsBrought : Setup → Observation → (t x y : ℕ) → Type 0
IsBrought s o t x y = Begins (came_from s o t y x) (went_to s o t y x) ⊎ ((o.quiet ≡ false) × Begins (went_to s o t y x) (came_from s o t y x))

-- ---- alike: of what two others both could have of a cluster y that was not read, what both have at a place is the same

abbrev pub is_common : ℕ → ℕ → Entry → Bool
is_common y x e = (e.ident.origin == y) && (is_data e.content && meant_for x e)

abbrev pub common : Setup → Observation → (t y x z : ℕ) → List Entry
common s o t y x z = filter (is_common y z) (entries_seen s o t x)

abbrev pub AreAlike : Setup → Observation → (t y x z : ℕ) → Type 0
AreAlike s o t y x z = (k : ℕ) (e f : Entry) → slice_get (common s o t y x z) k ≡ Some e → slice_get (common s o t y z x) k ≡ Some f → same_entry e f ≡ true

-- ---- received: what the cursor of x's replicator to y has stands at y

abbrev pub IsReceived : Setup → Observation → (t x y : ℕ) → Type 0
IsReceived s o t x y = (i : ℕ) (e : Entry) → has (received_at s o t x y) i ≡ true → Stands s o t x i e → is_outbound x y e ≡ true
    → (k : ℕ) × (stands_at e (entries_seen s o t y) ≡ Some k)

-- ---- stored: what a producer has a receipt for stands in the topic of its cluster, or was stored after that was read

abbrev pub IsStored : Setup → Observation → (t : ℕ) → Ident → Position → Type 0
IsStored s o t g p = (may_be_later s o t g.origin p ≡ true) ⊎ ((i : ℕ) × (e : Entry) × Stands s o t g.origin i e × (same_ident e.ident g ≡ true))

-- ---- cuts: a snapshot of x names each other cluster once; and each message at another cluster at or below the position that it names
-- ---- there, which is meant for x, stands at x at or below its local position

abbrev pub CoversAt : Setup → Observation → (t x l y : ℕ) → Position → Type 0
CoversAt s o t x l y p = (j : ℕ) × (index_at (topic_seen s o t y) p ≡ Some j)
    × ((k : ℕ) (f : Entry) → k ≤ j → Stands s o t y k f → is_data f.content ≡ true → meant_for x f ≡ true → (i : ℕ) × (i ≤ l) × (stands_at f (entries_seen s o t x) ≡ Some i))

abbrev pub IsCovered : Setup → Observation → (t x l y : ℕ) → List ClusterPosition → Type 0
IsCovered s o t x l y remote = (p : Position) × (position_named y remote ≡ Some p) × ((may_be_later s o t y p ≡ true) ⊎ CoversAt s o t x l y p)

abbrev pub IsCutSeen : Setup → Observation → (t x : ℕ) → Position → List ClusterPosition → Type 0
IsCutSeen s o t x local remote = (names_each x (length s.clusters) remote ≡ true)
    × (l : ℕ) × (index_at (topic_seen s o t x) local ≡ Some l) × ((y : ℕ) → y < length s.clusters → x ≢ y → IsCovered s o t x l y remote)

-- ---- told: each message at another cluster at or below the position that an update of a names there, which is meant for a, is dealt with

abbrev pub TellsAt : Setup → Observation → (t a : ℕ) → List ℕ → (y : ℕ) → Position → Type 0
TellsAt s o t a n y p = (j : ℕ) × (index_at (topic_seen s o t y) p ≡ Some j)
    × ((k : ℕ) (f : Entry) → k ≤ j → Stands s o t y k f → meant_for a f ≡ true → is_dealt_with s o t n f ≡ true)

abbrev pub TellsSettled : Setup → Observation → (t a : ℕ) → List ℕ → List ClusterPosition → Type 0
TellsSettled s o t a n remote = (k y : ℕ) (r : ClusterPosition) → slice_get remote k ≡ Some r → y < length s.clusters → y ≢ a → means_cluster y r.cluster ≡ true
    → (may_be_later s o t y r.position ≡ true) ⊎ TellsAt s o t a n y r.position

-- ---- all of it

pub record IsObservedSafe (s : Setup) (o : Observation) : Type 0 where
  pub once : (t x : ℕ) → t < length s.topics → x < length s.clusters → OnceIn (entries_seen s o t x)
  pub brought : (t x y : ℕ) → t < length s.topics → x < length s.clusters → y < length s.clusters → x ≢ y
      → is_read s o t x ≡ true → is_read s o t y ≡ true → IsBrought s o t x y
  pub alike : (t y x z : ℕ) → t < length s.topics → y < length s.clusters → x < z → z < length s.clusters → x ≢ y → z ≢ y
      → is_read s o t y ≡ false → is_read s o t x ≡ true → is_read s o t z ≡ true → AreAlike s o t y x z
  pub received : (t x y : ℕ) → t < length s.topics → x < length s.clusters → y < length s.clusters → x ≢ y
      → is_read s o t x ≡ true → is_read s o t y ≡ true → IsReceived s o t x y
  pub stored : (t k : ℕ) (g : Ident) (p : Position) → t < length s.topics → slice_get o.said k ≡ Some (said.Receipt t g p) → IsStored s o t g p
  pub cuts : (t x i : ℕ) (e : Entry) (id : List ℕ) (local : Position) (remote : List ClusterPosition) → t < length s.topics → x < length s.clusters
      → Stands s o t x i e → e.ident.origin ≡ x → e.content ≡ content.Marked (marker.Snapshot id local remote) → IsCutSeen s o t x local remote
  pub told : (t x i : ℕ) (e : Entry) (n : List ℕ) (remote : List ClusterPosition) → t < length s.topics → x < length s.clusters
      → Stands s o t x i e → e.content ≡ content.Marked (marker.Update n remote) → TellsSettled s o t e.ident.origin n remote
  pub only : (t x k i : ℕ) (v : MirrorSub) (e : Entry) → t < length s.topics → x < length s.clusters → slice_get (topic_seen s o t x).subs k ≡ Some v
      → has v.cursor i ≡ true → Stands s o t x i e → is_dealt_with s o t v.name e ≡ true

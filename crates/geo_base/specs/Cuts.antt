-- What a cut is: where the mark-delete has passed its local position, all that its remote positions cover was passed too.
use Rattle.std.specs.Prelude.{◌≡◌, ℕ, ◌<◌, ◌≤◌, ◌≢◌, true, length, Some, None, slice_index_or}
use Rattle.geo_base.specs.Types.{Cut, Entry, Position}
use Rattle.geo_base.specs.Broker.{Broker}
use Rattle.geo_base.specs.Entry.{is_data, meant_for}
use Rattle.geo_base.specs.Safe.{IsEntry}
use Rattle.geo_base.specs.Setup.{Setup}
use Rattle.geo_base.specs.Topic.{index_of}
use Rattle.geo_base.specs.World.{World, topic_at}

-- every message at y at or below j that is meant for x stands at x at or below l
abbrev pub Covers : ℕ → Broker → Broker → ℕ → ℕ → Type 0
Covers x at_x at_y l j = (i : ℕ) (e : Entry) → i ≤ j → IsEntry at_y i e → is_data e.content ≡ true → meant_for x e ≡ true → (k : ℕ) × (k ≤ l) × IsEntry at_x k e

-- a position of y's topic, stored, and covered by what stands at x at or below l
abbrev pub CoversCluster : Setup → World → ℕ → ℕ → ℕ → ℕ → Position → Type 0
CoversCluster s w t x l y p = (j : ℕ) × (index_of (topic_at s w t y).ledgers p ≡ Some j) × Covers x (topic_at s w t x) (topic_at s w t y) l j

-- its local position is stored at x, and it has a position of each remote cluster that is covered
abbrev pub IsCut : Setup → World → ℕ → ℕ → Cut → Type 0
IsCut s w t x cut =
    (l : ℕ) × (index_of (topic_at s w t x).ledgers cut.local ≡ Some l)
    × ((y : ℕ) → y < length s.clusters → x ≢ y → (p : Position) × (slice_index_or cut.remote y None ≡ Some p) × CoversCluster s w t x l y p)

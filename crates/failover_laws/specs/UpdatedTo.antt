-- Passed over: what an update of another cluster (PIP-33's ReplicatedSubscriptionsUpdate) puts into a cursor.
use Rattle.std.specs.Prelude.{◌≡◌, ℕ, ◌<◌, ◌≤◌, true, ◌&&◌, List, length, Option, Some, None}
use Rattle.geo_base.specs.declared.entry.Entry.{Entry}
use Rattle.geo_base.specs.declared.marker.ClusterPosition.{ClusterPosition}
use Rattle.geo_base.specs.declared.marker.Marker.TheVariants as marker
use Rattle.geo_base.specs.Broker.{Broker, replicator_at, sub_named}
use Rattle.geo_base.specs.Cursor.{has}
use Rattle.geo_base.specs.Laws.{ArePair, BetweenEvents, IsShort, MarkerAt}
use Rattle.geo_base.specs.Name.{is_name}
use Rattle.geo_base.specs.Safe.{IsEntry}
use Rattle.geo_base.specs.Scripted.{IsScripted}
use Rattle.geo_base.specs.Replicator.{index_to_read}
use Rattle.geo_base.specs.Setup.{Setup}
use Rattle.geo_base.specs.Subscribing.{has_room}
use Rattle.geo_base.specs.Subscription.{Subscription}
use Rattle.geo_base.specs.Updating.{only_index, is_updated, positions_for}
use Rattle.geo_base.specs.World.{World, topic_at}

-- what the replicator of y to a reads next is an update of a for subscription n, which names these places
pub record ReadsUpdate (s : Setup) (w : World) (t y a : ℕ) (n : List ℕ) (remote : List ClusterPosition) : Type 0 where
  pub topic : t < length s.topics
  pub pair : ArePair s y a
  pub index : ℕ
  pub reads : index_to_read (replicator_at (topic_at s w t y) a).state (replicator_at (topic_at s w t y) a) (length (topic_at s w t y).entries) ≡ Some index
  pub update : MarkerAt (topic_at s w t y) index a (marker.Update n remote)

-- and it has an effect: it names one position of y's topic, which is stored, at index j; and n is here, or may be made here
pub record MayUpdateTo (s : Setup) (w : World) (t y a : ℕ) (n : List ℕ) (remote : List ClusterPosition) (j : ℕ) : Type 0 where
  pub next : ReadsUpdate s w t y a n remote
  pub names : only_index (topic_at s w t y).ledgers (positions_for y remote) ≡ Some j
  pub stands : j < length (topic_at s w t y).entries
  pub may : (is_name n && has_room (topic_at s w t y) n) ≡ true

-- after how many of the read's writes the cursor is written: a subscription that is not here is created first
abbrev pub writes_to_update : Option Subscription → ℕ
writes_to_update None = 2
writes_to_update (Some v) = 1

-- n is here, and each marker and each message that is meant for a, at or below index j, is in its cursor
pub record HasUpdatedTo (b : Broker) (n : List ℕ) (a j : ℕ) : Type 0 where
  pub stands : j < length b.entries
  pub sub : Subscription
  pub here : sub_named b.subs n ≡ Some sub
  pub passed : (k : ℕ) (e : Entry) → k ≤ j → IsEntry b k e → is_updated a e ≡ true → has sub.cursor k ≡ true

-- in a run each update that is read next has an effect where there is room for its subscription: so only the limit on a topic's
-- subscriptions is in its way, which the run of a script never meets (LawRoom)
abbrev pub UpdatesHaveEffect : Setup → World → Type 0
UpdatesHaveEffect s w = (t y a : ℕ) (n : List ℕ) (remote : List ClusterPosition) → ReadsUpdate s w t y a n remote → has_room (topic_at s w t y) n ≡ true
    → (j : ℕ) × MayUpdateTo s w t y a n remote j

abbrev pub LawEffects : Type 0
LawEffects = (s : Setup) → IsScripted s → BetweenEvents s (λ w. IsShort w → UpdatesHaveEffect s w)

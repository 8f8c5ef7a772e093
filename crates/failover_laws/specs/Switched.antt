-- Switched over: an update that came while all went on is acted on by the time that settling has brought all over, and then nothing that
-- stood at the other cluster when its snapshot was asked for is given there again (own: PIP-33 tells a subscription's position to the
-- other clusters, and leaves open when its consumers may be moved).
use Rattle.std.specs.Prelude.{◌≡◌, ℕ, ◌≤◌, true, false, List, [], ◌∷◌, ◌++◌, length, Some}
use Rattle.geo_base.specs.declared.entry.Entry.{Entry}
use Rattle.geo_base.specs.declared.event.Event.{Event}
use Rattle.geo_base.specs.declared.event.Step.TheVariants as step
use Rattle.geo_base.specs.declared.event.Step.{Step}
use Rattle.geo_base.specs.declared.marker.ClusterPosition.{ClusterPosition}
use Rattle.geo_base.specs.declared.marker.Marker.TheVariants as marker
use Rattle.geo_base.specs.Broker.{replicator_at, sub_named}
use Rattle.geo_base.specs.Cursor.{has}
use Rattle.geo_base.specs.Entry.{goes_to, is_data, meant_for}
use Rattle.geo_base.specs.Happening.{halts_planned, happens, stops}
use Rattle.geo_base.specs.Laws.{ArePair, IsShort, MarkerAt, begun}
use Rattle.geo_base.specs.Planned.{planned}
use Rattle.geo_base.specs.Run.{no_limits, run}
use Rattle.geo_base.specs.Safe.{IsEntry}
use Rattle.geo_base.specs.Scripted.{IsScripted}
use Rattle.geo_base.specs.Setup.{Setup}
use Rattle.geo_base.specs.Subscribing.{has_room}
use Rattle.geo_base.specs.Subscription.{Subscription}
use Rattle.geo_base.specs.Updating.{only_index, positions_for}
use Rattle.geo_base.specs.World.{World, opening_world, topic_at}
use Rattle.world_laws.specs.Reached.{ReachedFrom}
use Rattle.failover_laws.specs.Covers.{IsAskedSince, NotOfThen}
use Rattle.failover_laws.specs.UpdatedTo.{HasUpdatedTo}
use Rattle.failover_laws.specs.Run.{AllLeave}
use Rattle.failover_laws.specs.Since.{Since, leaves, leaves_behind}

-- from v on, n being neither deleted nor sought at y, in one run
pub data LeftFrom (s : Setup) (t y : ℕ) (n : List ℕ) (v : World) : World → Type 0 where
  Starting : LeftFrom s t y n v v
  AfterEvent : (w : World) (e : Event) → leaves s t y n (planned s w e) ≡ true → LeftFrom s t y n v w → LeftFrom s t y n v (happens s w e)
  AfterHalt : (w : World) (k : ℕ) (e : Event) → leaves_behind k s t y n (planned s w e) ≡ true → LeftFrom s t y n v w
      → LeftFrom s t y n v (halts_planned s w k (planned s w e))
  AfterStop : (w : World) → LeftFrom s t y n v w → LeftFrom s t y n v (stops s w)
  Idling : (w : World) (k : ℕ) → LeftFrom s t y n v w → LeftFrom s t y n v (record w { idle = k })
  AfterRound : (w : World) (k : ℕ) → LeftFrom s t y n v w → LeftFrom s t y n v (record w { rounds = k })

-- these places name one index at y, and n has passed over it there
pub record HasActed (s : Setup) (w : World) (t y a : ℕ) (n : List ℕ) (told : List ClusterPosition) : Type 0 where
  pub index : ℕ
  pub names : only_index (topic_at s w t y).ledgers (positions_for y told) ≡ Some index
  pub passed : HasUpdatedTo (topic_at s w t y) n a index

-- wherever the entry e stands in y's topic, its replicator to a has acknowledged it only where n has passed over what the places name
abbrev pub ActsBefore : Setup → World → ℕ → ℕ → ℕ → List ℕ → List ClusterPosition → Entry → Type 0
ActsBefore s w t y a n told e = (i : ℕ) → IsEntry (topic_at s w t y) i e → has (replicator_at (topic_at s w t y) a).cursor i ≡ true → HasActed s w t y a n told

-- y's replicator to a has not acknowledged it anywhere
abbrev pub IsUnread : Setup → World → ℕ → ℕ → ℕ → Entry → Type 0
IsUnread s v t y a e = (i : ℕ) → IsEntry (topic_at s v t y) i e → has (replicator_at (topic_at s v t y) a).cursor i ≡ false

-- n is there, or may be made there, whatever comes that leaves it. It is so where n is there in v (`room` of LawSwitchover), and always of
-- a subscription that a script names (LawRoom)
abbrev pub HasRoomFrom : Setup → World → ℕ → ℕ → List ℕ → Type 0
HasRoomFrom s v t y n = (u : World) → LeftFrom s t y n v u → has_room (topic_at s u t y) n ≡ true

-- no update is acknowledged that was not acted on, whatever happens, while n is left and there is room
abbrev pub LawActs : Type 0
LawActs = (s : Setup) → IsScripted s → (v w : World) (t y a k : ℕ) (n : List ℕ) (told : List ClusterPosition) → ReachedFrom s (opening_world s) v → LeftFrom s t y n v w → IsShort w
    → ArePair s y a → HasRoomFrom s v t y n → (m : MarkerAt (topic_at s w t a) k a (marker.Update n told)) → IsUnread s v t y a m.entry → ActsBefore s w t y a n told m.entry

-- n is at y, and has every message that stood there in v and is meant for a: it has passed over an index above all of them (so what
-- LawGot says of clients holds of it)
pub record HasAllOf (s : Setup) (v w : World) (t y a : ℕ) (n : List ℕ) : Type 0 where
  pub index : ℕ
  pub passed : HasUpdatedTo (topic_at s w t y) n a index
  pub high : length (topic_at s v t y).entries ≤ index
  pub sub : Subscription
  pub here : sub_named (topic_at s w t y).subs n ≡ Some sub
  pub all : (i : ℕ) (f : Entry) → IsEntry (topic_at s v t y) i f → is_data f.content ≡ true → meant_for a f ≡ true → has sub.cursor i ≡ true

-- in the run of some steps: v after the first ones, w after more, and z after a settling. Where in w an update of a for n stands that a
-- stored since v, with the places of a snapshot that a asked for since v, and nothing deletes or seeks n at y: then n has in z every
-- message that stood at y in v and is meant for a; and none of these is given to a consumer of n there again, while it is left
abbrev pub IsSwitchedOver : Setup → List Step → List Step → Type 0
IsSwitchedOver s before after = (t y a k : ℕ) (n : List ℕ) (told : List ClusterPosition)
    → let v = run s before in let w = run s (before ++ after) in let z = run s (before ++ after ++ step.Settle ∷ []) in
    ArePair s a y → IsShort z → IsAskedSince s v w t a told
    → (m : MarkerAt (topic_at s w t a) k a (marker.Update n told)) → goes_to y m.entry.to ≡ true → length (topic_at s v t a).entries ≤ k
    → AllLeave no_limits s t y n (begun v) (after ++ step.Settle ∷ []) → HasRoomFrom s v t y n
    → HasAllOf s v z t y a n × ((u : World) → Since s t y n z u → NotOfThen s v u t y n a)

-- a subscription that is there has room (room); no update is acknowledged that was not acted on (acts); and after a settling it was (settled)
pub record LawSwitchover : Type 0 where
  pub room : (s : Setup) (v : World) (t y : ℕ) (n : List ℕ) (u : Subscription) → sub_named (topic_at s v t y).subs n ≡ Some u → HasRoomFrom s v t y n
  pub acts : LawActs
  pub settled : (s : Setup) → IsScripted s → (before after : List Step) → IsSwitchedOver s before after

-- What does not come again: no event gives what an update passed over.
use Rattle.std.specs.Prelude.{◌≡◌, ℕ, ◌≤◌, ◌==◌, Bool, true, false, ◌&&◌, List, Option, Some, None}
use Rattle.std.specs.List.{list_any}
use Rattle.std.specs.Str.{bytes_eq}
use Rattle.geo_base.specs.declared.change.Change.TheVariants as change
use Rattle.geo_base.specs.declared.change.Change.{Change}
use Rattle.geo_base.specs.declared.entry.Entry.{Entry}
use Rattle.geo_base.specs.declared.event.Event.TheVariants as event
use Rattle.geo_base.specs.declared.event.Event.{Event}
use Rattle.geo_base.specs.declared.marker.ClusterPosition.{ClusterPosition}
use Rattle.geo_base.specs.Broker.{sub_named}
use Rattle.geo_base.specs.Entry.{meant_for}
use Rattle.geo_base.specs.Happening.{halts_planned, happens}
use Rattle.geo_base.specs.Moments.{partly_written}
use Rattle.geo_base.specs.Planned.{Planned, planned}
use Rattle.geo_base.specs.Safe.{IsEntry}
use Rattle.geo_base.specs.Setup.{Setup}
use Rattle.geo_base.specs.World.{World, topic_at}
use Rattle.failover_laws.specs.UpdatedTo.{HasUpdatedTo, MayUpdateTo, writes_to_update}
use Rattle.failover_laws.specs.Since.{Since, StaysAcknowledged, is_at, leaves_behind}

-- the message at index i is given to a consumer of n
abbrev pub is_given : List ℕ → ℕ → Change → Bool
is_given n i (change.Given m k at) = bytes_eq m n && (k == i)
is_given n i c = false

abbrev pub gives : Setup → ℕ → ℕ → List ℕ → ℕ → Option Planned → Bool
gives s t y n i None = false
gives s t y n i (Some p) = is_at s t y p && list_any (is_given n i) p.plan.changes

-- whatever event comes next, it gives no message at or below j that is meant for a to a consumer of n at y
abbrev pub NotAgain : Setup → World → ℕ → ℕ → List ℕ → ℕ → ℕ → Type 0
NotAgain s w t y n a j = (e : Event) (i : ℕ) (f : Entry) → gives s t y n i (planned s w e) ≡ true → IsEntry (topic_at s w t y) i f → i ≤ j → meant_for a f ≡ false

-- of every setup and of every world, reached or not. What a cursor has stays in it (stays), also after each single durable write of a
-- further event (within); an update that is acted on puts into it all that it passes over (passed), and a stop inside that event,
-- after the write of the cursor, leaves it there (halted); it stays so (still); and what is so is not given again (again)
pub record LawAgain : Type 0 where
  pub stays : (s : Setup) (t y : ℕ) (n : List ℕ) (v w : World) → Since s t y n v w → StaysAcknowledged n (topic_at s v t y) (topic_at s w t y)
  pub within : (s : Setup) (t y : ℕ) (n : List ℕ) (v w : World) (k : ℕ) (e : Event) → Since s t y n v w → leaves_behind k s t y n (planned s w e) ≡ true
      → StaysAcknowledged n (topic_at s v t y) (topic_at s (partly_written s w k (planned s w e)) t y)
  pub passed : (s : Setup) (w : World) (t y a : ℕ) (n : List ℕ) (remote : List ClusterPosition) (j : ℕ) → MayUpdateTo s w t y a n remote j
      → HasUpdatedTo (topic_at s (happens s w (event.Read t y a)) t y) n a j
  pub halted : (s : Setup) (w : World) (t y a : ℕ) (n : List ℕ) (remote : List ClusterPosition) (j k : ℕ) → MayUpdateTo s w t y a n remote j
      → writes_to_update (sub_named (topic_at s w t y).subs n) ≤ k → HasUpdatedTo (topic_at s (halts_planned s w k (planned s w (event.Read t y a))) t y) n a j
  pub still : (s : Setup) (t y : ℕ) (n : List ℕ) (v w : World) (a j : ℕ) → Since s t y n v w → HasUpdatedTo (topic_at s v t y) n a j → HasUpdatedTo (topic_at s w t y) n a j
  pub again : (s : Setup) (w : World) (t y : ℕ) (n : List ℕ) (a j : ℕ) → HasUpdatedTo (topic_at s w t y) n a j → NotAgain s w t y n a j

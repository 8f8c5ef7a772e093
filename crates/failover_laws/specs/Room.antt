-- Room: in a script's run a topic has room for each subscription that the script names there, and for each that an update names (own: a
-- script may name no more of them than a topic takes, so the limit on a topic's subscriptions is never met).
use Rattle.std.specs.Prelude.{◌≡◌, ℕ, ◌<◌, true, List, length}
use Rattle.geo_base.specs.declared.marker.ClusterPosition.{ClusterPosition}
use Rattle.geo_base.specs.Scripted.{IsScripted}
use Rattle.geo_base.specs.Setup.{Setup, sub_name, sub_names}
use Rattle.geo_base.specs.Subscribing.{has_room}
use Rattle.geo_base.specs.World.{World, opening_world, topic_at}
use Rattle.world_laws.specs.Reached.{ReachedFrom}
use Rattle.failover_laws.specs.UpdatedTo.{ReadsUpdate}

-- the names of topic t's subscriptions are those of its clients' `sub` lines, by number; `reads` is of the update that y's replicator to a reads next
pub record HasRoom (s : Setup) (w : World) : Type 0 where
  pub named : (t y num : ℕ) → t < length s.topics → y < length s.clusters → num < length (sub_names s t) → has_room (topic_at s w t y) (sub_name s t num) ≡ true
  pub reads : (t y a : ℕ) (n : List ℕ) (told : List ClusterPosition) → ReadsUpdate s w t y a n told → has_room (topic_at s w t y) n ≡ true

-- in each world that a run comes to, between any two events
abbrev pub LawRoom : Type 0
LawRoom = (s : Setup) → IsScripted s → (w : World) → ReachedFrom s (opening_world s) w → HasRoom s w

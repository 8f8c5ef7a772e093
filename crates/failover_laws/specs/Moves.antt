-- Moving a consumer: what is claimed of the run of some steps, from what stands among them and in reports of their parts. In each claim
-- the steps are parted, v is where the first ones lead to, and w or z where further ones do (own: an operator reads a script and a report).
use Rattle.std.specs.Prelude.{◌≡◌, ℕ, ◌<◌, ◌≤◌, true, false, List, [], ◌∷◌, ◌++◌, length, take, Some}
use Rattle.std.specs.List.{list_any}
use Rattle.geo_base.specs.declared.entry.Entry.{Entry}
use Rattle.geo_base.specs.declared.event.Step.TheVariants as step
use Rattle.geo_base.specs.declared.event.Step.{Step}
use Rattle.geo_base.specs.declared.marker.ClusterPosition.{ClusterPosition}
use Rattle.geo_base.specs.declared.marker.Marker.TheVariants as marker
use Rattle.geo_base.specs.Broker.{backlog, sub_named}
use Rattle.geo_base.specs.Cursor.{has}
use Rattle.geo_base.specs.Entry.{goes_to, is_data}
use Rattle.geo_base.specs.Laws.{ArePair, MarkerAt, begun}
use Rattle.geo_base.specs.Moments.{Settling, world_between}
use Rattle.geo_base.specs.Run.{no_limits, run}
use Rattle.geo_base.specs.Safe.{IsEntry}
use Rattle.geo_base.specs.Setup.{Setup, sub_name, sub_names}
use Rattle.geo_base.specs.Subscription.{Subscription}
use Rattle.geo_base.specs.World.{World, topic_at}
use Rattle.failover_laws.specs.Covers.{CoveredNotAgain, Covers, IsAskedSince, NotOfThen}
use Rattle.failover_laws.specs.Drained.{IsDrained, OnlyFrom}
use Rattle.failover_laws.specs.Ended.{NoneIsMaking, asking_steps}
use Rattle.failover_laws.specs.Procedure.{HasTakenOver, offers}
use Rattle.failover_laws.specs.Room.{HasRoom}
use Rattle.failover_laws.specs.Run.{AllLeave}
use Rattle.failover_laws.specs.Since.{Since}
use Rattle.failover_laws.specs.Switched.{ActsBefore, HasAllOf, IsUnread}

-- where some steps lead to, and more of them, as far as a settling has come
abbrev pub led_on : Setup → List Step → List Step → Settling → World
led_on s before between at = world_between no_limits s (before ++ between) at

-- between any two events there is room for each subscription that the script names, and for the one of each update that is read next
abbrev pub AlwaysRoom : Setup → List Step → Type 0
AlwaysRoom s es = (k : ℕ) (at : Settling) → HasRoom s (world_between no_limits s (take k es) at)

-- Where a report says `backlog 0` of n at y, n has acknowledged every message that stands there; and while further steps neither delete
-- nor seek it there, no event gives one of these to a consumer of n at y
abbrev pub AllDrained : Setup → List Step → Type 0
AllDrained s es = (before between rest : List Step) (t y : ℕ) (n : List ℕ) (u : Subscription) (at : Settling) → es ≡ before ++ (between ++ rest)
    → let v = run s before in sub_named (topic_at s v t y).subs n ≡ Some u → backlog (topic_at s v t y) u ≡ 0
    → AllLeave no_limits s t y n (begun v) between
    → IsDrained (topic_at s v t y) n × OnlyFrom s (led_on s before between at) t y n (length (topic_at s v t y).entries)

-- A snapshot that was asked for since v reaches, at each other cluster, over all that stood there in v, whoever stored it first; and where
-- a subscription has passed over what it names there, none of that is given again
abbrev pub AllCovered : Setup → List Step → Type 0
AllCovered s es = (before between rest : List Step) (at : Settling) → es ≡ before ++ (between ++ rest)
    → let v = run s before in let w = led_on s before between at in Covers s v w × CoveredNotAgain s v w

-- While further steps neither delete nor seek n at y, an update of a for n that y's replicator to a had not acknowledged in v is acknowledged
-- in w only where n has passed over what it names
abbrev pub AllActedOn : Setup → List Step → Type 0
AllActedOn s es = (before between rest : List Step) (t y a k num : ℕ) (told : List ClusterPosition) (at : Settling) → es ≡ before ++ (between ++ rest)
    → let n = sub_name s t num in let v = run s before in let w = led_on s before between at in
    t < length s.topics → num < length (sub_names s t) → ArePair s y a → AllLeave no_limits s t y n (begun v) between
    → (m : MarkerAt (topic_at s w t a) k a (marker.Update n told)) → IsUnread s v t y a m.entry → ActsBefore s w t y a n told m.entry

-- After each step that settles no snapshot is in the making; and one that is asked for then, where a subscription is replicated, stands
-- after the next
pub record AllEnded (s : Setup) (es : List Step) : Type 0 where
  pub none : (before rest : List Step) → es ≡ before ++ step.Settle ∷ rest → NoneIsMaking s (run s (before ++ step.Settle ∷ []))
  pub stored : (before rest : List Step) (t x : ℕ) → let first = before ++ step.Settle ∷ [] in es ≡ first ++ (asking_steps t x ++ rest)
      → let v = run s first in let w = run s (first ++ asking_steps t x) in
      t < length s.topics → x < length s.clusters → list_any (λ (u : Subscription). u.replicated) (topic_at s v t x).subs ≡ true
      → (remote : List ClusterPosition) × IsAskedSince s v w t x remote

-- at y subscription n has all that stood there in v and is meant for x, and while it is neither deleted nor sought there none of it is
-- given again
abbrev pub StaysOver : Setup → World → World → ℕ → ℕ → ℕ → List ℕ → Type 0
StaysOver s v z t y x n = HasAllOf s v z t y x n × ((o : World) → Since s t y n z o → NotOfThen s v o t y n x)

-- Where an update of a for n came to stand since v, of a snapshot that a asked for since v, it was acted on everywhere after the next
-- step that settles, if nothing deletes or seeks n at y meanwhile
abbrev pub AllSwitchedOver : Setup → List Step → Type 0
AllSwitchedOver s es = (before after rest : List Step) (t y a k num : ℕ) (told : List ClusterPosition) → es ≡ before ++ after ++ step.Settle ∷ rest
    → let n = sub_name s t num in let v = run s before in let w = run s (before ++ after) in let z = run s (before ++ after ++ step.Settle ∷ []) in
    t < length s.topics → num < length (sub_names s t) → ArePair s a y → IsAskedSince s v w t a told
    → (m : MarkerAt (topic_at s w t a) k a (marker.Update n told)) → goes_to y m.entry.to ≡ true → length (topic_at s v t a).entries ≤ k
    → AllLeave no_limits s t y n (begun v) (after ++ step.Settle ∷ []) → StaysOver s v z t y a n

-- Where a snapshot of x stands that x asked for since v, and n, replicated at x, has acknowledged each message below it there and has not
-- passed it: n is offered there as often as the snapshot's index and once more, or oftener, and all settles, while nothing deletes or
-- seeks n at y
abbrev pub AllOffered : Setup → List Step → Type 0
AllOffered s es = (before after rest : List Step) (t x y num k : ℕ) (u : Subscription) (remote : List ClusterPosition)
    → es ≡ before ++ (after ++ offers k t x num) ++ step.Settle ∷ rest
    → let n = sub_name s t num in let v = run s before in let w = run s (before ++ after) in
    let z = run s (before ++ (after ++ offers k t x num) ++ step.Settle ∷ []) in
    t < length s.topics → num < length (sub_names s t) → ArePair s x y → (asked : IsAskedSince s v w t x remote)
    → sub_named (topic_at s w t x).subs n ≡ Some u → u.replicated ≡ true
    → ((i : ℕ) (e : Entry) → i < asked.index → IsEntry (topic_at s w t x) i e → is_data e.content ≡ true → has u.cursor i ≡ true)
    → has u.cursor asked.index ≡ false → asked.index < k → AllLeave no_limits s t y n (begun v) after → StaysOver s v z t y x n

-- the procedure: settle, ask for a snapshot, settle, offer so often, settle
abbrev pub move_steps : ℕ → ℕ → ℕ → ℕ → List Step
move_steps k t x num = step.Settle ∷ (asking_steps t x ++ offers k t x num ++ step.Settle ∷ [])

-- Each time that the procedure stands among the steps, for a subscription that is replicated at x and of which the report says
-- `backlog 0` there after its first line, with as many offers as x's topic has entries after its third, or more: each other cluster has
-- taken the subscription over
abbrev pub AllHandedOver : Setup → List Step → Type 0
AllHandedOver s es = (before rest : List Step) (t x y num k : ℕ) (u : Subscription) → es ≡ before ++ move_steps k t x num ++ rest
    → let n = sub_name s t num in let first = before ++ step.Settle ∷ [] in let v = run s first in
    t < length s.topics → num < length (sub_names s t) → ArePair s x y
    → sub_named (topic_at s v t x).subs n ≡ Some u → u.replicated ≡ true → backlog (topic_at s v t x) u ≡ 0
    → length (topic_at s (run s (first ++ asking_steps t x)) t x).entries ≤ k
    → HasTakenOver s v (run s (before ++ move_steps k t x num)) t y x n

-- all of it, of the run of these steps
pub record MayMove (s : Setup) (es : List Step) : Type 0 where
  pub room : AlwaysRoom s es
  pub drained : AllDrained s es
  pub covers : AllCovered s es
  pub acts : AllActedOn s es
  pub ended : AllEnded s es
  pub switched : AllSwitchedOver s es
  pub offered : AllOffered s es
  pub handed_over : AllHandedOver s es

-- The procedure of a planned move: settle, take a snapshot, settle, offer what is due, settle (own: PIP-33 takes snapshots by a timer, and
-- leaves to the operator when a region is ready to be left).
use Rattle.std.specs.Prelude.{◌≡◌, ℕ, ◌<◌, ◌≤◌, true, false, List, [], ◌∷◌, ◌++◌, length, replicate, Some}
use Rattle.geo_base.specs.declared.entry.Entry.{Entry}
use Rattle.geo_base.specs.declared.event.Event.TheVariants as event
use Rattle.geo_base.specs.declared.event.Step.TheVariants as step
use Rattle.geo_base.specs.declared.event.Step.{Step}
use Rattle.geo_base.specs.declared.marker.ClusterPosition.{ClusterPosition}
use Rattle.geo_base.specs.Broker.{backlog, sub_named}
use Rattle.geo_base.specs.Cursor.{has}
use Rattle.geo_base.specs.Entry.{is_data, meant_for}
use Rattle.geo_base.specs.Laws.{ArePair, IsShort, begun}
use Rattle.geo_base.specs.Run.{no_limits, run, run_from}
use Rattle.geo_base.specs.Safe.{IsEntry}
use Rattle.geo_base.specs.Scripted.{IsScripted}
use Rattle.geo_base.specs.Setup.{Setup, sub_name, sub_names}
use Rattle.geo_base.specs.Subscription.{Subscription}
use Rattle.geo_base.specs.World.{World, opening_world, topic_at}
use Rattle.world_laws.specs.AlikeWorlds.{AreAlike}
use Rattle.failover_laws.specs.Covers.{IsAskedSince, NotOfThen}
use Rattle.failover_laws.specs.Drained.{IsDrained}
use Rattle.failover_laws.specs.Ended.{asking_steps}
use Rattle.failover_laws.specs.Run.{AllLeave}
use Rattle.failover_laws.specs.Since.{Since}
use Rattle.failover_laws.specs.Switched.{HasAllOf}

-- so many offers of the subscription of this number
abbrev pub offers : ℕ → ℕ → ℕ → ℕ → List Step
offers k t x num = replicate k (step.Plain (event.Offer t x num))

-- what has come of it at y by the world z: n is there and has every message that stood there in v and is meant for x; no other message
-- stands there; so where all of them are meant for x the report says `backlog 0` of n; and none of them is given there while n is left
pub record HasTakenOver (s : Setup) (v z : World) (t y x : ℕ) (n : List ℕ) : Type 0 where
  pub have : HasAllOf s v z t y x n
  pub none_new : (i : ℕ) (e : Entry) → IsEntry (topic_at s z t y) i e → is_data e.content ≡ true → IsEntry (topic_at s v t y) i e
  pub report : ((i : ℕ) (e : Entry) → IsEntry (topic_at s z t y) i e → is_data e.content ≡ true → meant_for x e ≡ true)
      → (sub : Subscription) × (sub_named (topic_at s z t y).subs n ≡ Some sub) × (backlog (topic_at s z t y) sub ≡ 0)
  pub again : (w : World) → Since s t y n z w → NotOfThen s v w t y n x

-- where these steps lead from a world
abbrev pub led_to : Setup → World → List Step → World
led_to s w es = (run_from no_limits s (begun w) es).world

-- From a world, after any steps and a settling, let the subscription be replicated at x, and let it have acknowledged every message of its
-- topic there. A snapshot is asked for at x; all settles; the subscription is offered there as often as its topic has entries then, or
-- oftener; all settles. Then each other cluster y has taken it over
abbrev pub IsHandedOver : Setup → World → List Step → Type 0
IsHandedOver s from es = (t x y num k : ℕ) (u : Subscription)
    → let n = sub_name s t num in let first = es ++ step.Settle ∷ [] in let v = led_to s from first in
    let z = led_to s from (first ++ (asking_steps t x ++ offers k t x num) ++ step.Settle ∷ []) in
    t < length s.topics → num < length (sub_names s t) → ArePair s x y
    → sub_named (topic_at s v t x).subs n ≡ Some u → u.replicated ≡ true → IsDrained (topic_at s v t x) n
    → length (topic_at s (led_to s from (first ++ asking_steps t x)) t x).entries ≤ k → IsShort z → HasTakenOver s v z t y x n

-- of a run from the opening world, and of one that goes on from a world that is alike to where such a run came
pub record LawHandover : Type 0 where
  pub script : (s : Setup) → IsScripted s → (es : List Step) → IsHandedOver s (opening_world s) es
  pub resumed : (s : Setup) → IsScripted s → (v : World) (before es : List Step) → AreAlike (run s before) v → IsHandedOver s v es

-- With whatever between: v after some steps, and w after more. In w a snapshot of x stands that x asked for since v; n is replicated at x,
-- has acknowledged every message below the snapshot there, and has not passed the snapshot. It is offered as often as the snapshot's index
-- and once more, or oftener, and all settles, while nothing deletes or seeks n at y: so n has at y every message that stood there in v and
-- is meant for x, and none of these is given there again
abbrev pub IsOffered : Setup → World → List Step → List Step → Type 0
IsOffered s from before after = (t x y num k : ℕ) (u : Subscription) (remote : List ClusterPosition)
    → let n = sub_name s t num in let v = led_to s from before in let w = led_to s from (before ++ after) in
    let z = led_to s from (before ++ (after ++ offers k t x num) ++ step.Settle ∷ []) in
    t < length s.topics → num < length (sub_names s t) → ArePair s x y → (asked : IsAskedSince s v w t x remote)
    → sub_named (topic_at s w t x).subs n ≡ Some u → u.replicated ≡ true
    → ((i : ℕ) (e : Entry) → i < asked.index → IsEntry (topic_at s w t x) i e → is_data e.content ≡ true → has u.cursor i ≡ true)
    → has u.cursor asked.index ≡ false → asked.index < k → IsShort z → AllLeave no_limits s t y n (begun v) after
    → HasAllOf s v z t y x n × ((o : World) → Since s t y n z o → NotOfThen s v o t y n x)

-- of the same runs
pub record LawOffered : Type 0 where
  pub script : (s : Setup) → IsScripted s → (before after : List Step) → IsOffered s (opening_world s) before after
  pub resumed : (s : Setup) → IsScripted s → (v : World) (past before after : List Step) → AreAlike (run s past) v → IsOffered s v before after

-- In a run: what follows a step, and that nothing which an update passed over is given again after a step that acts on it.
use Rattle.std.specs.Prelude.{◌≡◌, ℕ, ◌+◌, ◌<◌, ◌≤◌, Bool, true, List, [], ◌∷◌, ◌++◌, Some, slice_get}
use Rattle.geo_base.specs.declared.event.Event.TheVariants as event
use Rattle.geo_base.specs.declared.event.Step.TheVariants as step
use Rattle.geo_base.specs.declared.event.Step.{Step}
use Rattle.geo_base.specs.declared.marker.ClusterPosition.{ClusterPosition}
use Rattle.geo_base.specs.Broker.{sub_named}
use Rattle.geo_base.specs.Laws.{IsShort, begun}
use Rattle.geo_base.specs.Moments.{InRound, Settling, settling_so_far}
use Rattle.geo_base.specs.Planned.{planned}
use Rattle.geo_base.specs.Run.{Limits, Ran, budget, no_limits, pairs, round_of, run, run_from, steps}
use Rattle.geo_base.specs.Scripted.{IsScripted}
use Rattle.geo_base.specs.Setup.{Setup}
use Rattle.geo_base.specs.Subscribing.{has_room}
use Rattle.geo_base.specs.Updating.{only_index, positions_for}
use Rattle.geo_base.specs.World.{World, opening_world, topic_at}
use Rattle.world_laws.specs.AlikeWorlds.{AreAlike, world_on}
use Rattle.failover_laws.specs.Again.{NotAgain}
use Rattle.failover_laws.specs.Behind.{IsOfSnapshot, OnlyBehind}
use Rattle.failover_laws.specs.UpdatedTo.{HasUpdatedTo, ReadsUpdate, writes_to_update}
use Rattle.failover_laws.specs.Since.{Since, leaves, leaves_behind}

-- a step leaves n at y: settling and a stop of everything do
abbrev pub step_leaves : Setup → ℕ → ℕ → List ℕ → World → Step → Bool
step_leaves s t y n w (step.Plain e) = leaves s t y n (planned s w e)
step_leaves s t y n w (step.Halt k e) = leaves_behind k s t y n (planned s w e)
step_leaves s t y n w step.Settle = true
step_leaves s t y n w step.Stop = true

-- so do all further steps of a run
abbrev pub AllLeave : Limits → Setup → ℕ → ℕ → List ℕ → Ran → List Step → Type 0
AllLeave l s t y n r [] = Unit {0}
AllLeave l s t y n r (e ∷ es) = (step_leaves s t y n r.world e ≡ true) × AllLeave l s t y n (steps l s r e) es

-- what further steps of a run lead to, settling included, is what follows without a deletion and a seek
abbrev pub LawFollows : Type 0
LawFollows = (l : Limits) (s : Setup) (t y : ℕ) (n : List ℕ) (r : Ran) (es : List Step) → AllLeave l s t y n r es → Since s t y n r.world (run_from l s r es).world

-- ---- after a step that acts on an update

-- the replicator of y to a reads next an update of a for n, which names these places, and of y's topic index j; and n is here, or there is room
-- for it. In a world of fewer than 2^62 events: the run of an accepted script has at most 2,000,000
pub record ReadsIndex (s : Setup) (w : World) (t y a : ℕ) (n : List ℕ) (remote : List ClusterPosition) (j : ℕ) : Type 0 where
  pub next : ReadsUpdate s w t y a n remote
  pub names : only_index (topic_at s w t y).ledgers (positions_for y remote) ≡ Some j
  pub room : has_room (topic_at s w t y) n ≡ true
  pub short : IsShort w

-- a step after r acts on such an update: it is the read; or a stop inside the read, after the write of the cursor; or a settling in
-- one of whose rounds it is read
pub data ActsOn (s : Setup) (r : Ran) (t y a : ℕ) (n : List ℕ) (remote : List ClusterPosition) (j : ℕ) : Step → Type 0 where
  Reads : ReadsIndex s r.world t y a n remote j → ActsOn s r t y a n remote j (step.Plain (event.Read t y a))
  Stops : (k : ℕ) → ReadsIndex s r.world t y a n remote j → writes_to_update (sub_named (topic_at s r.world t y).subs n) ≤ k
      → ActsOn s r t y a n remote j (step.Halt k (event.Read t y a))
  Settles : (rounds i : ℕ) → rounds < budget s r.world + 1 → slice_get (round_of (pairs s)) i ≡ Some (event.Read t y a)
      → ReadsIndex s (settling_so_far no_limits s r (InRound rounds i)).world t y a n remote j → ActsOn s r t y a n remote j step.Settle

-- what may come again to n at y, of the messages that a could have: none at or below index j, whatever event comes next; and of those
-- that a stored first such alone as it stored after the request of the snapshot whose update named these places
pub record MayComeAgain (s : Setup) (w : World) (t y a : ℕ) (n : List ℕ) (remote : List ClusterPosition) (j : ℕ) : Type 0 where
  pub passed : HasUpdatedTo (topic_at s w t y) n a j
  pub again : NotAgain s w t y n a j
  pub behind : IsShort w → (from : IsOfSnapshot s w t a y j remote) × OnlyBehind s w t y n a from.request

-- in the run of these steps from v: so it is after a step that acts on such an update, and steps that leave n at y, also inside settling
abbrev pub IsNeverAgain : Setup → World → List Step → Type 0
IsNeverAgain s v es = (before between rest : List Step) (e : Step) (t y a : ℕ) (n : List ℕ) (remote : List ClusterPosition) (j : ℕ) (at : Settling)
    → es ≡ before ++ e ∷ (between ++ rest)
    → ActsOn s (run_from no_limits s (begun v) before) t y a n remote j e
    → AllLeave no_limits s t y n (run_from no_limits s (begun v) (before ++ e ∷ [])) between
    → MayComeAgain s (world_on s v (before ++ e ∷ between) at) t y a n remote j

-- of a run from the opening world, and of one that goes on from a world that is alike to where such a run came
pub record LawNeverAgain : Type 0 where
  pub script : (s : Setup) → IsScripted s → (es : List Step) → IsNeverAgain s (opening_world s) es
  pub resumed : (s : Setup) → IsScripted s → (v : World) (before es : List Step) → AreAlike (run s before) v → IsNeverAgain s v es

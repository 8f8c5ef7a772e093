-- The headline: what is claimed of the messages of a script, at every moment of its run, after each step that settles, and after a
-- failover.
use Rattle.std.specs.Prelude.{◌≡◌, ◌⊎◌, ℕ, ◌+◌, ◌<◌, ◌≤◌, true, false, List, [], ◌∷◌, ◌++◌, length, take}
use Rattle.geo_base.specs.declared.entry.Entry.{Entry}
use Rattle.geo_base.specs.declared.event.Step.{Step}
use Rattle.geo_base.specs.declared.event.Step.TheVariants as step
use Rattle.geo_base.specs.Cursor.{has}
use Rattle.geo_base.specs.Entry.{is_data}
use Rattle.geo_base.specs.Laws.{AlwaysIn, ArePair, IsComplete, after_round, after_rounds}
use Rattle.geo_base.specs.Moments.{Settling, world_between}
use Rattle.geo_base.specs.Run.{budget, is_quiet, no_limits, run}
use Rattle.geo_base.specs.Safe.{AllOnce, IsEntry, IsSub, NothingForgotten, OnlySettled}
use Rattle.geo_base.specs.Settled.{IsSettled, SettledSoFar}
use Rattle.geo_base.specs.Setup.{Setup}
use Rattle.geo_base.specs.Subscription.{Subscription}
use Rattle.geo_base.specs.World.{World, opening_world, topic_at}
use Rattle.script_text.specs.Script.{Script}
use Rattle.run_report.specs.Again.{ComesNotAgain}

-- once and in order in the topic of every broker, always in the run of a script, also inside settling and after each single
-- durable write
abbrev pub IsAlwaysOnce : Script → Type 0
IsAlwaysOnce n = AlwaysIn n.setup n.steps (λ w settled. AllOnce w)

-- the message at an index stands in a subscription's backlog: the cursor has not acknowledged it
abbrev pub IsInBacklog : Subscription → ℕ → Type 0
IsInBacklog v i = has v.cursor i ≡ false

-- Every message that is stored anywhere is settled on each subscription there, or stands in its backlog: it was acknowledged by a
-- client somewhere, the subscription was created at Latest after it or sought past it, or it is still to be consumed.
abbrev pub NothingIsLost : Setup → World → SettledSoFar → Type 0
NothingIsLost s w settled = (t x i : ℕ) (v : Subscription) (e : Entry) → x < length s.clusters
    → IsSub (topic_at s w t x) v → IsEntry (topic_at s w t x) i e → is_data e.content ≡ true
    → IsSettled settled t v.name e ⊎ IsInBacklog v i

-- each index in a cursor is that of a marker or of a settled message; so nothing is lost
pub record IsSafe (s : Setup) (w : World) (settled : SettledSoFar) : Type 0 where
  pub acknowledged : OnlySettled s w settled
  pub messages : NothingIsLost s w settled

-- always in the run of a script
abbrev pub IsAlwaysSafe : Script → Type 0
IsAlwaysSafe n = AlwaysIn n.setup n.steps (λ w settled. IsSafe n.setup w settled)

-- Between any two of its events, also inside settling, nothing that is due on a subscription is forgotten: what stands in its backlog
-- is out with a consumer that is attached, due again or still to be read, and what is acknowledged is neither out nor due again. (In
-- the midst of an event it need not be so, since memory changes after the durable writes.)
abbrev pub IsAlwaysKept : Script → Type 0
IsAlwaysKept n = (k : ℕ) (at : Settling) → NothingForgotten (world_between no_limits n.setup (take k n.steps) at)

-- all has come over: for every topic and every two clusters, the replicator of the one to the other is open and has acknowledged every
-- index of its topic, and the other has, in order, all that the one stored first and has for it
abbrev pub AllCameOver : Setup → World → Type 0
AllCameOver s w = (t x y : ℕ) → t < length s.topics → ArePair s x y → IsComplete s w t x y

-- so it is after each step of a script that settles
abbrev pub IsAlwaysSettled : Script → Type 0
IsAlwaysSettled n = (es fs : List Step) → n.steps ≡ es ++ step.Settle ∷ fs → AllCameOver n.setup (run n.setup (es ++ step.Settle ∷ []))

-- Settling after some steps ends in a world where no event of a round does anything, and by then its rounds are no more than the budget;
-- each of them before that does an event that is not idle.
pub record SettlesInRounds (s : Setup) (es : List Step) : Type 0 where
  pub quiet : is_quiet s (run s (es ++ step.Settle ∷ [])) ≡ true
  pub rounds : (run s (es ++ step.Settle ∷ [])).rounds ≤ (run s es).rounds + budget s (run s es)
  pub busy : (k : ℕ) → let w = after_rounds k s (run s es) in is_quiet s w ≡ false → w.events < (after_round s w).events

-- so it is at each step of a script that settles
abbrev pub IsAlwaysInTime : Script → Type 0
IsAlwaysInTime n = (es fs : List Step) → n.steps ≡ es ++ step.Settle ∷ fs → SettlesInRounds n.setup es

-- nothing that an update let a subscription pass over comes again in the run of a script
abbrev pub NothingComesAgain : Script → Type 0
NothingComesAgain n = ComesNotAgain n.setup (opening_world n.setup) n.steps

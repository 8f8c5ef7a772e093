-- What is told over a run, of each subscription: an event tells some messages, and so do the first of its durable writes where it stops in
-- the midst of them. What is settled is told so, and so is whatever else is told from what came. What is told only grows.
use Rattle.std.specs.Prelude.{ℕ, List, [], ◌∷◌, ◌++◌, if◌then◌else◌, is_some, None, take}
use Rattle.geo_base.specs.declared.entry.Ident.{Ident}
use Rattle.geo_base.specs.declared.event.Event.{Event}
use Rattle.geo_base.specs.declared.event.Step.TheVariants as step
use Rattle.geo_base.specs.declared.event.Step.{Step}
use Rattle.geo_base.specs.Moments.{Moment, Settling, partly_written, world_at, world_between}
use Rattle.geo_base.specs.Planned.{planned}
use Rattle.geo_base.specs.Run.{Limits, Ran, no_limits, run, run_under, steps}
use Rattle.geo_base.specs.Settled.{SettledSoFar, settled_behind, settled_event}
use Rattle.geo_base.specs.Setup.{Setup}
use Rattle.geo_base.specs.World.{World, opening_world}
use Rattle.world_laws.specs.AlikeWorlds.{world_on}

-- what an event tells on a subscription of a topic, in the world before it; and what its first k durable writes tell
pub record Telling : Type 0 where
  pub event : World → ℕ → List ℕ → Event → List Ident
  pub behind : ℕ → World → ℕ → List ℕ → Event → List Ident

-- what is settled is told so
abbrev pub settling : Setup → Telling
settling s = record { event = settled_event s; behind = λ k. settled_behind k s }

abbrev pub told_step : Telling → World → ℕ → List ℕ → Step → List Ident
told_step tells w t n (step.Plain e) = tells.event w t n e
told_step tells w t n (step.Halt k e) = tells.behind k w t n e
told_step tells w t n step.Settle = []
told_step tells w t n step.Stop = []

-- a step that would pass a limit is not done, and tells nothing
abbrev pub told_from : Telling → Limits → Setup → Ran → List Step → ℕ → List ℕ → List Ident
told_from tells l s r [] t n = []
told_from tells l s r (e ∷ es) t n =
    let r' = steps l s r e in (if is_some r'.ended then [] else told_step tells r.world t n e) ++ told_from tells l s r' es t n

-- over a run under limits, and up to a moment
abbrev pub told_under : Telling → Limits → Setup → List Step → SettledSoFar
told_under tells l s es t n = told_from tells l s (record { world = opening_world s; ended = None }) es t n

abbrev pub told_at : Telling → Limits → Setup → Moment → SettledSoFar
told_at tells l s m t n = told_under tells l s m.steps t n ++ tells.behind m.writes (world_between l s m.steps m.settling) t n m.event

-- always, with what is told by then: at the end of every run, also of one that a limit ends, between any two events, also of settling,
-- and after each single durable write
pub record AlwaysTold (tells : Telling) (s : Setup) (Holds : World → SettledSoFar → Type 0) : Type 0 where
  pub run : (es : List Step) → Holds (run s es) (told_under tells no_limits s es)
  pub limited : (l : Limits) (es : List Step) → Holds (run_under l s es).world (told_under tells l s es)
  pub between : (l : Limits) (es : List Step) (at : Settling) → Holds (world_between l s es at) (told_under tells l s es)
  pub moment : (l : Limits) (m : Moment) → Holds (world_at l s m) (told_at tells l s m)

-- the same without the moments in the midst of an event's writes
pub record BetweenTold (tells : Telling) (s : Setup) (Holds : World → SettledSoFar → Type 0) : Type 0 where
  pub run : (es : List Step) → Holds (run s es) (told_under tells no_limits s es)
  pub limited : (l : Limits) (es : List Step) → Holds (run_under l s es).world (told_under tells l s es)
  pub between : (l : Limits) (es : List Step) (at : Settling) → Holds (world_between l s es at) (told_under tells l s es)

-- always, in one run, as AlwaysIn is of what is settled
pub record AlwaysToldIn (tells : Telling) (s : Setup) (es : List Step) (Holds : World → SettledSoFar → Type 0) : Type 0 where
  pub between : (k : ℕ) (at : Settling) → Holds (world_between no_limits s (take k es) at) (told_under tells no_limits s (take k es))
  pub moment : (k : ℕ) (at : Settling) (e : Event) (writes : ℕ)
      → let m : Moment = record { steps = take k es; settling = at; event = e; writes = writes } in Holds (world_at no_limits s m) (told_at tells no_limits s m)

-- always, in the run of es from v, which came after other steps, as AlwaysOn is of what is settled; these other steps told too
pub record AlwaysToldOn (tells : Telling) (s : Setup) (v : World) (before es : List Step) (Holds : World → SettledSoFar → Type 0) : Type 0 where
  pub between : (k : ℕ) (at : Settling) → Holds (world_on s v (take k es) at) (told_under tells no_limits s (before ++ take k es))
  pub moment : (k : ℕ) (at : Settling) (e : Event) (writes : ℕ)
      → let m : Moment = record { steps = before ++ take k es; settling = at; event = e; writes = writes } in
      let w = world_on s v (take k es) at in Holds (partly_written s w writes (planned s w e)) (told_at tells no_limits s m)

-- between any two events of one run, and of a run that goes on
pub record BetweenToldIn (tells : Telling) (s : Setup) (es : List Step) (Holds : World → SettledSoFar → Type 0) : Type 0 where
  pub between : (k : ℕ) (at : Settling) → Holds (world_between no_limits s (take k es) at) (told_under tells no_limits s (take k es))

pub record BetweenToldOn (tells : Telling) (s : Setup) (v : World) (before es : List Step) (Holds : World → SettledSoFar → Type 0) : Type 0 where
  pub between : (k : ℕ) (at : Settling) → Holds (world_on s v (take k es) at) (told_under tells no_limits s (before ++ take k es))

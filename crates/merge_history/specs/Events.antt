-- The events of logs as the steps of a script: all, whatever configuration a log keeps, that the script may schedule (own).
use Rattle.std.specs.Prelude.{◌≡◌, ◌==◌, ◌&&◌, ℕ, Bool, true, false, not, if◌then◌else◌, List, [], ◌∷◌, map, ⊤}
use Rattle.geo_base.specs.declared.event.Event.{Event}
use Rattle.geo_base.specs.declared.event.Event.TheVariants as event
use Rattle.geo_base.specs.declared.event.Step.{Step}
use Rattle.geo_base.specs.declared.event.Step.TheVariants as step
use Rattle.geo_base.specs.History.{RecordedEvent}
use Rattle.geo_base.specs.Merge.{history_of, merge_of, steps_of}
use Rattle.geo_base.specs.Planned.{in_range}
use Rattle.geo_base.specs.Setup.{Setup}
use Rattle.script_text.specs.Script.{Script}
use Rattle.merge_history.specs.Logs.{AreKept, LogView}
use Rattle.merge_history.specs.Ends.{AreStood, layout_of}
use Rattle.merge_history.specs.Kept.{Kept}
use Rattle.merge_history.specs.Turns.{AlikeAll, Rise}

-- ---- what a script may schedule

-- an event of a link between brokers
abbrev pub IsOfLink : Event → Type 0
IsOfLink (event.Reset t x y) = ⊤
IsOfLink (event.Read t x y) = ⊤
IsOfLink (event.Take t x y f) = ⊤
IsOfLink (event.Receipt t x y f) = ⊤
IsOfLink e = ⊥

-- a link has two ends
abbrev pub are_apart : Event → Bool
are_apart (event.Reset t x y) = not (y == x)
are_apart (event.Read t x y) = not (y == x)
are_apart (event.Take t x y f) = not (y == x)
are_apart (event.Receipt t x y f) = not (y == x)
are_apart e = true

-- an event with all its numbers in range
abbrev pub may_happen : Setup → Event → Bool
may_happen s e = in_range s e && are_apart e

abbrev pub may_schedule : Setup → Step → Bool
may_schedule s (step.Plain e) = may_happen s e
may_schedule s k = false

abbrev pub MaySchedule : Setup → Step → Type 0
MaySchedule s e = may_schedule s e ≡ true

-- those of some steps, in their order
abbrev pub allowed : Setup → List Step → List Step
allowed s [] = []
allowed s (e ∷ es) = if may_schedule s e then e ∷ allowed s es else allowed s es

-- ---- the events of logs

abbrev pub history_in : LogView → List Kept
history_in b = b.history

abbrev pub histories_of : List LogView → List (List Kept)
histories_of bs = map history_in bs

-- Of all logs: the steps of the merge of any histories of values with the same events, and stamps that rise, as far as a script may
-- schedule them.
abbrev pub AreMergedEvents : Setup → List LogView → List Step → Type 0
AreMergedEvents s bs es = (said : List (List RecordedEvent)) → AlikeAll (histories_of bs) said → ((n : ℕ) → Rise (history_of said n))
    → es ≡ allowed s (steps_of (merge_of said))

-- Of logs none of which is strange: those of their merge, all of them.
pub record AreOwnEvents (c : Script) (bs : List LogView) (es : List Step) : Type 0 where
  pub kept : List (List Kept)
  pub counts : AreKept c bs kept
  pub said : List (List RecordedEvent)
  pub stands : AreStood c.setup (layout_of c.setup) kept said
  pub steps : es ≡ steps_of (merge_of said)

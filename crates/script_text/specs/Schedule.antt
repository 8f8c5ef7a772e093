-- A schedule that stands by itself, after the declarations of a script.
use Rattle.std.specs.Prelude.{◌≡◌, ℕ, ◌+◌, true, false, if◌then◌else◌, List, [], ◌∷◌, ◌++◌, Result, Ok, Err}
use Rattle.geo_base.specs.declared.event.Step.{Step}
use Rattle.geo_base.specs.Setup.{Setup}
use Rattle.script_rows.specs.declared.fault.Rule.{Rule}
use Rattle.script_rows.specs.declared.progress.Progress.{Progress}
use Rattle.script_rows.specs.declared.progress.Stage.TheVariants as stage
use Rattle.script_rows.specs.Known.{step_in}
use Rattle.script_rows.specs.Names.{Names}
use Rattle.script_rows.specs.Written.{step_line}
use Rattle.script_text.specs.Adding.{first_of, with_step}
use Rattle.script_text.specs.Lines.{TextLine, is_skipped, lines_of}
use Rattle.script_text.specs.Naming.{names_of}
use Rattle.script_text.specs.Rules.{at_line, lowest, said_by, unless_broken}
use Rattle.script_text.specs.Script.{Fault, Script, Steps, no_steps}

-- a schedule stands as if the declarations and one event stood before it, so that each line but a step's breaks the rule on
-- the order of lines, if no lower one
abbrev pub at_events : Progress
at_events = record { begun = true; last = stage.Event; has_ledger = false; has_chance = false }

-- the steps with that of line number `at`, or the lowest rule that it breaks
abbrev pub scheduled : ℕ → Progress → Names → Steps → TextLine → Result Steps Rule
scheduled at p n steps l =
    if is_skipped l.bytes then Ok steps else unless_broken (lowest p n l) (with_step at steps (step_in n (said_by l)))

-- the steps so far with those of the lines from number k on
abbrev pub schedule_from : ℕ → Names → Steps → List TextLine → Result (List Step) Fault
schedule_from k n steps [] = Ok steps.list
schedule_from k n steps (l ∷ ls) = at_line k (scheduled k at_events n steps l) (λ more. schedule_from (k + 1) n more ls)

-- what the bytes of a schedule say, or its first offending line with the lowest rule that it breaks
abbrev pub schedule_of : Setup → List ℕ → Result (List Step) Fault
schedule_of s bytes = schedule_from 1 (names_of s) no_steps (lines_of bytes)

-- ---- a schedule that is written: a line for each step
abbrev pub schedule_text : Names → List Step → List ℕ
schedule_text n [] = []
schedule_text n (s ∷ ss) = step_line n s ++ 10 ∷ schedule_text n ss

-- ---- a schedule after a script and one more step, whose line has number `at`: the script with that step and its steps, or
-- its first offending line, counted on from there
abbrev pub followed : Script → ℕ → Step → Result (List Step) Fault → Result Script Fault
followed s at e (Ok more) = Ok (record s { steps = s.steps ++ e ∷ more; first_event = first_of s.first_event at })
followed s at e (Err f) = Err (record { line = at + f.line; rule = f.rule })

-- a script with the declarations of another, and these steps
pub record IsWithSteps (s : Script) (es : List Step) (t : Script) : Type 0 where
  pub setup : t.setup ≡ s.setup
  pub chance : t.chance ≡ s.chance
  pub steps : t.steps ≡ es

-- A run that goes on from its state file is one run.
use Rattle.std.specs.Prelude.{◌≡◌, ℕ, ◌+◌, ◌≤◌, List, [], ◌∷◌, ◌++◌, length, take, None, Ok, Err, codes}
use Rattle.geo_base.specs.declared.event.Step.{Step}
use Rattle.geo_base.specs.declared.event.Step.TheVariants as step
use Rattle.geo_base.specs.Moments.{Settling, world_between}
use Rattle.geo_base.specs.Run.{no_limits}
use Rattle.kept_laws.specs.Saved.{world_from}
use Rattle.script_text.specs.Lines.{lines_of}
use Rattle.script_text.specs.Rules.{script_of}
use Rattle.script_text.specs.Scenario.{IsScenario}
use Rattle.script_text.specs.Schedule.{schedule_of}
use Rattle.script_text.specs.Script.{Fault, Script}
use Rattle.world_laws.specs.AlikeWorlds.{AreAlike, world_on}
use Rattle.geo_top.specs.declared.top.answer.Answer.{Answer}
use Rattle.geo_top.specs.declared.top.command.GoingOn.TheVariants as going_on
use Rattle.geo_top.specs.declared.top.command.Shown.TheVariants as shown
use Rattle.geo_top.specs.declared.top.status.Status.{Status}
use Rattle.geo_top.specs.declared.top.status.Status.TheVariants as status
use Rattle.geo_top.specs.Outputs.{IsAnswerToFile, answer_to, answer_to_resumed, answer_to_run, refused}
use Rattle.run_report.specs.Reports.{exceeded_limit}
use Rattle.run_report.specs.States.{file_of, state_of_run, stopped}

-- a script whose run and a stop after it pass no limit, so that its state can be saved
pub record IsKept (n : Script) : Type 0 where
  pub scenario : IsScenario n
  pub within : exceeded_limit (stopped n) ≡ None

-- what `save` wrote of it, with lines after that, which are no more bytes than the program reads
pub record IsSavedWith (n : Script) (lines input : List ℕ) : Type 0 where
  pub kept : IsKept n
  pub is : input ≡ file_of n ++ lines
  pub read : length input ≤ 67108864

-- ---- the same worlds
-- Between any two events of the run that goes on from the saved state, also inside settling, its world is alike to that of the one run:
-- brokers, clients, counts and what waits on each link are the same, so that each event does the same in both.
abbrev pub GoesOnAlike : Script → List Step → Type 0
GoesOnAlike n es = (k : ℕ) (at : Settling)
    → AreAlike (world_between no_limits n.setup ((stopped n).steps ++ take k es) at) (world_on n.setup (world_from (state_of_run n)) (take k es) at)

-- ---- the same answer
-- the script with a stop after its steps, and more after that
abbrev pub IsGoneOn : Script → List Step → Script → Type 0
IsGoneOn n es m = (m.setup ≡ n.setup) × (m.steps ≡ n.steps ++ step.Stop ∷ es)

-- what `resume` answers to steps after the state of a run, `run` answers to the script with a stop and these steps after its own
abbrev pub AnswersAlike : Type 0
AnswersAlike = (n m : Script) (es : List Step) → IsKept n → IsGoneOn n es m
    → answer_to_resumed (state_of_run n) (Ok es) ≡ answer_to_run shown.Report m (exceeded_limit m)

-- the lines of a script, a line that stops everything, and these bytes
abbrev pub text_on : List ℕ → List ℕ → List ℕ
text_on text lines = text ++ 10 ∷ (codes "stop" ++ 10 ∷ lines)

-- the lines that stand before the further ones: those of the script, and the stop
abbrev pub lines_before : List ℕ → ℕ
lines_before text = length (lines_of (text ++ 10 ∷ [])) + 1

-- which the text with these lines is; and where one of them breaks a rule there, it breaks it after the state too
pub record IsTextOn (text lines : List ℕ) (n : Script) : Type 0 where
  pub accepted : (es : List Step) → schedule_of n.setup lines ≡ Ok es
      → (m : Script) × (script_of (text_on text lines) ≡ Ok m) × IsGoneOn n es m
  pub refused : (f : Fault) → schedule_of n.setup lines ≡ Err f
      → script_of (text_on text lines) ≡ Err (record { line = lines_before text + f.line; rule = f.rule })

abbrev pub TextsAlike : Type 0
TextsAlike = (text lines : List ℕ) (n : Script) → IsKept n → script_of (text ++ 10 ∷ []) ≡ Ok n → IsTextOn text lines n

-- so what `resume` answers to the file that `save` wrote, with lines after it, `run` answers to that text
abbrev pub FilesAlike : Type 0
FilesAlike = (text lines input : List ℕ) (n : Script) (es : List Step) (a : Answer) → script_of (text ++ 10 ∷ []) ≡ Ok n
    → IsSavedWith n lines input → schedule_of n.setup lines ≡ Ok es → IsAnswerToFile going_on.Report input a → a ≡ answer_to shown.Report (script_of (text_on text lines))

-- an answer to lines that stand after so many others: a line that is refused has a greater number there
abbrev pub counted_on : ℕ → Answer → Status → Answer
counted_on before a (status.BadScript line rule) = refused (status.BadScript (before + line) rule)
counted_on before a s = a

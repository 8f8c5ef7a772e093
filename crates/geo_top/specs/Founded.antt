-- How an answer is founded.
use Rattle.std.specs.Prelude.{◌≡◌, ⊤, ℕ, List, Option, Some, None, IfOk, Result}
use Rattle.script_text.specs.Rules.{script_of}
use Rattle.script_text.specs.Scenario.{IsScenario}
use Rattle.script_text.specs.Script.{Fault, Script}
use Rattle.geo_top.specs.declared.top.answer.Answer.{Answer}
use Rattle.geo_top.specs.declared.top.command.Command.{Command}
use Rattle.geo_top.specs.declared.top.command.Command.TheVariants as command
use Rattle.geo_top.specs.declared.top.command.Reading.{Reading}
use Rattle.geo_top.specs.declared.top.command.Reading.TheVariants as reading
use Rattle.geo_top.specs.declared.top.status.Status.{Status}
use Rattle.geo_top.specs.declared.top.status.Status.TheVariants as status
use Rattle.geo_top.specs.Answered.{IsAnswered}
use Rattle.geo_top.specs.Outputs.{IsAnswerFor}

-- where an input is a script, it is one that a script can be
abbrev pub IsAccepted : Result Script Fault → Type 0
IsAccepted r = IfOk r IsScenario

-- what is known of the bytes of an input that was answered to
abbrev pub IsKnown : Reading → List ℕ → Type 0
IsKnown (reading.Script v) input = IsAccepted (script_of input)
IsKnown reading.Save input = IsAccepted (script_of input)
IsKnown (reading.Resume v) input = ⊤
IsKnown (reading.Audit k) input = ⊤
IsKnown reading.Steps input = IsAccepted (script_of input)
IsKnown (reading.Lost name names) input = IsAccepted (script_of input)
IsKnown (reading.LostOn name) input = ⊤
IsKnown reading.Observe input = ⊤

abbrev pub IsKnownFor : Option Command → List ℕ → Status → Type 0
IsKnownFor None input s = ⊤
IsKnownFor (Some (command.Reads r)) input s = s ≡ status.Ok → IsKnown r input
IsKnownFor (Some (command.Big number)) input s = ⊤
IsKnownFor (Some (command.BigSteps number)) input s = ⊤

-- on the words, the input and what made it
pub record IsFounded (c : Option Command) (input : List ℕ) (a : Answer) : Type 0 where
  pub due : IsAnswerFor c input a
  pub known : IsKnownFor c input a.status

-- an answer that is written, whole or in part
abbrev pub IsSent : Status → Type 0
IsSent status.WriteFault = ⊥
IsSent status.OutOfMemory = ⊥
IsSent s = ⊤

-- all that is promised of an answer that is not written yet, whatever becomes of the sink
pub record IsReady (c : Option Command) (input : List ℕ) (before now : ℕ) (a : Answer) : Type 0 where
  pub sent : IsSent a.status
  pub answered : (k l : ℕ) → IsAnswered c input a.bytes (record { source = before; source_now = now; sink = k; sink_now = l }) a.status

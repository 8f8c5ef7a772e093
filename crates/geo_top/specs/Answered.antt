-- What is promised of the program's answer, over the bytes of an input and those of the output: once, for the call over bytes and for
-- the call over a source and a sink.
use Rattle.std.specs.Prelude.{◌≡◌, ◌≢◌, ◌⊎◌, ℕ, ◌<◌, ⊤, true, List, [], ◌∷◌, ◌++◌, length, drop, take, Option, Some, None, IfSome, IsOkAnd, Ok}
use Rattle.audit.specs.AuditOf.{audit_of}
use Rattle.geo_base.specs.declared.event.Step.{Step}
use Rattle.geo_base.specs.Run.{all_limits, is_quiet, run, run_under}
use Rattle.geo_io.specs.Faults.{Rose, Stood}
use Rattle.script_generator.specs.Generated.{generated_run}
use Rattle.script_text.specs.Rules.{script_of}
use Rattle.script_text.specs.Scenario.{IsScenario}
use Rattle.script_text.specs.Schedule.{schedule_of}
use Rattle.script_text.specs.Script.{Script}
use Rattle.state_file.specs.Loading.{IsLoaded, bad_state, version}
use Rattle.state_file.specs.State.{SavedState}
use Rattle.script_generator.specs.Starts.{declarations_in, trace_in}
use Rattle.geo_top.specs.declared.top.answer.Answer.{Answer}
use Rattle.geo_top.specs.declared.top.command.Command.{Command}
use Rattle.geo_top.specs.declared.top.command.Command.TheVariants as command
use Rattle.geo_top.specs.declared.top.command.Shown.{Shown}
use Rattle.geo_top.specs.declared.top.command.Shown.TheVariants as shown
use Rattle.geo_top.specs.declared.top.status.Status.{Status}
use Rattle.geo_top.specs.declared.top.status.Status.TheVariants as status
use Rattle.geo_top.specs.Audits.{IsAuditedSafe, audit_line}
use Rattle.geo_top.specs.Causes.{HasBadLine, HasBadObservation, HasBadState, HasFindings, HasRefusedLine, IsExceeded}
use Rattle.run_report.specs.Claims.{HoldsOf, HoldsWithin}
use Rattle.geo_top.specs.Commands.{Reads, audit_command, command_showing, resume_command, run_command, save_command, steps_command, steps_on_command}
use Rattle.geo_top.specs.OneRun.{GoesOnAlike, IsKept, IsSavedWith, counted_on, lines_before, text_on}
use Rattle.geo_top.specs.Outputs.{IsAnswerFor, answer_to, answer_to_audit, answer_to_big, big_steps, output_of, summary_of}
use Rattle.run_report.specs.Reports.{report_of, resumed_limit, resumed_report}
use Rattle.run_report.specs.States.{file_of, gone_on, stopped}
use Rattle.geo_top.specs.Statuses.{IsDue, IsMade, refusal_line}
use Rattle.geo_top.specs.Stepped.{AreAllSaid, AreAllSaidOn, AreAllWritten, steps_of, steps_on}
use Rattle.geo_top.specs.Judged.{IsJudged}
use Rattle.geo_top.specs.ToldLoss.{IsToldLoss}
use Rattle.geo_top.specs.Traced.{traced_of}
use Rattle.geo_top.specs.Wholly.{IsJudgedWhole}

-- how often source and sink had failed before a call, and by its end
pub record FaultCounts : Type 0 where
  pub source : ℕ
  pub source_now : ℕ
  pub sink : ℕ
  pub sink_now : ℕ

-- of a call that has neither
abbrev pub no_faults : FaultCounts
no_faults = record { source = 0; source_now = 0; sink = 0; sink_now = 0 }

-- ---- what goes out
-- a beginning of these bytes
abbrev pub IsPartOf : List ℕ → List ℕ → Type 0
IsPartOf bytes output = (n : ℕ) × (output ≡ take n bytes)

-- What went out: the whole of an answer, nothing for want of memory, and where the sink failed a beginning: of the answer that is due
-- where the source did not fail, and of the line of a read fault only where the words have an input and the source failed too.
abbrev pub WentOut : Option Command → Answer → FaultCounts → Status → List ℕ → Type 0
WentOut c due f status.ReadFault output = output ≡ refusal_line status.ReadFault
WentOut c due f status.OutOfMemory output = output ≡ []
WentOut c due f status.WriteFault output =
    (Stood f.source f.source_now × IsPartOf due.bytes output) ⊎ (Reads c × Rose f.source f.source_now × IsPartOf (refusal_line status.ReadFault) output)
WentOut c due f s output = output ≡ due.bytes

-- a refusal writes its line
abbrev pub WritesLine : Status → List ℕ → Type 0
WritesLine status.Ok output = ⊤
WritesLine status.WriteFault output = ⊤
WritesLine status.Found output = ⊤
WritesLine s output = output ≡ refusal_line s

-- ---- why a call ends so
-- Each refusal comes only for its cause, and Ok only for a command. Limit 1 is on the bytes that are read, limit 2 on events and idle
-- events together, limit 3 on the bytes of all frames. A fault of the source or the sink is never told as want of memory.
abbrev pub HasCause : Option Command → List ℕ → FaultCounts → Status → Type 0
HasCause c input f status.Ok = c ≢ None
HasCause c input f status.Usage = c ≡ None
HasCause c input f (status.BadScript line rule) = HasBadLine c input (record { line = line; rule = rule })
HasCause c input f status.ReadFault = Reads c × Rose f.source f.source_now
HasCause c input f status.WriteFault = Rose f.sink f.sink_now
HasCause c input f (status.TooLarge limit) = IsExceeded c input limit
HasCause c input f status.OutOfMemory = Stood f.source f.source_now × Stood f.sink f.sink_now
HasCause c input f (status.BadState offset rule) = HasBadState c input (bad_state offset rule)
HasCause c input f (status.StateVersion number) = HasBadState c input (version number)
HasCause c input f (status.BadObservation line rule) = HasBadObservation c input (record { line = line; rule = rule })
HasCause c input f status.Found = HasFindings c input
HasCause c input f (status.AuditRefused event rule) = HasRefusedLine c input (record { event = event; rule = rule })

-- ---- what holds with Ok
-- of the script that the input is, for each command that shows something of a script's run
abbrev pub OfScript : Option Command → List ℕ → Status → (Shown → Script → Type 0) → Type 0
OfScript c input s Holds = (v : Shown) → s ≡ status.Ok → c ≡ Some (command_showing v) → IsOkAnd (script_of input) (Holds v)

-- of the script that was saved and the steps after it, for `resume`
abbrev pub OfSaved : Option Command → List ℕ → Status → (Script → List Step → Type 0) → Type 0
OfSaved c input s Holds =
    (n : Script) (lines : List ℕ) → s ≡ status.Ok → c ≡ Some resume_command → IsSavedWith n lines input → IsOkAnd (schedule_of n.setup lines) (Holds n)

pub record IsAnswered (c : Option Command) (input output : List ℕ) (f : FaultCounts) (s : Status) : Type 0 where
  -- With Ok, `run`, `compact`, `tiered` and `trace` write what they show of the written machine's run over the script that the input is:
  -- its report, the compacted views of its topics, its topics with closed ledgers in a tier, its events. The run passes no limit, and
  -- all that is claimed of a run holds of it.
  pub shows : OfScript c input s (λ v n. (output ≡ output_of v n) × HoldsWithin n)
  -- `save` writes the state file of that run with a stop of everything after it, and so it is of this run;
  pub saved : s ≡ status.Ok → c ≡ Some save_command → IsOkAnd (script_of input) (λ n. IsKept n × (output ≡ file_of n) × HoldsOf (stopped n))
  -- `resume` the report of the run that goes on from the state that the input begins with, over the schedule after its bytes, and that
  -- run passes no limit;
  pub resumed : s ≡ status.Ok → c ≡ Some resume_command → (g : SavedState) × (used : ℕ) × IsLoaded input (Ok (g, used))
      × IsOkAnd (schedule_of g.scenario.setup (drop used input)) (λ es. (output ≡ resumed_report g es) × (resumed_limit g es ≡ None))
  -- and where that state is what `save` wrote of a script, it is the report of one run, that of the script with a stop of everything
  -- and the schedule after its steps, with all that is claimed of it; the run that goes on comes to the same worlds;
  pub one_run : OfSaved c input s (λ n es. (output ≡ report_of (gone_on n es)) × HoldsWithin (gone_on n es) × GoesOnAlike n es)
  -- so what `resume` answers to such a file with lines after it is what `run` answers to the script's text with a stop and these
  -- lines after it (where that is not too long to be read), refusals too, but for the number of the line that is refused.
  pub one_answer : (text lines : List ℕ) (n : Script) → IsMade s → c ≡ Some resume_command → script_of (text ++ 10 ∷ []) ≡ Ok n → IsSavedWith n lines input
      → counted_on (lines_before text) (record { status = s; bytes = output }) s ≡ answer_to shown.Report (script_of (text_on text lines))
  -- `audit` tells how many events the trace tells that stands after the declarations: no line of it breaks a rule, and after each of
  -- them what the lines so far make of the topics and the subscriptions is safe, with each message once, per producer in order;
  pub audited : s ≡ status.Ok → c ≡ Some audit_command
      → IsOkAnd (script_of (declarations_in input)) (λ n. (events : ℕ) × (audit_of n.setup (trace_in input) ≡ Ok events) × (output ≡ audit_line events))
  pub audited_safe : s ≡ status.Ok → c ≡ Some audit_command → IsOkAnd (script_of (declarations_in input)) (λ n. IsAuditedSafe n.setup (trace_in input))
  -- and what `trace` writes of any accepted script `audit` accepts, and counts the events of that run.
  pub accepted : (n : Script) → IsScenario n → answer_to_audit (traced_of n) ≡ record { status = status.Ok; bytes = audit_line (run_under all_limits n.setup n.steps).world.events }
  -- `audit whole` promises as much, and that there is no gap.
  pub whole : IsJudgedWhole c input output s
  -- `steps` writes each step of that run, as the line that says it, with what it changed of what a report shows, between the report of
  -- where the run begins and the counts where it ends; there is such a line for each step;
  pub stepped : s ≡ status.Ok → c ≡ Some steps_command → IsOkAnd (script_of input) (λ n. (output ≡ steps_of input n) × HoldsWithin n × AreAllSaid input n)
  -- `steps from` the same of the run that goes on from the state that the input begins with, by the lines of the schedule after its bytes;
  pub stepped_on : s ≡ status.Ok → c ≡ Some steps_on_command → (g : SavedState) × (used : ℕ) × IsLoaded input (Ok (g, used))
      × IsOkAnd (schedule_of g.scenario.setup (drop used input)) (λ es. (output ≡ steps_on g (drop used input) es) × (resumed_limit g es ≡ None) × AreAllSaidOn (drop used input) es)
  -- and `steps big` of the run that a number generates, by its schedule as it is written, in which there is such a line too.
  pub stepped_big : (number : ℕ) → s ≡ status.Ok → c ≡ Some (command.BigSteps number) → (output ≡ big_steps number) × HoldsWithin (generated_run number) × AreAllWritten (generated_run number)
  -- `lost` writes what is lost if a cluster goes.
  pub lost : IsToldLoss c input output s
  -- `observe` writes what is found against an observation, or that it is safe.
  pub observed : IsJudged c input output s
  -- `big` writes the summary of the machine's run over the generated schedule, of which all holds too; at its end all is quiet.
  pub summary : (number : ℕ) → s ≡ status.Ok → c ≡ Some (command.Big number) → (output ≡ summary_of number) × HoldsWithin (generated_run number)
  pub quiet : (number : ℕ) → let n = generated_run number in is_quiet n.setup (run n.setup n.steps) ≡ true
  -- Each refusal comes only for its cause; and no answer but that of a read fault is made where the source failed, so that nobody is
  -- told the report of a part of a script.
  pub cause : HasCause c input f s
  pub read_well : IsMade s → Stood f.source f.source_now
  -- What is due comes, unless the source, the sink or memory fails.
  pub no_command : c ≡ None → IsDue status.Usage s
  pub due : (a : Answer) → IsAnswerFor c input a → IsDue a.status s
  pub big : (number : ℕ) → c ≡ Some (command.Big number) → IsDue (answer_to_big number).status s
  -- What goes out.
  pub out : (a : Answer) → IsAnswerFor c input a → WentOut c a f s output
  pub line : WritesLine s output

-- ---- what is read
-- the source gave no more since it failed, memory was wanting, or it had given more than is read
abbrev pub IsCut : List ℕ → ℕ → ℕ → Status → Type 0
IsCut part before now s = (67108864 < length part) ⊎ (Rose before now ⊎ (s ≡ status.OutOfMemory))

-- What a call read of a source for words that have an input, by what its calls gave, by what it told that it had left, and by its count
-- of faults before and now: the input is what the source gave, and where that is cut, some more after it; an answer is to all that it
-- gave, unless it says that this is too long; and where the source tells what it has left, it is that. For other words nothing is read,
-- and the input is empty.
pub record IsRead (c : Option Command) (given : List ℕ → Type 0) (left : Option (List ℕ)) (before now : ℕ) (s : Status) (input : List ℕ) : Type 0 where
  pub part : List ℕ
  pub rest : List ℕ
  pub gave : given part
  pub is : input ≡ part ++ rest
  pub whole : (rest ≡ []) ⊎ IsCut part before now s
  pub all : IsMade s → (s ≡ status.TooLarge 1) ⊎ (rest ≡ [])
  pub told : Reads c → IfSome left (λ bytes. input ≡ bytes)

-- ---- the headline, of a call over a source and a sink
-- of the script that the source gave, where the words are those of `run` and it ended with Ok
abbrev pub OfRun : Option Command → (List ℕ → Type 0) → Status → (Script → Type 0) → Type 0
OfRun c given s Holds = s ≡ status.Ok → c ≡ Some run_command → (input : List ℕ) × given input × IsOkAnd (script_of input) Holds

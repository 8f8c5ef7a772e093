-- What the program answers to words and the bytes of an input: how it ends, and what it writes.
use Rattle.std.specs.Prelude.{◌≡◌, ℕ, ◌+◌, nat_lt, Bool, true, false, List, [], ◌∷◌, length, drop, Option, Some, None, Result, Ok, Err}
use Rattle.audit.specs.AuditOf.{audit_by}
use Rattle.audit.specs.declared.strictness.Strictness.{Strictness}
use Rattle.audit.specs.declared.strictness.Strictness.TheVariants as strictness
use Rattle.geo_base.specs.declared.event.Step.{Step}
use Rattle.geo_base.specs.Audit.{Refusal}
use Rattle.geo_base.specs.Run.{run}
use Rattle.geo_base.specs.Setup.{Setup}
use Rattle.observation.specs.declared.finding.Finding.{Finding}
use Rattle.observation.specs.Findings.{findings_of}
use Rattle.observation.specs.Observed.{Observation}
use Rattle.observe.specs.Topics.{entries_in}
use Rattle.observed_text.specs.Findings.{findings_text}
use Rattle.observed_text.specs.Observing.{read_observation}
use Rattle.observed_text.specs.Starts.{declarations_before, observed_in}
use Rattle.script_text.specs.Lines.{lines_of}
use Rattle.script_text.specs.Rules.{script_of}
use Rattle.script_text.specs.Schedule.{schedule_of}
use Rattle.script_text.specs.Script.{Fault, Script}
use Rattle.state_file.specs.Loading.{IsLoaded, Loaded, bad_state, version}
use Rattle.state_file.specs.State.{SavedState}
use Rattle.script_generator.specs.Starts.{declarations_in, trace_in}
use Rattle.geo_top.specs.declared.top.answer.Answer.{Answer}
use Rattle.geo_top.specs.declared.top.command.Command.{Command}
use Rattle.geo_top.specs.declared.top.command.Command.TheVariants as command
use Rattle.geo_top.specs.declared.top.command.GoingOn.{GoingOn}
use Rattle.geo_top.specs.declared.top.command.GoingOn.TheVariants as going_on
use Rattle.geo_top.specs.declared.top.command.Reading.{Reading}
use Rattle.geo_top.specs.declared.top.command.Reading.TheVariants as reading
use Rattle.geo_top.specs.declared.top.command.Shown.{Shown}
use Rattle.geo_top.specs.declared.top.command.Shown.TheVariants as shown
use Rattle.geo_top.specs.declared.top.status.Status.TheVariants as status
use Rattle.geo_top.specs.declared.top.status.Status.{Status}
use Rattle.geo_top.specs.Audits.{audit_line}
use Rattle.geo_top.specs.Compacted.{compacted}
use Rattle.geo_top.specs.Losing.{declaring, declaring_on, lost_of, lost_on}
use Rattle.run_report.specs.States.{file_of, stopped}
use Rattle.geo_top.specs.Statuses.{refusal_line}
use Rattle.geo_top.specs.Stepped.{steps_by_schedule, steps_of, steps_on}
use Rattle.geo_top.specs.Summary.{summary}
use Rattle.run_report.specs.Reports.{exceeded_limit, report_of, resumed_limit, resumed_report}
use Rattle.geo_top.specs.Tiered.{tiered}
use Rattle.geo_top.specs.Traced.{traced_of}
use Rattle.script_generator.specs.Generated.{generated_run}

abbrev pub refused : Status → Answer
refused s = record { status = s; bytes = refusal_line s }

-- an output, unless a limit is passed
abbrev pub unless_exceeded : List ℕ → Option ℕ → Answer
unless_exceeded bytes None = record { status = status.Ok; bytes = bytes }
unless_exceeded bytes (Some limit) = refused (status.TooLarge limit)

-- ---- to a script that is run
-- the bytes of its compacted views
abbrev pub compacted_of : ℕ → Script → List ℕ
compacted_of horizon n = compacted horizon n.setup (run n.setup n.steps)

-- those of its topics whose closed ledgers moved to tiers, but the last ones, keep of them
abbrev pub tiered_of : ℕ → Script → List ℕ
tiered_of keep n = tiered keep n.setup (run n.setup n.steps)

-- the bytes that a command shows of a script's run
abbrev pub output_of : Shown → Script → List ℕ
output_of shown.Report n = report_of n
output_of (shown.Compacted horizon) n = compacted_of horizon n
output_of (shown.Tiered keep) n = tiered_of keep n
output_of shown.Trace n = traced_of n

-- to a script, whose run passes a limit or none
abbrev pub answer_to_run : Shown → Script → Option ℕ → Answer
answer_to_run v n o = unless_exceeded (output_of v n) o

abbrev pub answer_to : Shown → Result Script Fault → Answer
answer_to v (Ok n) = answer_to_run v n (exceeded_limit n)
answer_to v (Err f) = refused (status.BadScript f.line f.rule)

-- ---- to a script whose run is saved: the stop after it may pass a limit too
abbrev pub answer_to_saved : Script → Answer
answer_to_saved n = unless_exceeded (file_of n) (exceeded_limit (stopped n))

abbrev pub answer_to_save : Result Script Fault → Answer
answer_to_save (Ok n) = answer_to_saved n
answer_to_save (Err f) = refused (status.BadScript f.line f.rule)

-- ---- to a script whose steps are told, each with the line of the text that says it
abbrev pub answer_to_steps : List ℕ → Result Script Fault → Answer
answer_to_steps text (Ok n) = unless_exceeded (steps_of text n) (exceeded_limit n)
answer_to_steps text (Err f) = refused (status.BadScript f.line f.rule)

-- ---- to a state with a schedule after it, from which a run goes on
abbrev pub answer_to_resumed : SavedState → Result (List Step) Fault → Answer
answer_to_resumed f (Ok es) = unless_exceeded (resumed_report f es) (resumed_limit f es)
answer_to_resumed f (Err e) = refused (status.BadScript e.line e.rule)

-- its steps, each with the line that says it
abbrev pub answer_to_steps_on : SavedState → List ℕ → Result (List Step) Fault → Answer
answer_to_steps_on f lines (Ok es) = unless_exceeded (steps_on f lines es) (resumed_limit f es)
answer_to_steps_on f lines (Err e) = refused (status.BadScript e.line e.rule)

abbrev pub answer_going_on : GoingOn → SavedState → List ℕ → Answer
answer_going_on going_on.Report f lines = answer_to_resumed f (schedule_of f.scenario.setup lines)
answer_going_on going_on.Steps f lines = answer_to_steps_on f lines (schedule_of f.scenario.setup lines)

-- what stands after the bytes of a state is its schedule
abbrev pub answer_to_loaded : GoingOn → List ℕ → Loaded → Answer
answer_to_loaded v input (Ok x) = answer_going_on v x.0 (drop x.1 input)
answer_to_loaded v input (Err (bad_state offset rule)) = refused (status.BadState offset rule)
answer_to_loaded v input (Err (version number)) = refused (status.StateVersion number)

abbrev pub IsAnswerToFile : GoingOn → List ℕ → Answer → Type 0
IsAnswerToFile v input a = (l : Loaded) × IsLoaded input l × (a ≡ answer_to_loaded v input l)

-- ---- to a script, or a state with a schedule after it, of whose run it is told what is lost if a cluster goes. Rules of the lines come
-- ---- first, then that the cluster is declared, then the limits
abbrev pub answer_to_losing : List ℕ → Bool → Result Script Fault → Answer
answer_to_losing name names (Ok n) = unless_exceeded (lost_of name names n) (exceeded_limit n)
answer_to_losing name names (Err f) = refused (status.BadScript f.line f.rule)

abbrev pub answer_to_losing_on : List ℕ → SavedState → Result (List Step) Fault → Answer
answer_to_losing_on name f (Ok es) = unless_exceeded (lost_on name f es) (resumed_limit f es)
answer_to_losing_on name f (Err e) = refused (status.BadScript e.line e.rule)

-- the steps after a state, of which the input has the bytes
abbrev pub steps_declaring : List ℕ → List ℕ → SavedState → ℕ → Result (List Step) Fault
steps_declaring name input f used = declaring_on f.scenario.setup name (drop used input) (schedule_of f.scenario.setup (drop used input))

abbrev pub answer_to_losing_loaded : List ℕ → List ℕ → Loaded → Answer
answer_to_losing_loaded name input (Ok x) = answer_to_losing_on name x.0 (steps_declaring name input x.0 x.1)
answer_to_losing_loaded name input (Err (bad_state offset rule)) = refused (status.BadState offset rule)
answer_to_losing_loaded name input (Err (version number)) = refused (status.StateVersion number)

abbrev pub IsAnswerToLosingFile : List ℕ → List ℕ → Answer → Type 0
IsAnswerToLosingFile name input a = (l : Loaded) × IsLoaded input l × (a ≡ answer_to_losing_loaded name input l)

-- ---- to a script's declarations with a trace after them. Steps of the script are read, and not looked at
abbrev pub answer_to_judged : Result ℕ Refusal → Answer
answer_to_judged (Ok events) = record { status = status.Ok; bytes = audit_line events }
answer_to_judged (Err r) = refused (status.AuditRefused r.event r.rule)

abbrev pub answer_to_audited : Strictness → List ℕ → Result Script Fault → Answer
answer_to_audited k trace (Ok n) = answer_to_judged (audit_by k n.setup trace)
answer_to_audited k trace (Err f) = refused (status.BadScript f.line f.rule)

-- by how strictly it is judged
abbrev pub answer_to_auditing : Strictness → List ℕ → Answer
answer_to_auditing k input = answer_to_audited k (trace_in input) (script_of (declarations_in input))

abbrev pub answer_to_audit : List ℕ → Answer
answer_to_audit input = answer_to_auditing strictness.Plain input

-- ---- to a script's declarations with an observation after them. The number of its head is that of the line after the declarations.
-- ---- Steps of the script are read, and not looked at
abbrev pub found_status : List Finding → Status
found_status [] = status.Ok
found_status (f ∷ fs) = status.Found

abbrev pub answer_to_findings : Setup → Observation → List Finding → Answer
answer_to_findings s o fs = record { status = found_status fs; bytes = findings_text s (entries_in o.topics) fs }

abbrev pub answer_to_seen : Setup → Result Observation Fault → Answer
answer_to_seen s (Ok o) = answer_to_findings s o (findings_of s o)
answer_to_seen s (Err f) = refused (status.BadObservation f.line f.rule)

abbrev pub head_line : List ℕ → ℕ
head_line input = length (lines_of (declarations_before input)) + 1

-- what the bytes after the declarations say, or the line that is refused
abbrev pub observation_in : List ℕ → Script → Result Observation Fault
observation_in input n = read_observation n.setup (head_line input) (observed_in input)

abbrev pub answer_to_observed : List ℕ → Result Script Fault → Answer
answer_to_observed input (Ok n) = answer_to_seen n.setup (observation_in input n)
answer_to_observed input (Err f) = refused (status.BadScript f.line f.rule)

abbrev pub answer_to_observing : List ℕ → Answer
answer_to_observing input = answer_to_observed input (script_of (declarations_before input))

-- ---- to a number
-- the bytes of the summary of a number's generated run
abbrev pub summary_of : ℕ → List ℕ
summary_of number = let n = generated_run number in summary number n.setup (run n.setup n.steps)

-- to a number, whose generated run passes a limit or none
abbrev pub answer_to_generated : ℕ → Option ℕ → Answer
answer_to_generated number o = unless_exceeded (summary_of number) o

abbrev pub answer_to_big : ℕ → Answer
answer_to_big number = answer_to_generated number (exceeded_limit (generated_run number))

-- the bytes of the steps of that run, and the answer
abbrev pub big_steps : ℕ → List ℕ
big_steps number = steps_by_schedule (generated_run number)

abbrev pub answer_to_big_steps : ℕ → Answer
answer_to_big_steps number = unless_exceeded (big_steps number) (exceeded_limit (generated_run number))

-- ---- to an input: 67,108,864 bytes at most are read (limit 1; own, so that reading ends)
abbrev pub IsAnswerToBytes : Reading → List ℕ → Answer → Type 0
IsAnswerToBytes (reading.Script v) input a = a ≡ answer_to v (script_of input)
IsAnswerToBytes reading.Save input a = a ≡ answer_to_save (script_of input)
IsAnswerToBytes (reading.Resume v) input a = IsAnswerToFile v input a
IsAnswerToBytes (reading.Audit k) input a = a ≡ answer_to_auditing k input
IsAnswerToBytes reading.Steps input a = a ≡ answer_to_steps input (script_of input)
IsAnswerToBytes (reading.Lost name names) input a = a ≡ answer_to_losing name names (declaring name input (script_of input))
IsAnswerToBytes (reading.LostOn name) input a = IsAnswerToLosingFile name input a
IsAnswerToBytes reading.Observe input a = a ≡ answer_to_observing input

abbrev pub UnlessLarge : Bool → Answer → Type 0 → Type 0
UnlessLarge true a P = a ≡ refused (status.TooLarge 1)
UnlessLarge false a P = P

abbrev pub IsAnswerToInput : Reading → List ℕ → Answer → Type 0
IsAnswerToInput r input a = UnlessLarge (nat_lt 67108864 (length input)) a (IsAnswerToBytes r input a)

-- to words and an input, of which each has one answer at most. A generated run reads none
abbrev pub IsAnswerFor : Option Command → List ℕ → Answer → Type 0
IsAnswerFor None input a = a ≡ refused status.Usage
IsAnswerFor (Some (command.Reads r)) input a = IsAnswerToInput r input a
IsAnswerFor (Some (command.Big number)) input a = a ≡ answer_to_big number
IsAnswerFor (Some (command.BigSteps number)) input a = a ≡ answer_to_big_steps number

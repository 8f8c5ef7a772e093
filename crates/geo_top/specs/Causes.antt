-- Why the program refuses.
use Rattle.std.specs.Prelude.{◌≡◌, ◌≢◌, ◌⊎◌, ℕ, ◌<◌, List, [], length, drop, Option, Some, None, IsOkAnd, Ok, Err}
use Rattle.audit.specs.AuditOf.{audit_by}
use Rattle.audit.specs.declared.strictness.Strictness.{Strictness}
use Rattle.geo_base.specs.Audit.{Refusal as RefusedLine}
use Rattle.observation.specs.Findings.{findings_of}
use Rattle.observed_text.specs.Starts.{declarations_before}
use Rattle.script_text.specs.Rules.{script_of}
use Rattle.script_text.specs.Schedule.{schedule_of}
use Rattle.script_text.specs.Script.{Fault}
use Rattle.state_file.specs.Loading.{IsLoaded, Refusal}
use Rattle.state_file.specs.State.{SavedState}
use Rattle.script_generator.specs.Starts.{declarations_in, trace_in}
use Rattle.geo_top.specs.declared.top.command.Command.{Command}
use Rattle.geo_top.specs.declared.top.command.Command.TheVariants as command
use Rattle.geo_top.specs.declared.top.command.GoingOn.{GoingOn}
use Rattle.geo_top.specs.declared.top.command.Reading.{Reading}
use Rattle.geo_top.specs.declared.top.command.Reading.TheVariants as reading
use Rattle.geo_top.specs.Commands.{Reads, auditing_command, command_resuming, lost_on_command, observe_command}
use Rattle.geo_top.specs.Losing.{declaring}
use Rattle.geo_top.specs.Outputs.{observation_in, steps_declaring}
use Rattle.run_report.specs.Reports.{exceeded_limit, resumed_limit}
use Rattle.run_report.specs.States.{stopped}
use Rattle.script_generator.specs.Generated.{generated_run}

-- a line breaks a rule: of the script, or after the state
abbrev pub HasBadLineIn : Reading → List ℕ → Fault → Type 0
HasBadLineIn (reading.Script v) input f = script_of input ≡ Err f
HasBadLineIn reading.Save input f = script_of input ≡ Err f
HasBadLineIn (reading.Resume v) input f =
    (s : SavedState) × (used : ℕ) × IsLoaded input (Ok (s, used)) × (schedule_of s.scenario.setup (drop used input) ≡ Err f)
HasBadLineIn (reading.Audit k) input f = script_of (declarations_in input) ≡ Err f
HasBadLineIn reading.Steps input f = script_of input ≡ Err f
HasBadLineIn (reading.Lost name names) input f = declaring name input (script_of input) ≡ Err f
HasBadLineIn (reading.LostOn name) input f =
    (s : SavedState) × (used : ℕ) × IsLoaded input (Ok (s, used)) × (steps_declaring name input s used ≡ Err f)
HasBadLineIn reading.Observe input f = script_of (declarations_before input) ≡ Err f

abbrev pub HasBadLine : Option Command → List ℕ → Fault → Type 0
HasBadLine None input f = ⊥
HasBadLine (Some (command.Reads r)) input f = HasBadLineIn r input f
HasBadLine (Some (command.Big number)) input f = ⊥
HasBadLine (Some (command.BigSteps number)) input f = ⊥

-- A limit that a command passes: 1, more bytes than are read; 2, more events than are done; 3, more bytes of frames than are sent.
abbrev pub RunExceeds : Reading → List ℕ → ℕ → Type 0
RunExceeds (reading.Script v) input limit = IsOkAnd (script_of input) (λ n. exceeded_limit n ≡ Some limit)
RunExceeds reading.Save input limit = IsOkAnd (script_of input) (λ n. exceeded_limit (stopped n) ≡ Some limit)
RunExceeds (reading.Resume v) input limit = (s : SavedState) × (used : ℕ) × IsLoaded input (Ok (s, used))
    × IsOkAnd (schedule_of s.scenario.setup (drop used input)) (λ es. resumed_limit s es ≡ Some limit)
RunExceeds (reading.Audit k) input limit = ⊥
RunExceeds reading.Observe input limit = ⊥
RunExceeds reading.Steps input limit = IsOkAnd (script_of input) (λ n. exceeded_limit n ≡ Some limit)
RunExceeds (reading.Lost name names) input limit = IsOkAnd (declaring name input (script_of input)) (λ n. exceeded_limit n ≡ Some limit)
RunExceeds (reading.LostOn name) input limit = (s : SavedState) × (used : ℕ) × IsLoaded input (Ok (s, used))
    × IsOkAnd (steps_declaring name input s used) (λ es. resumed_limit s es ≡ Some limit)

abbrev pub ExceedsRunning : Option Command → List ℕ → ℕ → Type 0
ExceedsRunning None input limit = ⊥
ExceedsRunning (Some (command.Reads r)) input limit = RunExceeds r input limit
ExceedsRunning (Some (command.Big number)) input limit = exceeded_limit (generated_run number) ≡ Some limit
ExceedsRunning (Some (command.BigSteps number)) input limit = exceeded_limit (generated_run number) ≡ Some limit

abbrev pub IsExceeded : Option Command → List ℕ → ℕ → Type 0
IsExceeded c input limit =
    (Reads c × (limit ≡ 1) × (67108864 < length input)) ⊎ (((limit ≡ 2) ⊎ (limit ≡ 3)) × ExceedsRunning c input limit)

-- a state that is refused
abbrev pub ReadsState : Option Command → Type 0
ReadsState c = ((v : GoingOn) × (c ≡ Some (command_resuming v))) ⊎ ((name : List ℕ) × (c ≡ Some (lost_on_command name)))

abbrev pub HasBadState : Option Command → List ℕ → Refusal → Type 0
HasBadState c input r = ReadsState c × IsLoaded input (Err r)

-- a line of a trace that is refused, by how strictly it was to be judged: after this event, by this rule
abbrev pub HasRefusedLine : Option Command → List ℕ → RefusedLine → Type 0
HasRefusedLine c input r =
    (k : Strictness) × (c ≡ Some (auditing_command k)) × IsOkAnd (script_of (declarations_in input)) (λ n. audit_by k n.setup (trace_in input) ≡ Err r)

-- a line of an observation that is refused
abbrev pub HasBadObservation : Option Command → List ℕ → Fault → Type 0
HasBadObservation c input f = (c ≡ Some observe_command) × IsOkAnd (script_of (declarations_before input)) (λ n. observation_in input n ≡ Err f)

-- something is found against an observation
abbrev pub HasFindings : Option Command → List ℕ → Type 0
HasFindings c input =
    (c ≡ Some observe_command) × IsOkAnd (script_of (declarations_before input)) (λ n. IsOkAnd (observation_in input n) (λ o. findings_of n.setup o ≢ []))

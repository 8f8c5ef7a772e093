-- What the status of an answer tells: its cause, and that a refusal is its line.
use Rattle.std.proofs.lemmas.Bool.{ltb-true}
use Rattle.std.proofs.Common.{◌≡◌, ◌≢◌, ℕ, Bool, true, false, List, [], ◌∷◌, refl, sym, subst, inl, inr}
use Rattle.std.specs.Prelude.{Option, Some, None, Result, Ok, Err, IsOkAnd, length, drop, nat_lt, ⊤}
use Rattle.audit.specs.AuditOf.{audit_by}
use Rattle.audit.specs.declared.strictness.Strictness.{Strictness}
use Rattle.geo_base.specs.declared.event.Step.{Step}
use Rattle.geo_base.specs.Audit.{Refusal as RefusedLine}
use Rattle.geo_base.specs.Setup.{Setup}
use Rattle.observation.specs.declared.finding.Finding.{Finding}
use Rattle.observation.specs.Findings.{findings_of}
use Rattle.observation.specs.Observed.{Observation}
use Rattle.observed_text.specs.Starts.{declarations_before}
use Rattle.script_text.specs.Rules.{script_of}
use Rattle.script_text.specs.Schedule.{schedule_of}
use Rattle.script_text.specs.Script.{Fault, Script}
use Rattle.state_file.specs.Loading.{IsLoaded, Loaded, bad_state, version}
use Rattle.state_file.specs.State.{SavedState}
use Rattle.script_generator.specs.Starts.{declarations_in, trace_in}
use Rattle.geo_top.specs.declared.top.answer.Answer.{Answer}
use Rattle.geo_top.specs.declared.top.command.Command.{Command}
use Rattle.geo_top.specs.declared.top.command.Command.TheVariants as command
use Rattle.geo_top.specs.declared.top.command.GoingOn.{GoingOn}
use Rattle.geo_top.specs.declared.top.command.GoingOn.TheVariants as going_on
use Rattle.geo_top.specs.declared.top.command.Reading.{Reading}
use Rattle.geo_top.specs.declared.top.command.Reading.TheVariants as reading
use Rattle.geo_top.specs.declared.top.command.Shown.{Shown}
use Rattle.geo_top.specs.declared.top.status.Status.{Status}
use Rattle.geo_top.specs.declared.top.status.Status.TheVariants as status
use Rattle.geo_top.specs.Causes.{HasBadLine, HasBadObservation, HasBadState, HasFindings, HasRefusedLine, IsExceeded, RunExceeds}
use Rattle.geo_top.specs.Commands.{auditing_command, command_resuming, command_showing, lost_command, lost_on_command, observe_command, resume_command, steps_on_command}
use Rattle.geo_top.specs.Losing.{declaring, lost_of, lost_on}
use Rattle.geo_top.specs.Outputs.{IsAnswerFor, IsAnswerToBytes, UnlessLarge, answer_going_on, answer_to, answer_to_audited, answer_to_findings, answer_to_generated, answer_to_judged, answer_to_loaded, answer_to_losing, answer_to_losing_loaded, answer_to_losing_on, answer_to_observed, answer_to_resumed, answer_to_save, answer_to_seen, answer_to_steps, answer_to_steps_on, big_steps, output_of, observation_in, steps_declaring, summary_of, unless_exceeded}
use Rattle.run_report.specs.Reports.{exceeded_limit, resumed_limit, resumed_report}
use Rattle.run_report.specs.States.{file_of, stopped}
use Rattle.geo_top.specs.Statuses.{IsMade, refusal_line}
use Rattle.geo_top.specs.Stepped.{steps_of, steps_on}
use Rattle.script_generator.specs.Generated.{generated_run}
use Rattle.run_report.proofs.Limits.{IsOnlyLimit, only_limit, only_limit_from}

-- by a status: which words and which input it had for its cause
abbrev pub IsCaused : Option Command → List ℕ → Status → Type 0
IsCaused c input status.Ok = c ≢ None
IsCaused c input status.Usage = c ≡ None
IsCaused c input (status.BadScript line rule) = HasBadLine c input (record { line = line; rule = rule })
IsCaused c input status.ReadFault = ⊥
IsCaused c input (status.TooLarge limit) = IsExceeded c input limit
IsCaused c input status.WriteFault = ⊥
IsCaused c input status.OutOfMemory = ⊥
IsCaused c input (status.BadState offset rule) = HasBadState c input (bad_state offset rule)
IsCaused c input (status.StateVersion number) = HasBadState c input (version number)
IsCaused c input (status.AuditRefused event rule) = HasRefusedLine c input (record { event = event; rule = rule })
IsCaused c input (status.BadObservation line rule) = HasBadObservation c input (record { line = line; rule = rule })
IsCaused c input status.Found = HasFindings c input

some_command : (c : Command) → Some c ≢ None
some_command c e = cc e

ok_with : {T E : Type 0} (r : Result T E) (t : T) (P : T → Type 0) → r ≡ Ok t → P t → IsOkAnd r P
ok_with r t P is p = subst (λ (x : Result _ _). IsOkAnd x P) (sym is) p

-- an output, or a limit that was passed
caused_exceeded : (r : Reading) (input bytes : List ℕ) (o : Option ℕ) → IsOnlyLimit o → ((limit : ℕ) → o ≡ Some limit → RunExceeds r input limit)
    → IsCaused (Some (command.Reads r)) input (unless_exceeded bytes o).status
caused_exceeded r input bytes None only passes = some_command (command.Reads r)
caused_exceeded r input bytes (Some limit) only passes = inr (only, passes limit refl)

caused_script : (v : Shown) (input : List ℕ) (r : Result Script Fault) → script_of input ≡ r → IsCaused (Some (command_showing v)) input (answer_to v r).status
caused_script v input (Ok m) script =
    caused_exceeded (reading.Script v) input (output_of v m) (exceeded_limit m) (only_limit m.setup m.steps)
    (λ limit passed. ok_with (script_of input) m (λ n. exceeded_limit n ≡ Some limit) script passed)
caused_script v input (Err f) script = script

caused_told : (input : List ℕ) (r : Result Script Fault) → script_of input ≡ r → IsCaused (Some (command.Reads reading.Steps)) input (answer_to_steps input r).status
caused_told input (Ok m) script =
    caused_exceeded reading.Steps input (steps_of input m) (exceeded_limit m) (only_limit m.setup m.steps)
    (λ limit passed. ok_with (script_of input) m (λ n. exceeded_limit n ≡ Some limit) script passed)
caused_told input (Err f) script = script

caused_save : (input : List ℕ) (r : Result Script Fault) → script_of input ≡ r → IsCaused (Some (command.Reads reading.Save)) input (answer_to_save r).status
caused_save input (Ok m) script =
    caused_exceeded reading.Save input (file_of m) (exceeded_limit (stopped m)) (only_limit m.setup (stopped m).steps)
    (λ limit passed. ok_with (script_of input) m (λ n. exceeded_limit (stopped n) ≡ Some limit) script passed)
caused_save input (Err f) script = script

caused_steps : (input : List ℕ) (g : SavedState) (used : ℕ) (r : Result (List Step) Fault) → IsLoaded input (Ok (g, used)) → schedule_of g.scenario.setup (drop used input) ≡ r
    → IsCaused (Some resume_command) input (answer_to_resumed g r).status
caused_steps input g used (Ok es) loaded is =
    caused_exceeded (reading.Resume going_on.Report) input (resumed_report g es) (resumed_limit g es) (only_limit_from g.scenario.setup _ es refl)
    (λ limit passed. (g, used, loaded, ok_with (schedule_of g.scenario.setup (drop used input)) es (λ fs. resumed_limit g fs ≡ Some limit) is passed))
caused_steps input g used (Err e) loaded is = (g, used, loaded, is)

caused_steps_on : (input : List ℕ) (g : SavedState) (used : ℕ) (r : Result (List Step) Fault) → IsLoaded input (Ok (g, used)) → schedule_of g.scenario.setup (drop used input) ≡ r
    → IsCaused (Some steps_on_command) input (answer_to_steps_on g (drop used input) r).status
caused_steps_on input g used (Ok es) loaded is =
    caused_exceeded (reading.Resume going_on.Steps) input (steps_on g (drop used input) es) (resumed_limit g es) (only_limit_from g.scenario.setup _ es refl)
    (λ limit passed. (g, used, loaded, ok_with (schedule_of g.scenario.setup (drop used input)) es (λ fs. resumed_limit g fs ≡ Some limit) is passed))
caused_steps_on input g used (Err e) loaded is = (g, used, loaded, is)

caused_on : (v : GoingOn) (input : List ℕ) (g : SavedState) (used : ℕ) → IsLoaded input (Ok (g, used)) → IsCaused (Some (command_resuming v)) input (answer_going_on v g (drop used input)).status
caused_on going_on.Report input g used loaded = caused_steps input g used (schedule_of g.scenario.setup (drop used input)) loaded refl
caused_on going_on.Steps input g used loaded = caused_steps_on input g used (schedule_of g.scenario.setup (drop used input)) loaded refl

caused_resume : (v : GoingOn) (input : List ℕ) (l : Loaded) → IsLoaded input l → IsCaused (Some (command_resuming v)) input (answer_to_loaded v input l).status
caused_resume v input (Ok x) loaded = caused_on v input x.0 x.1 loaded
caused_resume v input (Err (bad_state offset rule)) loaded = (inl (v, refl), loaded)
caused_resume v input (Err (version number)) loaded = (inl (v, refl), loaded)

caused_losing : (name : List ℕ) (names : Bool) (input : List ℕ) (r : Result Script Fault) → declaring name input (script_of input) ≡ r
    → IsCaused (Some (lost_command name names)) input (answer_to_losing name names r).status
caused_losing name names input (Ok m) script =
    caused_exceeded (reading.Lost name names) input (lost_of name names m) (exceeded_limit m) (only_limit m.setup m.steps)
    (λ limit passed. ok_with (declaring name input (script_of input)) m (λ n. exceeded_limit n ≡ Some limit) script passed)
caused_losing name names input (Err f) script = script

caused_losing_on : (name input : List ℕ) (g : SavedState) (used : ℕ) (r : Result (List Step) Fault) → IsLoaded input (Ok (g, used))
    → steps_declaring name input g used ≡ r → IsCaused (Some (lost_on_command name)) input (answer_to_losing_on name g r).status
caused_losing_on name input g used (Ok es) loaded is =
    caused_exceeded (reading.LostOn name) input (lost_on name g es) (resumed_limit g es) (only_limit_from g.scenario.setup _ es refl)
    (λ limit passed. (g, used, loaded, ok_with (steps_declaring name input g used) es (λ fs. resumed_limit g fs ≡ Some limit) is passed))
caused_losing_on name input g used (Err e) loaded is = (g, used, loaded, is)

caused_losing_file : (name input : List ℕ) (l : Loaded) → IsLoaded input l → IsCaused (Some (lost_on_command name)) input (answer_to_losing_loaded name input l).status
caused_losing_file name input (Ok x) loaded = caused_losing_on name input x.0 x.1 (steps_declaring name input x.0 x.1) loaded refl
caused_losing_file name input (Err (bad_state offset rule)) loaded = (inr (name, refl), loaded)
caused_losing_file name input (Err (version number)) loaded = (inr (name, refl), loaded)

caused_judged : (k : Strictness) (input : List ℕ) (n : Script) (r : Result ℕ RefusedLine) → script_of (declarations_in input) ≡ Ok n → audit_by k n.setup (trace_in input) ≡ r
    → IsCaused (Some (auditing_command k)) input (answer_to_judged r).status
caused_judged k input n (Ok events) script judged = some_command (auditing_command k)
caused_judged k input n (Err r) script judged = (k, refl, ok_with (script_of (declarations_in input)) n (λ m. audit_by k m.setup (trace_in input) ≡ Err r) script judged)

caused_audit : (k : Strictness) (input : List ℕ) (r : Result Script Fault) → script_of (declarations_in input) ≡ r
    → IsCaused (Some (auditing_command k)) input (answer_to_audited k (trace_in input) r).status
caused_audit k input (Ok n) script = caused_judged k input n (audit_by k n.setup (trace_in input)) script refl
caused_audit k input (Err f) script = script

caused_findings : (input : List ℕ) (n : Script) (o : Observation) (fs : List Finding) → script_of (declarations_before input) ≡ Ok n → observation_in input n ≡ Ok o
    → findings_of n.setup o ≡ fs → IsCaused (Some observe_command) input (answer_to_findings n.setup o fs).status
caused_findings input n o [] script seen is = some_command observe_command
caused_findings input n o (f ∷ fs) script seen is = (
  refl,
  ok_with (script_of (declarations_before input)) n (λ m. IsOkAnd (observation_in input m) (λ q. findings_of m.setup q ≢ [])) script
      (ok_with (observation_in input n) o (λ q. findings_of n.setup q ≢ []) seen (λ none. cc (none, is))),
)

caused_seen : (input : List ℕ) (n : Script) (r : Result Observation Fault) → script_of (declarations_before input) ≡ Ok n → observation_in input n ≡ r
    → IsCaused (Some observe_command) input (answer_to_seen n.setup r).status
caused_seen input n (Ok o) script seen = caused_findings input n o (findings_of n.setup o) script seen refl
caused_seen input n (Err f) script seen = (refl, ok_with (script_of (declarations_before input)) n (λ m. observation_in input m ≡ Err f) script seen)

caused_observe : (input : List ℕ) (r : Result Script Fault) → script_of (declarations_before input) ≡ r
    → IsCaused (Some observe_command) input (answer_to_observed input r).status
caused_observe input (Ok n) script = caused_seen input n (observation_in input n) script refl
caused_observe input (Err f) script = script

caused_bytes : (r : Reading) (input : List ℕ) (a : Answer) → IsAnswerToBytes r input a → IsCaused (Some (command.Reads r)) input a.status
caused_bytes (reading.Script v) input a is =
    subst (λ (a : Answer). IsCaused (Some (command_showing v)) input a.status) (sym is) (caused_script v input (script_of input) refl)
caused_bytes reading.Save input a is =
    subst (λ (a : Answer). IsCaused (Some (command.Reads reading.Save)) input a.status) (sym is) (caused_save input (script_of input) refl)
caused_bytes (reading.Resume v) input a is =
    subst (λ (a : Answer). IsCaused (Some (command_resuming v)) input a.status) (sym is.2) (caused_resume v input is.0 is.1)
caused_bytes (reading.Audit k) input a is =
    subst (λ (a : Answer). IsCaused (Some (auditing_command k)) input a.status) (sym is) (caused_audit k input (script_of (declarations_in input)) refl)
caused_bytes reading.Steps input a is =
    subst (λ (a : Answer). IsCaused (Some (command.Reads reading.Steps)) input a.status) (sym is) (caused_told input (script_of input) refl)
caused_bytes (reading.Lost name names) input a is =
    subst (λ (a : Answer). IsCaused (Some (lost_command name names)) input a.status) (sym is) (caused_losing name names input (declaring name input (script_of input)) refl)
caused_bytes (reading.LostOn name) input a is =
    subst (λ (a : Answer). IsCaused (Some (lost_on_command name)) input a.status) (sym is.2) (caused_losing_file name input is.0 is.1)
caused_bytes reading.Observe input a is =
    subst (λ (a : Answer). IsCaused (Some observe_command) input a.status) (sym is) (caused_observe input (script_of (declarations_before input)) refl)

caused_input : (t : Bool) (r : Reading) (input : List ℕ) (a : Answer) → nat_lt 67108864 (length input) ≡ t → UnlessLarge t a (IsAnswerToBytes r input a)
    → IsCaused (Some (command.Reads r)) input a.status
caused_input true r input a long is =
    subst (λ (a : Answer). IsCaused (Some (command.Reads r)) input a.status) (sym is) (inl ((r, refl), refl, ltb-true 67108864 (length input) long))
caused_input false r input a long is = caused_bytes r input a is

caused_big_steps : (input : List ℕ) (number : ℕ) (o : Option ℕ) → exceeded_limit (generated_run number) ≡ o → IsOnlyLimit o
    → IsCaused (Some (command.BigSteps number)) input (unless_exceeded (big_steps number) o).status
caused_big_steps input number None passed only = some_command (command.BigSteps number)
caused_big_steps input number (Some limit) passed only = inr (only, passed)

caused_big : (input : List ℕ) (number : ℕ) (o : Option ℕ) → exceeded_limit (generated_run number) ≡ o → IsOnlyLimit o
    → IsCaused (Some (command.Big number)) input (answer_to_generated number o).status
caused_big input number None passed only = some_command (command.Big number)
caused_big input number (Some limit) passed only = inr (only, passed)

pub caused : (c : Option Command) (input : List ℕ) (a : Answer) → IsAnswerFor c input a → IsCaused c input a.status
caused None input a is = subst (λ (a : Answer). IsCaused None input a.status) (sym is) refl
caused (Some (command.Reads r)) input a is = caused_input (nat_lt 67108864 (length input)) r input a refl is
caused (Some (command.Big number)) input a is =
    let m = generated_run number in
    subst (λ (a : Answer). IsCaused (Some (command.Big number)) input a.status) (sym is) (caused_big input number (exceeded_limit m) refl (only_limit m.setup m.steps))
caused (Some (command.BigSteps number)) input a is =
    let m = generated_run number in
    subst (λ (a : Answer). IsCaused (Some (command.BigSteps number)) input a.status) (sym is) (caused_big_steps input number (exceeded_limit m) refl (only_limit m.setup m.steps))

-- so neither a fault nor want of memory is answered
pub caused_made : (c : Option Command) (input : List ℕ) (s : Status) → IsCaused c input s → IsMade s
caused_made c input status.Ok cause = tt
caused_made c input status.Usage cause = tt
caused_made c input (status.BadScript line rule) cause = tt
caused_made c input status.ReadFault cause = absurd cause
caused_made c input status.WriteFault cause = absurd cause
caused_made c input (status.TooLarge limit) cause = tt
caused_made c input status.OutOfMemory cause = absurd cause
caused_made c input (status.BadState offset rule) cause = tt
caused_made c input (status.StateVersion number) cause = tt
caused_made c input (status.AuditRefused event rule) cause = tt
caused_made c input (status.BadObservation line rule) cause = tt
caused_made c input status.Found cause = tt

-- ---- a refusal is its line
abbrev pub IsLine : Status → List ℕ → Type 0
IsLine status.Ok bytes = ⊤
IsLine status.Found bytes = ⊤
IsLine s bytes = bytes ≡ refusal_line s

abbrev Lined : Answer → Type 0
Lined a = IsLine a.status a.bytes

line_exceeded : (bytes : List ℕ) (o : Option ℕ) → Lined (unless_exceeded bytes o)
line_exceeded bytes None = tt
line_exceeded bytes (Some limit) = refl

line_script : (v : Shown) (r : Result Script Fault) → Lined (answer_to v r)
line_script v (Ok m) = line_exceeded (output_of v m) (exceeded_limit m)
line_script v (Err f) = refl

line_told : (text : List ℕ) (r : Result Script Fault) → Lined (answer_to_steps text r)
line_told text (Ok m) = line_exceeded (steps_of text m) (exceeded_limit m)
line_told text (Err f) = refl

line_save : (r : Result Script Fault) → Lined (answer_to_save r)
line_save (Ok m) = line_exceeded (file_of m) (exceeded_limit (stopped m))
line_save (Err f) = refl

line_steps : (g : SavedState) (r : Result (List Step) Fault) → Lined (answer_to_resumed g r)
line_steps g (Ok es) = line_exceeded (resumed_report g es) (resumed_limit g es)
line_steps g (Err e) = refl

line_steps_on : (g : SavedState) (lines : List ℕ) (r : Result (List Step) Fault) → Lined (answer_to_steps_on g lines r)
line_steps_on g lines (Ok es) = line_exceeded (steps_on g lines es) (resumed_limit g es)
line_steps_on g lines (Err e) = refl

line_on : (v : GoingOn) (g : SavedState) (lines : List ℕ) → Lined (answer_going_on v g lines)
line_on going_on.Report g lines = line_steps g (schedule_of g.scenario.setup lines)
line_on going_on.Steps g lines = line_steps_on g lines (schedule_of g.scenario.setup lines)

line_loaded : (v : GoingOn) (input : List ℕ) (l : Loaded) → Lined (answer_to_loaded v input l)
line_loaded v input (Ok x) = line_on v x.0 (drop x.1 input)
line_loaded v input (Err (bad_state offset rule)) = refl
line_loaded v input (Err (version number)) = refl

line_losing : (name : List ℕ) (names : Bool) (r : Result Script Fault) → Lined (answer_to_losing name names r)
line_losing name names (Ok m) = line_exceeded (lost_of name names m) (exceeded_limit m)
line_losing name names (Err f) = refl

line_losing_on : (name : List ℕ) (g : SavedState) (r : Result (List Step) Fault) → Lined (answer_to_losing_on name g r)
line_losing_on name g (Ok es) = line_exceeded (lost_on name g es) (resumed_limit g es)
line_losing_on name g (Err e) = refl

line_losing_file : (name input : List ℕ) (l : Loaded) → Lined (answer_to_losing_loaded name input l)
line_losing_file name input (Ok x) = line_losing_on name x.0 (steps_declaring name input x.0 x.1)
line_losing_file name input (Err (bad_state offset rule)) = refl
line_losing_file name input (Err (version number)) = refl

line_judged : (r : Result ℕ RefusedLine) → Lined (answer_to_judged r)
line_judged (Ok events) = tt
line_judged (Err r) = refl

line_audit : (k : Strictness) (trace : List ℕ) (r : Result Script Fault) → Lined (answer_to_audited k trace r)
line_audit k trace (Ok n) = line_judged (audit_by k n.setup trace)
line_audit k trace (Err f) = refl

line_findings : (s : Setup) (o : Observation) (fs : List Finding) → Lined (answer_to_findings s o fs)
line_findings s o [] = tt
line_findings s o (f ∷ fs) = tt

line_seen : (s : Setup) (r : Result Observation Fault) → Lined (answer_to_seen s r)
line_seen s (Ok o) = line_findings s o (findings_of s o)
line_seen s (Err f) = refl

line_observe : (input : List ℕ) (r : Result Script Fault) → Lined (answer_to_observed input r)
line_observe input (Ok n) = line_seen n.setup (observation_in input n)
line_observe input (Err f) = refl

line_bytes : (r : Reading) (input : List ℕ) (a : Answer) → IsAnswerToBytes r input a → Lined a
line_bytes (reading.Script v) input a is = subst Lined (sym is) (line_script v (script_of input))
line_bytes reading.Save input a is = subst Lined (sym is) (line_save (script_of input))
line_bytes (reading.Resume v) input a is = subst Lined (sym is.2) (line_loaded v input is.0)
line_bytes (reading.Audit k) input a is = subst Lined (sym is) (line_audit k (trace_in input) (script_of (declarations_in input)))
line_bytes reading.Steps input a is = subst Lined (sym is) (line_told input (script_of input))
line_bytes (reading.Lost name names) input a is = subst Lined (sym is) (line_losing name names (declaring name input (script_of input)))
line_bytes (reading.LostOn name) input a is = subst Lined (sym is.2) (line_losing_file name input is.0)
line_bytes reading.Observe input a is = subst Lined (sym is) (line_observe input (script_of (declarations_before input)))

line_input : (t : Bool) (r : Reading) (input : List ℕ) (a : Answer) → UnlessLarge t a (IsAnswerToBytes r input a) → Lined a
line_input true r input a is = subst Lined (sym is) refl
line_input false r input a is = line_bytes r input a is

pub lined : (c : Option Command) (input : List ℕ) (a : Answer) → IsAnswerFor c input a → Lined a
lined None input a is = subst Lined (sym is) refl
lined (Some (command.Reads r)) input a is = line_input (nat_lt 67108864 (length input)) r input a is
lined (Some (command.Big number)) input a is = subst Lined (sym is) (line_exceeded (summary_of number) (exceeded_limit (generated_run number)))
lined (Some (command.BigSteps number)) input a is = subst Lined (sym is) (line_exceeded (big_steps number) (exceeded_limit (generated_run number)))

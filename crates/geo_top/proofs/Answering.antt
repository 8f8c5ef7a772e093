-- What an answer is where it is Ok, and what holds of the run after it.
use Rattle.std.proofs.Common.{◌≡◌, ℕ, Bool, true, false, List, [], ◌∷◌, ◌++◌, refl, ap, subst}
use Rattle.std.specs.Prelude.{Option, Some, None, Result, Ok, Err, IsOkAnd, if◌then◌else◌, length, drop, nat_lt}
use Rattle.audit.specs.AuditOf.{audit_by, audit_of}
use Rattle.audit.specs.declared.strictness.Strictness.TheVariants as strictness
use Rattle.geo_base.specs.declared.event.Step.{Step}
use Rattle.geo_base.specs.Audit.{Refusal as RefusedLine}
use Rattle.geo_base.specs.Run.{run}
use Rattle.geo_base.specs.Setup.{Setup}
use Rattle.loss_laws.proofs.ComesAgain.{comes_law}
use Rattle.loss_laws.proofs.LostForGood.{lost_law}
use Rattle.loss_laws.proofs.Missing.{missing_law}
use Rattle.script_rows.specs.NameBytes.{is_among}
use Rattle.script_text.specs.Rules.{script_of}
use Rattle.script_text.specs.Scenario.{IsScenario}
use Rattle.script_text.specs.Schedule.{schedule_of}
use Rattle.script_text.specs.Script.{Fault, Script}
use Rattle.state_file.specs.Loading.{IsLoaded, Loaded, bad_state, version}
use Rattle.state_file.specs.State.{SavedState}
use Rattle.world_laws.proofs.KeptRuns.ResumedRuns.{resumed_law}
use Rattle.world_laws.proofs.KeptRuns.SavedRuns.{reached_law}
use Rattle.script_generator.specs.Starts.{declarations_in, trace_in}
use Rattle.geo_top.specs.declared.top.answer.Answer.{Answer}
use Rattle.geo_top.specs.declared.top.command.Command.{Command}
use Rattle.geo_top.specs.declared.top.command.Command.TheVariants as command
use Rattle.geo_top.specs.declared.top.command.GoingOn.TheVariants as going_on
use Rattle.geo_top.specs.declared.top.command.Reading.{Reading}
use Rattle.geo_top.specs.declared.top.command.Reading.TheVariants as reading
use Rattle.geo_top.specs.declared.top.command.Shown.{Shown}
use Rattle.geo_top.specs.declared.top.command.Shown.TheVariants as shown
use Rattle.geo_top.specs.declared.top.status.Status.TheVariants as status
use Rattle.geo_top.specs.Answered.{OfSaved, OfScript}
use Rattle.geo_top.specs.Audits.{IsAuditedSafe, audit_line}
use Rattle.run_report.specs.Claims.{HoldsWithin}
use Rattle.geo_top.specs.Commands.{audit_command, lost_command, lost_on_command, resume_command, save_command, steps_command, steps_on_command, whole_command}
use Rattle.geo_top.specs.Founded.{IsAccepted, IsFounded, IsKnown, IsKnownFor}
use Rattle.geo_top.specs.Losing.{Declares, LossHolds, declaring, declaring_on, lost_of, lost_on, undeclared}
use Rattle.geo_top.specs.OneRun.{IsKept, IsSavedWith, counted_on, lines_before, text_on}
use Rattle.geo_top.specs.Outputs.{IsAnswerFor, IsAnswerToBytes, IsAnswerToFile, IsAnswerToInput, UnlessLarge, answer_to, answer_to_audited, answer_to_big, answer_to_judged, answer_to_loaded, answer_to_losing, answer_to_losing_loaded, answer_to_losing_on, answer_to_resumed, answer_to_save, answer_to_steps, answer_to_steps_on, big_steps, output_of, summary_of, unless_exceeded}
use Rattle.run_report.specs.Reports.{exceeded_limit, resumed_limit, resumed_report}
use Rattle.run_report.specs.States.{file_of, state_of_run, stopped}
use Rattle.geo_top.specs.Stepped.{AreAllSaidOn, steps_of, steps_on}
use Rattle.script_generator.specs.Generated.{generated_run}
use Rattle.geo_top.specs.Wholly.{IsAuditedWhole, IsJudgedWhole}
use Rattle.geo_top.proofs.Accepted.{traced_whole}
use Rattle.geo_top.proofs.Auditing.{accepted_safe, accepted_whole}
use Rattle.run_report.proofs.Claims.{holds_of}
use Rattle.geo_top.proofs.OneRun.{counted_same, kept_is}
use Rattle.geo_top.proofs.SaidSteps.{schedule_said}
use Rattle.geo_top.proofs.SavedWith.{loaded_holds, ok_maps}

-- an output, unless a limit was passed
ok_exceeded : (a : Answer) (bytes : List ℕ) (o : Option ℕ) → a ≡ unless_exceeded bytes o → a.status ≡ status.Ok → (a.bytes ≡ bytes) × (o ≡ None)
ok_exceeded a bytes None is ok = (ap (λ (a : Answer). a.bytes) is, refl)
ok_exceeded a bytes (Some limit) is ok = absurd (cc (ap (λ (a : Answer). a.status) is))

-- ---- an answer that is Ok is one to the bytes that were read
of_reading : (r : Reading) (c : Option Command) (input : List ℕ) (a : Answer) → c ≡ Some (command.Reads r) → IsAnswerFor c input a → IsAnswerToInput r input a
of_reading r c input a is due = subst (λ (c : Option Command). IsAnswerFor c input a) is due

to_small : (t : Bool) (a : Answer) (P : Type 0) → UnlessLarge t a P → a.status ≡ status.Ok → P
to_small true a P is ok = absurd (cc (ap (λ (a : Answer). a.status) is))
to_small false a P is ok = is

ok_bytes : (r : Reading) (c : Option Command) (input : List ℕ) (a : Answer) → IsFounded c input a → a.status ≡ status.Ok → c ≡ Some (command.Reads r) → IsAnswerToBytes r input a
ok_bytes r c input a f ok is = to_small (nat_lt 67108864 (length input)) a (IsAnswerToBytes r input a) (of_reading r c input a is f.due) ok

known_of : (r : Reading) (c : Option Command) (input : List ℕ) (a : Answer) → IsFounded c input a → a.status ≡ status.Ok → c ≡ Some (command.Reads r) → IsKnown r input
known_of r c input a f ok is =
    let known : IsKnownFor (Some (command.Reads r)) input a.status = subst (λ (c : Option Command). IsKnownFor c input a.status) is f.known in known ok

-- ---- to a script of whose run something is shown
by_script : (v : Shown) (a : Answer) (r : Result Script Fault) (P : Script → Type 0) → a ≡ answer_to v r → a.status ≡ status.Ok → IsAccepted r
    → ((m : Script) → IsScenario m → a.bytes ≡ output_of v m → exceeded_limit m ≡ None → P m) → IsOkAnd r P
by_script v a (Ok m) P is ok known f = let p = ok_exceeded a (output_of v m) (exceeded_limit m) is ok in f m known p.0 p.1
by_script v a (Err e) P is ok known f = absurd (cc (ap (λ (a : Answer). a.status) is))

pub of_script : (c : Option Command) (input : List ℕ) (a : Answer) → IsFounded c input a → (P : Shown → Script → Type 0)
    → ((v : Shown) (m : Script) → IsScenario m → a.bytes ≡ output_of v m → exceeded_limit m ≡ None → P v m) → OfScript c input a.status P
of_script c input a f P holds = λ v ok is.
    by_script v a (script_of input) (P v) (ok_bytes (reading.Script v) c input a f ok is) ok (known_of (reading.Script v) c input a f ok is) (holds v)

-- ---- to a script whose steps are told
by_told : (a : Answer) (text : List ℕ) (r : Result Script Fault) (P : Script → Type 0) → a ≡ answer_to_steps text r → a.status ≡ status.Ok → IsAccepted r
    → ((m : Script) → r ≡ Ok m → IsScenario m → a.bytes ≡ steps_of text m → exceeded_limit m ≡ None → P m) → IsOkAnd r P
by_told a text (Ok m) P is ok known f = let p = ok_exceeded a (steps_of text m) (exceeded_limit m) is ok in f m refl known p.0 p.1
by_told a text (Err e) P is ok known f = absurd (cc (ap (λ (a : Answer). a.status) is))

pub ok_told : (c : Option Command) (input : List ℕ) (a : Answer) → IsFounded c input a → (P : Script → Type 0)
    → ((m : Script) → script_of input ≡ Ok m → IsScenario m → a.bytes ≡ steps_of input m → exceeded_limit m ≡ None → P m) → a.status ≡ status.Ok → c ≡ Some steps_command → IsOkAnd (script_of input) P
ok_told c input a f P holds ok is = by_told a input (script_of input) P (ok_bytes reading.Steps c input a f ok is) ok (known_of reading.Steps c input a f ok is) holds

-- ---- to a script whose run is saved
by_save : (a : Answer) (r : Result Script Fault) → a ≡ answer_to_save r → a.status ≡ status.Ok → IsAccepted r → IsOkAnd r (λ m. IsKept m × (a.bytes ≡ file_of m))
by_save a (Ok m) is ok known = let p = ok_exceeded a (file_of m) (exceeded_limit (stopped m)) is ok in (record { scenario = known; within = p.1 }, p.0)
by_save a (Err f) is ok known = absurd (cc (ap (λ (a : Answer). a.status) is))

pub ok_saved : (c : Option Command) (input : List ℕ) (a : Answer) → IsFounded c input a → a.status ≡ status.Ok → c ≡ Some save_command
    → IsOkAnd (script_of input) (λ m. IsKept m × (a.bytes ≡ file_of m))
ok_saved c input a f ok is = by_save a (script_of input) (ok_bytes reading.Save c input a f ok is) ok (known_of reading.Save c input a f ok is)

-- ---- to a state from which a run goes on
abbrev pub Reports : List ℕ → SavedState → List Step → Type 0
Reports output g es = (output ≡ resumed_report g es) × (resumed_limit g es ≡ None)

abbrev pub GoesOn : List ℕ → List ℕ → Type 0
GoesOn input output = (g : SavedState) × (used : ℕ) × IsLoaded input (Ok (g, used)) × IsOkAnd (schedule_of g.scenario.setup (drop used input)) (Reports output g)

by_steps : (a : Answer) (g : SavedState) (r : Result (List Step) Fault) → a ≡ answer_to_resumed g r → a.status ≡ status.Ok → IsOkAnd r (Reports a.bytes g)
by_steps a g (Ok es) is ok = ok_exceeded a (resumed_report g es) (resumed_limit g es) is ok
by_steps a g (Err e) is ok = absurd (cc (ap (λ (a : Answer). a.status) is))

by_loaded : (input : List ℕ) (a : Answer) (l : Loaded) → IsLoaded input l → a ≡ answer_to_loaded going_on.Report input l → a.status ≡ status.Ok → GoesOn input a.bytes
by_loaded input a (Ok x) loaded is ok = (x.0, x.1, loaded, by_steps a x.0 (schedule_of x.0.scenario.setup (drop x.1 input)) is ok)
by_loaded input a (Err (bad_state offset rule)) loaded is ok = absurd (cc (ap (λ (a : Answer). a.status) is))
by_loaded input a (Err (version number)) loaded is ok = absurd (cc (ap (λ (a : Answer). a.status) is))

pub ok_resumed : (c : Option Command) (input : List ℕ) (a : Answer) → IsFounded c input a → a.status ≡ status.Ok → c ≡ Some resume_command → GoesOn input a.bytes
ok_resumed c input a f ok is = let file = ok_bytes (reading.Resume going_on.Report) c input a f ok is in by_loaded input a file.0 file.1 file.2 ok

-- with its steps told
abbrev pub Tells : List ℕ → SavedState → List ℕ → List Step → Type 0
Tells output g lines es = (output ≡ steps_on g lines es) × (resumed_limit g es ≡ None) × AreAllSaidOn lines es

abbrev pub TellsOn : List ℕ → List ℕ → Type 0
TellsOn input output =
    (g : SavedState) × (used : ℕ) × IsLoaded input (Ok (g, used)) × IsOkAnd (schedule_of g.scenario.setup (drop used input)) (Tells output g (drop used input))

by_steps_told : (a : Answer) (g : SavedState) (lines : List ℕ) (r : Result (List Step) Fault) → schedule_of g.scenario.setup lines ≡ r → a ≡ answer_to_steps_on g lines r → a.status ≡ status.Ok
    → IsOkAnd r (Tells a.bytes g lines)
by_steps_told a g lines (Ok es) read is ok =
    let p = ok_exceeded a (steps_on g lines es) (resumed_limit g es) is ok in (p.0, p.1, schedule_said g.scenario.setup lines es read)
by_steps_told a g lines (Err e) read is ok = absurd (cc (ap (λ (a : Answer). a.status) is))

by_told_on : (input : List ℕ) (a : Answer) (l : Loaded) → IsLoaded input l → a ≡ answer_to_loaded going_on.Steps input l → a.status ≡ status.Ok → TellsOn input a.bytes
by_told_on input a (Ok x) loaded is ok = (x.0, x.1, loaded, by_steps_told a x.0 (drop x.1 input) (schedule_of x.0.scenario.setup (drop x.1 input)) refl is ok)
by_told_on input a (Err (bad_state offset rule)) loaded is ok = absurd (cc (ap (λ (a : Answer). a.status) is))
by_told_on input a (Err (version number)) loaded is ok = absurd (cc (ap (λ (a : Answer). a.status) is))

pub ok_told_on : (c : Option Command) (input : List ℕ) (a : Answer) → IsFounded c input a → a.status ≡ status.Ok → c ≡ Some steps_on_command → TellsOn input a.bytes
ok_told_on c input a f ok is = let file = ok_bytes (reading.Resume going_on.Steps) c input a f ok is in by_told_on input a file.0 file.1 file.2 ok

-- and where it is what `save` wrote of a script
pub of_saved : (c : Option Command) (input : List ℕ) (a : Answer) → IsFounded c input a → (Q : Script → List Step → Type 0)
    → ((n : Script) (es : List Step) → IsKept n → a.bytes ≡ resumed_report (state_of_run n) es → resumed_limit (state_of_run n) es ≡ None → Q n es) → OfSaved c input a.status Q
of_saved c input a f Q holds = λ n lines ok is k.
    let g = ok_resumed c input a f ok is in
    ok_maps (schedule_of n.setup lines) (Reports a.bytes (state_of_run n)) (Q n) (λ es h. holds n es k.kept h.0 h.1)
    (loaded_holds n lines input g.0 g.1 (Reports a.bytes) k g.2 g.3)

-- what is read is small
small_file : (t : Bool) (input : List ℕ) (a : Answer) → nat_lt 67108864 (length input) ≡ t → t ≡ false → UnlessLarge t a (IsAnswerToFile going_on.Report input a) → IsAnswerToFile going_on.Report input a
small_file true input a is small due = absurd (cc small)
small_file false input a is small due = due

pub counted : (c : Option Command) (input : List ℕ) (a : Answer) → IsFounded c input a → (text lines : List ℕ) (n : Script) → nat_lt 67108864 (length input) ≡ false
    → c ≡ Some resume_command → script_of (text ++ 10 ∷ []) ≡ Ok n → IsSavedWith n lines input
    → counted_on (lines_before text) a a.status ≡ answer_to shown.Report (script_of (text_on text lines))
counted c input a f text lines n small is said k =
    counted_same resumed_law text lines input n a (reached_law.opening n.setup) (kept_is reached_law n k.kept) said k
    (small_file (nat_lt 67108864 (length input)) input a refl small (of_reading (reading.Resume going_on.Report) c input a is f.due))

-- ---- to a script, or a state, of whose run it is told what is lost
pub loss_holds : (s : Setup) (es : List Step) → LossHolds s (run s es)
loss_holds s es = record {
  missing = (missing_law s).run es;
  again = λ u t x y j v remote may since. comes_law.since s u (run s es) t x y j v remote may since;
  lost = lost_law s (run s es);
}

abbrev pub LosesAt : List ℕ → Bool → List ℕ → Script → Type 0
LosesAt name names output n = Declares n.setup name × (output ≡ lost_of name names n) × HoldsWithin n × LossHolds n.setup (run n.setup n.steps)

by_name : (name input : List ℕ) (names : Bool) (a : Answer) (m : Script) (b : Bool) → is_among m.setup.clusters name ≡ b → IsScenario m
    → a ≡ answer_to_losing name names (if b then Ok m else Err (undeclared input)) → a.status ≡ status.Ok → LosesAt name names a.bytes m
by_name name input names a m true here known is ok =
    let p = ok_exceeded a (lost_of name names m) (exceeded_limit m) is ok in (here, p.0, (p.1, holds_of m known.setup p.1), loss_holds m.setup m.steps)
by_name name input names a m false none known is ok = absurd (cc (ap (λ (a : Answer). a.status) is))

by_losing : (name input : List ℕ) (names : Bool) (a : Answer) (r : Result Script Fault) → a ≡ answer_to_losing name names (declaring name input r) → a.status ≡ status.Ok
    → IsAccepted r → IsOkAnd r (LosesAt name names a.bytes)
by_losing name input names a (Ok m) is ok known = by_name name input names a m (is_among m.setup.clusters name) refl known is ok
by_losing name input names a (Err f) is ok known = absurd (cc (ap (λ (a : Answer). a.status) is))

abbrev pub LosesOn : List ℕ → List ℕ → SavedState → List Step → Type 0
LosesOn name output g es = Declares g.scenario.setup name × (output ≡ lost_on name g es) × (resumed_limit g es ≡ None)

by_name_on : (name lines : List ℕ) (a : Answer) (g : SavedState) (es : List Step) (b : Bool) → is_among g.scenario.setup.clusters name ≡ b
    → a ≡ answer_to_losing_on name g (if b then Ok es else Err (undeclared lines)) → a.status ≡ status.Ok → LosesOn name a.bytes g es
by_name_on name lines a g es true here is ok = let p = ok_exceeded a (lost_on name g es) (resumed_limit g es) is ok in (here, p.0, p.1)
by_name_on name lines a g es false none is ok = absurd (cc (ap (λ (a : Answer). a.status) is))

by_losing_on : (name lines : List ℕ) (a : Answer) (g : SavedState) (r : Result (List Step) Fault)
    → a ≡ answer_to_losing_on name g (declaring_on g.scenario.setup name lines r) → a.status ≡ status.Ok → IsOkAnd r (LosesOn name a.bytes g)
by_losing_on name lines a g (Ok es) is ok = by_name_on name lines a g es (is_among g.scenario.setup.clusters name) refl is ok
by_losing_on name lines a g (Err e) is ok = absurd (cc (ap (λ (a : Answer). a.status) is))

abbrev pub LosesBehind : List ℕ → List ℕ → List ℕ → Type 0
LosesBehind name input output = (g : SavedState) × (used : ℕ) × IsLoaded input (Ok (g, used))
    × IsOkAnd (schedule_of g.scenario.setup (drop used input)) (LosesOn name output g)

by_losing_loaded : (name input : List ℕ) (a : Answer) (l : Loaded) → IsLoaded input l → a ≡ answer_to_losing_loaded name input l → a.status ≡ status.Ok
    → LosesBehind name input a.bytes
by_losing_loaded name input a (Ok x) loaded is ok =
    (x.0, x.1, loaded, by_losing_on name (drop x.1 input) a x.0 (schedule_of x.0.scenario.setup (drop x.1 input)) is ok)
by_losing_loaded name input a (Err (bad_state offset rule)) loaded is ok = absurd (cc (ap (λ (a : Answer). a.status) is))
by_losing_loaded name input a (Err (version number)) loaded is ok = absurd (cc (ap (λ (a : Answer). a.status) is))

pub told_loss : (c : Option Command) (input : List ℕ) (a : Answer) → IsFounded c input a → (name : List ℕ) (names : Bool) → a.status ≡ status.Ok
    → c ≡ Some (lost_command name names) → IsOkAnd (script_of input) (LosesAt name names a.bytes)
told_loss c input a f name names ok is =
    by_losing name input names a (script_of input) (ok_bytes (reading.Lost name names) c input a f ok is) ok (known_of (reading.Lost name names) c input a f ok is)

pub told_loss_on : (c : Option Command) (input : List ℕ) (a : Answer) → IsFounded c input a → (name : List ℕ) → a.status ≡ status.Ok
    → c ≡ Some (lost_on_command name) → LosesBehind name input a.bytes
told_loss_on c input a f name ok is = let file = ok_bytes (reading.LostOn name) c input a f ok is in by_losing_loaded name input a file.0 file.1 file.2 ok

-- and where it is what `save` wrote of a script
pub told_loss_saved : (c : Option Command) (input : List ℕ) (a : Answer) → IsFounded c input a → (name : List ℕ) (n : Script) (lines : List ℕ) → a.status ≡ status.Ok
    → c ≡ Some (lost_on_command name) → IsSavedWith n lines input → IsOkAnd (schedule_of n.setup lines) (LosesOn name a.bytes (state_of_run n))
told_loss_saved c input a f name n lines ok is k =
    let g = told_loss_on c input a f name ok is in loaded_holds n lines input g.0 g.1 (LosesOn name a.bytes) k g.2 g.3

-- ---- to a trace
abbrev pub IsTold : List ℕ → Setup → List ℕ → Type 0
IsTold output s trace = (events : ℕ) × (audit_of s trace ≡ Ok events) × (output ≡ audit_line events)

by_judged : (a : Answer) (s : Setup) (trace : List ℕ) (r : Result ℕ RefusedLine) → audit_of s trace ≡ r → a ≡ answer_to_judged r → a.status ≡ status.Ok → IsTold a.bytes s trace
by_judged a s trace (Ok events) judged is ok = (events, judged, ap (λ (a : Answer). a.bytes) is)
by_judged a s trace (Err r) judged is ok = absurd (cc (ap (λ (a : Answer). a.status) is))

by_audited : (a : Answer) (trace : List ℕ) (r : Result Script Fault) → a ≡ answer_to_audited strictness.Plain trace r → a.status ≡ status.Ok → IsOkAnd r (λ n. IsTold a.bytes n.setup trace)
by_audited a trace (Ok n) is ok = by_judged a n.setup trace (audit_of n.setup trace) refl is ok
by_audited a trace (Err f) is ok = absurd (cc (ap (λ (a : Answer). a.status) is))

pub ok_audited : (c : Option Command) (input : List ℕ) (a : Answer) → IsFounded c input a → a.status ≡ status.Ok → c ≡ Some audit_command
    → IsOkAnd (script_of (declarations_in input)) (λ n. IsTold a.bytes n.setup (trace_in input))
ok_audited c input a f ok is = by_audited a (trace_in input) (script_of (declarations_in input)) (ok_bytes (reading.Audit strictness.Plain) c input a f ok is) ok

pub safe_audited : (c : Option Command) (input : List ℕ) (a : Answer) → IsFounded c input a → a.status ≡ status.Ok → c ≡ Some audit_command
    → IsOkAnd (script_of (declarations_in input)) (λ n. IsAuditedSafe n.setup (trace_in input))
safe_audited c input a f ok is =
    ok_maps (script_of (declarations_in input)) (λ n. IsTold a.bytes n.setup (trace_in input)) (λ n. IsAuditedSafe n.setup (trace_in input))
    (λ n told. accepted_safe n.setup (trace_in input) told.0 told.1) (ok_audited c input a f ok is)

-- and to one that is judged for gaps
abbrev pub IsToldWhole : List ℕ → Setup → List ℕ → Type 0
IsToldWhole output s trace = (events : ℕ) × (audit_by strictness.Whole s trace ≡ Ok events) × (output ≡ audit_line events)

by_judged_whole : (a : Answer) (s : Setup) (trace : List ℕ) (r : Result ℕ RefusedLine) → audit_by strictness.Whole s trace ≡ r → a ≡ answer_to_judged r → a.status ≡ status.Ok
    → IsToldWhole a.bytes s trace
by_judged_whole a s trace (Ok events) judged is ok = (events, judged, ap (λ (a : Answer). a.bytes) is)
by_judged_whole a s trace (Err r) judged is ok = absurd (cc (ap (λ (a : Answer). a.status) is))

by_whole : (a : Answer) (trace : List ℕ) (r : Result Script Fault) → a ≡ answer_to_audited strictness.Whole trace r → a.status ≡ status.Ok → IsOkAnd r (λ n. IsToldWhole a.bytes n.setup trace)
by_whole a trace (Ok n) is ok = by_judged_whole a n.setup trace (audit_by strictness.Whole n.setup trace) refl is ok
by_whole a trace (Err f) is ok = absurd (cc (ap (λ (a : Answer). a.status) is))

ok_whole : (c : Option Command) (input : List ℕ) (a : Answer) → IsFounded c input a → a.status ≡ status.Ok → c ≡ Some whole_command
    → IsOkAnd (script_of (declarations_in input)) (λ n. IsToldWhole a.bytes n.setup (trace_in input))
ok_whole c input a f ok is = by_whole a (trace_in input) (script_of (declarations_in input)) (ok_bytes (reading.Audit strictness.Whole) c input a f ok is) ok

pub judged_whole : (c : Option Command) (input : List ℕ) (a : Answer) → IsFounded c input a → IsJudgedWhole c input a.bytes a.status
judged_whole c input a f = record {
  judged = ok_whole c input a f;
  gapless = λ ok is.
      ok_maps (script_of (declarations_in input)) (λ n. IsToldWhole a.bytes n.setup (trace_in input)) (λ n. IsAuditedWhole n.setup (trace_in input))
      (λ n told. accepted_whole n.setup (trace_in input) told.0 told.1) (ok_whole c input a f ok is);
  accepted = traced_whole;
}

-- ---- to a number
pub big_is : (c : Option Command) (input : List ℕ) (a : Answer) (number : ℕ) → IsFounded c input a → c ≡ Some (command.Big number) → a ≡ answer_to_big number
big_is c input a number f is = subst (λ (c : Option Command). IsAnswerFor c input a) is f.due

pub ok_big : (c : Option Command) (input : List ℕ) (a : Answer) (number : ℕ) → IsFounded c input a → a.status ≡ status.Ok → c ≡ Some (command.Big number)
    → (a.bytes ≡ summary_of number) × (exceeded_limit (generated_run number) ≡ None)
ok_big c input a number f ok is = ok_exceeded a (summary_of number) (exceeded_limit (generated_run number)) (big_is c input a number f is) ok

pub ok_big_steps : (c : Option Command) (input : List ℕ) (a : Answer) (number : ℕ) → IsFounded c input a → a.status ≡ status.Ok → c ≡ Some (command.BigSteps number)
    → (a.bytes ≡ big_steps number) × (exceeded_limit (generated_run number) ≡ None)
ok_big_steps c input a number f ok is =
    ok_exceeded a (big_steps number) (exceeded_limit (generated_run number)) (subst (λ (c : Option Command). IsAnswerFor c input a) is f.due) ok

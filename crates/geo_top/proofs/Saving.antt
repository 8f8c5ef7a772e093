-- The answers of the two commands on state files.
use Rattle.std.proofs.Common.{◌≡◌, ℕ, List, sym, ap, ◌∙◌}
use Rattle.std.specs.Prelude.{drop, Option, Some, None, Result, Ok, Err, IfOk}
use Rattle.geo_base.specs.declared.event.Step.{Step}
use Rattle.geo_base.specs.declared.memory.Memory.{Memory}
use Rattle.geo_base.specs.Report.{report}
use Rattle.geo_base.specs.Run.{all_limits}
use Rattle.world.specs.World.{WorldView}
use Rattle.script_text.specs.Script.{Script}
use Rattle.state_file.specs.Loading.{IsLoaded, bad_state, version}
use Rattle.state_file.specs.State.{SavedState}
use Rattle.geo_top.specs.declared.top.answer.Answer.{Answer}
use Rattle.geo_top.specs.declared.top.command.GoingOn.{GoingOn}
use Rattle.geo_top.specs.declared.top.status.Status.TheVariants as status
use Rattle.run_report.specs.Finished.{IsResumed}
use Rattle.geo_top.specs.Outputs.{IsAnswerToFile, answer_going_on, answer_to_resumed, answer_to_saved, answer_to_steps_on, refused, unless_exceeded}
use Rattle.run_report.specs.Reports.{exceeded_limit, resumed_report}
use Rattle.run_report.specs.Shown.{shown_world}
use Rattle.geo_top.specs.Stepped.{steps_on}
use Rattle.run_report.specs.States.{file_of, resumed_under, stopped}
use Rattle.run_report.proofs.Shown.{shown_resumed}

abbrev ok_answer : List ℕ → Answer
ok_answer bytes = record { status = status.Ok; bytes = bytes }

whole : (bytes due : List ℕ) (o : Option ℕ) → bytes ≡ due → o ≡ None → ok_answer bytes ≡ unless_exceeded due o
whole bytes due o is none = ap ok_answer is ∙ sym (ap (unless_exceeded due) none)

over : (due : List ℕ) (o : Option ℕ) (limit : ℕ) (a : Answer) → o ≡ Some limit → a ≡ refused (status.TooLarge limit) → a ≡ unless_exceeded due o
over due o limit a some is = is ∙ sym (ap (unless_exceeded due) some)

pub saved_whole : (n : Script) (bytes : List ℕ) → bytes ≡ file_of n → exceeded_limit (stopped n) ≡ None → ok_answer bytes ≡ answer_to_saved n
saved_whole n bytes is none = whole bytes (file_of n) (exceeded_limit (stopped n)) is none

pub saved_refused : (n : Script) (limit : ℕ) (a : Answer) → exceeded_limit (stopped n) ≡ Some limit → a ≡ refused (status.TooLarge limit) → a ≡ answer_to_saved n
saved_refused n limit a some is = over (file_of n) (exceeded_limit (stopped n)) limit a some is

pub resumed_bytes : (f : SavedState) (n : Script) (es : List Step) (b : WorldView) (bytes : List ℕ) → IsResumed f es b → n ≡ f.scenario → bytes ≡ report n.setup (shown_world b)
    → bytes ≡ resumed_report f es
resumed_bytes f n es b bytes r same is = shown_resumed f es b bytes r (is ∙ ap (λ (m : Script). report m.setup (shown_world b)) same)

pub resumed_whole : (f : SavedState) (es : List Step) (bytes : List ℕ) → bytes ≡ resumed_report f es → (resumed_under all_limits f es).ended ≡ None
    → ok_answer bytes ≡ answer_to_resumed f (Ok es)
resumed_whole f es bytes is none = whole bytes (resumed_report f es) (resumed_under all_limits f es).ended is none

pub resumed_refused : (f : SavedState) (es : List Step) (limit : ℕ) (a : Answer) → (resumed_under all_limits f es).ended ≡ Some limit → a ≡ refused (status.TooLarge limit)
    → a ≡ answer_to_resumed f (Ok es)
resumed_refused f es limit a some is = over (resumed_report f es) (resumed_under all_limits f es).ended limit a some is

pub stepped_whole : (f : SavedState) (lines : List ℕ) (es : List Step) (bytes : List ℕ) → bytes ≡ steps_on f lines es → (resumed_under all_limits f es).ended ≡ None
    → ok_answer bytes ≡ answer_to_steps_on f lines (Ok es)
stepped_whole f lines es bytes is none = whole bytes (steps_on f lines es) (resumed_under all_limits f es).ended is none

pub stepped_refused : (f : SavedState) (lines : List ℕ) (es : List Step) (limit : ℕ) (a : Answer) → (resumed_under all_limits f es).ended ≡ Some limit → a ≡ refused (status.TooLarge limit)
    → a ≡ answer_to_steps_on f lines (Ok es)
stepped_refused f lines es limit a some is = over (steps_on f lines es) (resumed_under all_limits f es).ended limit a some is

pub file_answered : (v : GoingOn) (input rest : List ℕ) (f : SavedState) (used : ℕ) (r : Result Answer Memory) → IsLoaded input (Ok (f, used)) → rest ≡ drop used input
    → IfOk r (λ a. a ≡ answer_going_on v f rest) → IfOk r (IsAnswerToFile v input)
file_answered v input rest f used (Ok a) loaded behind is = (Ok (f, used), loaded, is ∙ ap (answer_going_on v f) behind)
file_answered v input rest f used (Err e) loaded behind is = tt

pub file_refused : (v : GoingOn) (input : List ℕ) (offset rule : ℕ) (r : Result Answer Memory) → IsLoaded input (Err (bad_state offset rule)) → IfOk r (λ a. a ≡ refused (status.BadState offset rule)) → IfOk r (IsAnswerToFile v input)
file_refused v input offset rule (Ok a) loaded is = (Err (bad_state offset rule), loaded, is)
file_refused v input offset rule (Err e) loaded is = tt

pub file_strange : (v : GoingOn) (input : List ℕ) (number : ℕ) (r : Result Answer Memory) → IsLoaded input (Err (version number)) → IfOk r (λ a. a ≡ refused (status.StateVersion number)) → IfOk r (IsAnswerToFile v input)
file_strange v input number (Ok a) loaded is = (Err (version number), loaded, is)
file_strange v input number (Err e) loaded is = tt

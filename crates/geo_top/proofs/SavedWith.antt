-- What is answered to what `save` wrote, with lines after it.
use Rattle.std.proofs.Common.{◌≡◌, ℕ, List, length, refl, ap, subst, ◌∙◌}
use Rattle.std.proofs.Math.Seq.{drop-append_seam}
use Rattle.std.specs.Prelude.{drop, Result, Ok, Err, IsOkAnd}
use Rattle.geo_base.specs.declared.event.Step.{Step}
use Rattle.script_text.specs.Schedule.{schedule_of}
use Rattle.script_text.specs.Script.{Script}
use Rattle.state_file.specs.Loading.{IsLoaded, Loaded}
use Rattle.state_file.specs.State.{SavedState}
use Rattle.state_file.proofs.One.{loaded_one}
use Rattle.geo_top.specs.declared.top.answer.Answer.{Answer}
use Rattle.geo_top.specs.declared.top.command.GoingOn.TheVariants as going_on
use Rattle.geo_top.specs.OneRun.{IsSavedWith}
use Rattle.geo_top.specs.Outputs.{IsAnswerToFile, answer_to_loaded, answer_to_resumed}
use Rattle.run_report.specs.States.{file_of, state_of_run}
use Rattle.geo_top.proofs.Loaded.{loaded_again}

-- the lines after the file's bytes
lines_behind : (n : Script) (lines input : List ℕ) → IsSavedWith n lines input → drop (length (file_of n)) input ≡ lines
lines_behind n lines input k = ap (drop (length (file_of n))) k.is ∙ drop-append_seam (file_of n) lines

-- what is loaded of these bytes is the state that was saved
state_loaded : (n : Script) (lines input : List ℕ) (l : Loaded) → IsSavedWith n lines input → IsLoaded input l → l ≡ Ok (state_of_run n, length (file_of n))
state_loaded n lines input l k loaded = loaded_one input l (Ok (state_of_run n, length (file_of n))) loaded (loaded_again n lines input k.kept k.is k.read)

pub answer_is : (n : Script) (lines input : List ℕ) (a : Answer) → IsSavedWith n lines input → IsAnswerToFile going_on.Report input a → a ≡ answer_to_resumed (state_of_run n) (schedule_of n.setup lines)
answer_is n lines input a k is =
    is.2 ∙ (ap (answer_to_loaded going_on.Report input) (state_loaded n lines input is.0 k is.1) ∙ ap (λ (bytes : List ℕ). answer_to_resumed (state_of_run n) (schedule_of n.setup bytes)) (lines_behind n lines input k))

-- what holds of the state that is loaded and the steps after it
abbrev HoldsLoaded : (SavedState → List Step → Type 0) → List ℕ → SavedState × ℕ → Type 0
HoldsLoaded P input x = IsOkAnd (schedule_of x.0.scenario.setup (drop x.1 input)) (P x.0)

same_pair : (l : Loaded) (x y : SavedState × ℕ) → l ≡ Ok x → l ≡ Ok y → x ≡ y
same_pair l x y e f = cc (e, f)

pub loaded_holds : (n : Script) (lines input : List ℕ) (f : SavedState) (used : ℕ) (P : SavedState → List Step → Type 0) → IsSavedWith n lines input → IsLoaded input (Ok (f, used))
    → IsOkAnd (schedule_of f.scenario.setup (drop used input)) (P f) → IsOkAnd (schedule_of n.setup lines) (P (state_of_run n))
loaded_holds n lines input f used P k loaded h =
    let same : (f, used) ≡ (state_of_run n, length (file_of n)) = same_pair (Ok (f, used)) (f, used) (state_of_run n, length (file_of n)) refl (state_loaded n lines input (Ok (f, used)) k loaded) in
    let there : HoldsLoaded P input (state_of_run n, length (file_of n)) = subst (HoldsLoaded P input) same h in
    subst (λ (bytes : List ℕ). IsOkAnd (schedule_of n.setup bytes) (P (state_of_run n))) (lines_behind n lines input k) there

pub ok_maps : {T E : Type 0} (r : Result T E) (P Q : T → Type 0) → ((t : T) → P t → Q t) → IsOkAnd r P → IsOkAnd r Q
ok_maps (Ok t) P Q f h = f t h
ok_maps (Err e) P Q f h = h

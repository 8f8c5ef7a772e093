-- What `save` wrote is loaded again as the state that was saved.
use Rattle.std.proofs.Common.{◌≡◌, ℕ, ◌+◌, ◌≤◌, List, ◌++◌, length, refl, sym, ap, subst, ◌∙◌, inl, arith}
use Rattle.std.proofs.lemmas.List.{length-append}
use Rattle.std.specs.Prelude.{Option, Some, None, Ok}
use Rattle.geo_base.specs.Run.{all_limits, run}
use Rattle.script_text.specs.Script.{Script}
use Rattle.state_file.specs.Loading.{IsLoaded}
use Rattle.state_file.specs.State.{state_in}
use Rattle.state_file.specs.Texts.{body_text, magic, newest}
use Rattle.state_items.specs.Texts.{number, word}
use Rattle.kept_laws.specs.Saved.{IsLeft, IsShortState}
use Rattle.kept_laws.proofs.Left.{saved_law}
use Rattle.geo_top.specs.OneRun.{IsKept}
use Rattle.run_report.specs.Reports.{exceeded_limit}
use Rattle.run_report.specs.States.{file_of, state_of_run, stopped}
use Rattle.run_report.proofs.Limits.{unlimited}
use Rattle.geo_top.proofs.Stopping.{run_limit, stop_limit, stop_world}

-- where the run and the stop after it pass no limit, the run passes none
exceeds_none : (n : Script) (o : Option ℕ) → exceeded_limit n ≡ o → exceeded_limit (stopped n) ≡ None → exceeded_limit n ≡ None
exceeds_none n None is within = is
exceeds_none n (Some limit) is within = let some : exceeded_limit (stopped n) ≡ Some limit = run_limit n limit is in absurd (cc (some, within))

left : (n : Script) → IsKept n → IsLeft n n.steps (run n.setup n.steps) (state_of_run n)
left n k =
    let none : exceeded_limit n ≡ None = exceeds_none n (exceeded_limit n) refl k.within in
    record {
      comes = record { goes_on = none; world = inl (unlimited all_limits n.setup n.steps none) };
      within = sym (stop_limit n none) ∙ k.within;
      is = ap (state_in n) (stop_world n);
    }

-- a file that is read is far below 4 GiB
short : (n : Script) (lines input : List ℕ) → input ≡ file_of n ++ lines → length input ≤ 67108864 → IsShortState (state_of_run n)
short n lines input is few =
    let body = body_text (state_of_run n) in
    let sized = number (length body) ++ body in
    let whole : length input ≡ length (file_of n) + length lines = ap (λ (bytes : List ℕ). length bytes) is ∙ length-append (file_of n) lines in
    let file : length (file_of n) ≡ length magic + length (word newest ++ sized) = length-append magic (word newest ++ sized) in
    let behind : length (word newest ++ sized) ≡ length (word newest) + length sized = length-append (word newest) sized in
    let last : length sized ≡ length (number (length body)) + length body = length-append (number (length body)) body in
    omega (arith, whole, file, behind, last, few)

pub loaded_again : (n : Script) (lines input : List ℕ) → IsKept n → input ≡ file_of n ++ lines → length input ≤ 67108864
    → IsLoaded input (Ok (state_of_run n, length (file_of n)))
loaded_again n lines input k is few =
    subst (λ (bytes : List ℕ). IsLoaded bytes (Ok (state_of_run n, length (file_of n)))) (sym is)
    (saved_law.loaded n k.scenario n.steps (run n.setup n.steps) (state_of_run n) lines (left n k) (short n lines input is few))

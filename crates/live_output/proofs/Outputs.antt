-- What is written of logs: the report and the schedule of a run.
use Rattle.std.proofs.Common.{◌≡◌, ℕ, List, [], ◌++◌, sym, ap, subst, ◌∙◌, append_assoc}
use Rattle.std.specs.Prelude.{All, None, Result, Ok, Err, IfOk, OnOk, codes}
use Rattle.geo_base.specs.declared.event.Step.{Step}
use Rattle.geo_base.specs.declared.memory.Memory.{Memory}
use Rattle.geo_base.specs.NodeState.{NodeState}
use Rattle.geo_base.specs.Report.{report}
use Rattle.geo_base.specs.Scripted.{IsScripted}
use Rattle.script_text.specs.Naming.{names_of}
use Rattle.script_text.specs.Schedule.{schedule_of, schedule_text}
use Rattle.script_text.specs.Script.{Script}
use Rattle.merge_history.specs.declared.merge.Merged.{Merged}
use Rattle.merge_history.specs.Logs.{LogView}
use Rattle.merge_history.specs.Ends.{layout_of}
use Rattle.merge_history.specs.Events.{AreMergedEvents, AreOwnEvents}
use Rattle.merge_history.specs.Merges.{IsMerged}
use Rattle.merge_history.proofs.Allowed.{merged_may}
use Rattle.world.specs.World.{WorldView}
use Rattle.run_report.specs.Reports.{exceeded_limit, report_of}
use Rattle.run_report.specs.Shown.{shown_world}
use Rattle.run_report.proofs.Claims.{holds_of}
use Rattle.run_report.proofs.Shown.{shown_report}
use Rattle.live_output.specs.LiveRuns.{IsOutputOf, IsOutputOfAll, TellsRun, live_text}
use Rattle.live_output.specs.Playing.{IsEventStep, IsPlayed, with_steps}
use Rattle.live_output.specs.Schedules.{EndsSettled, longest, scheduled, with_settling}
use Rattle.live_output.proofs.Events.{all_steps}
use Rattle.live_output.proofs.Longest.{settled_law}

-- what was done is what is scheduled
played_is : (c : Script) (es replayed played : List Step) → replayed ≡ longest c.setup [] es → played ≡ with_settling c.setup replayed → played ≡ scheduled c.setup es
played_is c es replayed played is settled = settled ∙ ap (with_settling c.setup) is

output_of_all : (c : Script) (bs : List LogView) (es : List Step) (output : List ℕ) → AreMergedEvents c.setup bs es → output ≡ live_text c (scheduled c.setup es)
    → IsOutputOfAll c bs output
output_of_all c bs es output merged text = record { events = es; merged = merged; text = text }

counted_output : (c : Script) (bs : List LogView) (es : List Step) (output : List ℕ) → AreOwnEvents c bs es → output ≡ live_text c (scheduled c.setup es)
    → IsOutputOf c bs output
counted_output c bs es output merged text = record {
  kept = merged.kept;
  counts = merged.counts;
  said = merged.said;
  stands = merged.stands;
  text = text ∙ ap (λ (es : List Step). live_text c (scheduled c.setup es)) merged.steps;
}

-- of a merge
pub steps_known : (c : Script) (bs : List LogView) (st : ℕ → NodeState) (m : Merged) → IsMerged c bs st m → All (IsEventStep c.setup) m.steps
steps_known c bs st m merged =
    subst (All (IsEventStep c.setup)) (sym merged.steps) (all_steps c.setup _ (merged_may c.setup (layout_of c.setup) merged.kept merged.said merged.stands))

pub output_is : (c : Script) (bs : List LogView) (st : ℕ → NodeState) (m : Merged) (output : List ℕ) → IsMerged c bs st m → output ≡ live_text c (scheduled c.setup m.steps)
    → IsOutputOf c bs output
output_is c bs st m output merged text =
    counted_output c bs m.steps output (record { kept = merged.kept; counts = merged.counts; said = merged.said; stands = merged.stands; steps = merged.steps }) text

pub of_all_if : (c : Script) (bs : List LogView) (es : List Step) (r : Result (List ℕ) Memory) → AreMergedEvents c.setup bs es → IfOk r (λ output. output ≡ live_text c (scheduled c.setup es))
    → IfOk r (IsOutputOfAll c bs)
of_all_if c bs es (Ok output) merged text = output_of_all c bs es output merged text
of_all_if c bs es (Err m) merged text = tt

pub of_books_if : (c : Script) (bs : List LogView) (es : List Step) (r : Result (List ℕ) Memory) → AreOwnEvents c bs es → IfOk r (λ output. output ≡ live_text c (scheduled c.setup es))
    → IfOk r (IsOutputOf c bs)
of_books_if c bs es (Ok output) merged text = counted_output c bs es output merged text
of_books_if c bs es (Err m) merged text = tt

pub text_of : (c : Script) (es replayed played : List Step) (output : List ℕ) → replayed ≡ longest c.setup [] es → played ≡ with_settling c.setup replayed
    → output ≡ live_text c played → output ≡ live_text c (scheduled c.setup es)
text_of c es replayed played output is settled text = text ∙ ap (live_text c) (played_is c es replayed played is settled)

-- and it is a run of which every claim on a script's run holds
run_is : (c : Script) (es replayed played : List Step) (b : WorldView) (output : List ℕ) → replayed ≡ longest c.setup [] es → played ≡ with_settling c.setup replayed
    → IsPlayed c played b → schedule_of c.setup (schedule_text (names_of c.setup) played) ≡ Ok played → output ≡ live_text c played → TellsRun c output
run_is c es replayed played b output is settled at back text =
    let n = with_steps c played in
    let scripted : IsScripted c.setup = at.finished.at.setup in
    let none : exceeded_limit n ≡ None = at.finished.unlimited in
    record {
      schedule = played;
      run = record {
        steps = at.known;
        reads_back = back;
        within = none;
        last = subst (λ (fs : List Step). EndsSettled c.setup fs) (sym (played_is c es replayed played is settled)) (settled_law c.setup es);
        holds = holds_of n scripted none;
      };
      text = text;
    }

pub tells : (c : Script) (es replayed played : List Step) (b : WorldView) (r : Result (List ℕ) Memory) → replayed ≡ longest c.setup [] es → played ≡ with_settling c.setup replayed
    → IsPlayed c played b → OnOk r (schedule_of c.setup (schedule_text (names_of c.setup) played) ≡ Ok played) → IfOk r (λ output. output ≡ live_text c played) → IfOk r (TellsRun c)
tells c es replayed played b (Ok output) is settled at back text = run_is c es replayed played b output is settled at back text
tells c es replayed played b (Err e) is settled at back text = tt

-- the bytes, piece by piece
pub text_is : (c : Script) (es : List Step) (b : WorldView) (head mid lines output : List ℕ) → IsPlayed c es b → head ≡ report c.setup (shown_world b)
    → mid ≡ head ++ codes "schedule\n" → lines ≡ schedule_text (names_of c.setup) es → output ≡ mid ++ lines → output ≡ live_text c es
text_is c es b head mid lines output at is more written whole =
    let told : head ≡ report_of (with_steps c es) = shown_report (with_steps c es) b head at.finished is in
    whole ∙ (ap (λ (xs : List ℕ). xs ++ lines) more ∙ (append_assoc head (codes "schedule\n") lines
    ∙ (ap (λ (xs : List ℕ). xs ++ (codes "schedule\n" ++ lines)) told ∙ ap (λ (xs : List ℕ). report_of (with_steps c es) ++ (codes "schedule\n" ++ xs)) written)))

-- How a run of the program ends: in the world of the machine's run, or at the limit that it passes.
use Rattle.std.proofs.Common.{◌≡◌, ℕ, List, sym, ap, subst, ◌∙◌}
use Rattle.std.specs.Prelude.{Some, None, Result, Ok, Err, OnOk}
use Rattle.geo_base.specs.declared.event.Step.{Step}
use Rattle.geo_base.specs.Run.{all_limits, run_from, run_under}
use Rattle.geo_base.specs.Setup.{Setup}
use Rattle.geo_base.specs.World.{World, opening_world}
use Rattle.world.specs.declared.fault.RunFault.{RunFault}
use Rattle.world.specs.declared.fault.RunFault.TheVariants as fault
use Rattle.world.specs.Runs.{Comes, at_world}
use Rattle.world.specs.World.{IsAt, WorldView, kept_of}
use Rattle.script_generator.specs.Generated.{generated_run}
use Rattle.script_text.specs.Script.{Script}
use Rattle.kept_laws.specs.Kept.{Kept, opening_kept}
use Rattle.kept_laws.specs.Standing.{Stands}
use Rattle.kept_laws.proofs.Keeping.{opening}
use Rattle.kept_laws.proofs.Reaching.{opening_reached}
use Rattle.kept_laws.specs.Reached.{Reached}
use Rattle.geo_top.specs.declared.top.answer.Answer.{Answer}
use Rattle.geo_top.specs.declared.top.command.Shown.{Shown}
use Rattle.geo_top.specs.declared.top.status.Status.TheVariants as status
use Rattle.run_report.specs.Finished.{IsFinished}
use Rattle.geo_top.specs.Outputs.{answer_to_big, answer_to_generated, answer_to_run, output_of, refused, summary_of}
use Rattle.run_report.specs.Reports.{exceeded_limit}
use Rattle.run_report.proofs.Limits.{unlimited}

-- the steps of a script, done from its opening world
abbrev ComesTo : Setup → WorldView → WorldView → List Step → Result (Unit {0}) RunFault → Type 0
ComesTo s old new es r = (w : World) → Reached s w → Stands s (kept_of old) w → Comes s new (run_from all_limits s (at_world w) es) r

from_opening : (n : Script) (old new : WorldView) (es : List Step) (r : Result (Unit {0}) RunFault) → kept_of old ≡ opening_kept n.setup → es ≡ n.steps
    → ComesTo n.setup old new es r → Comes n.setup new (run_under all_limits n.setup n.steps) r
from_opening n old new es r opens is comes =
    let s = n.setup in
    subst (λ (es : List Step). Comes s new (run_from all_limits s (at_world (opening_world s)) es) r) is
    (comes (opening_world s) (opening_reached s) (subst (λ (k : Kept). Stands s k (opening_world s)) (sym opens) (opening s)))

ok_of : (X : Type 0) (r : Result (Unit {0}) RunFault) (u : Unit {0}) → r ≡ Ok u → OnOk r X → X
ok_of X r u is h = subst (λ (r : Result (Unit {0}) RunFault). OnOk r X) is h

pub finished : (n : Script) (old new : WorldView) (es : List Step) (r : Result (Unit {0}) RunFault) (u : Unit {0}) → kept_of old ≡ opening_kept n.setup → es ≡ n.steps
    → ComesTo n.setup old new es r → IsAt n.setup new → r ≡ Ok u → IsFinished n new
finished n old new es r u opens is comes at ok =
    let c : Comes n.setup new (run_under all_limits n.setup n.steps) r = from_opening n old new es r opens is comes in
    let d = ok_of _ r u ok c.done in
    record {
      unlimited = d.1;
      at = at;
      stands = subst (λ (w : World). Stands n.setup (kept_of new) w) (unlimited all_limits n.setup n.steps d.1) d.0;
    }

pub passed : (n : Script) (old new : WorldView) (es : List Step) (r : Result (Unit {0}) RunFault) (f : RunFault) (limit : ℕ) → kept_of old ≡ opening_kept n.setup → es ≡ n.steps
    → ComesTo n.setup old new es r → r ≡ Err f → f ≡ fault.TooLarge limit → exceeded_limit n ≡ Some limit
passed n old new es r f limit opens is comes err large =
    ((from_opening n old new es r opens is comes).large limit (err ∙ ap (λ (f : RunFault). Err f) large)).1

-- the answers
abbrev ok_answer : List ℕ → Answer
ok_answer bytes = record { status = status.Ok; bytes = bytes }

pub shown_whole : (v : Shown) (n : Script) (bytes : List ℕ) → exceeded_limit n ≡ None → bytes ≡ output_of v n → ok_answer bytes ≡ answer_to_run v n (exceeded_limit n)
shown_whole v n bytes within is = ap ok_answer is ∙ sym (ap (answer_to_run v n) within)

pub refused_run : (v : Shown) (n : Script) (limit : ℕ) (a : Answer) → exceeded_limit n ≡ Some limit → a ≡ refused (status.TooLarge limit) → a ≡ answer_to_run v n (exceeded_limit n)
refused_run v n limit a some is = is ∙ sym (ap (answer_to_run v n) some)

pub summed : (number : ℕ) (n : Script) (bytes : List ℕ) → n ≡ generated_run number → exceeded_limit n ≡ None → bytes ≡ summary_of number → ok_answer bytes ≡ answer_to_big number
summed number n bytes generated none is =
    ap ok_answer is ∙ sym (ap (answer_to_generated number) (ap exceeded_limit (sym generated) ∙ none))

pub refused_big : (number : ℕ) (n : Script) (limit : ℕ) (a : Answer) → n ≡ generated_run number → exceeded_limit n ≡ Some limit → a ≡ refused (status.TooLarge limit)
    → a ≡ answer_to_big number
refused_big number n limit a generated some is = is ∙ sym (ap (answer_to_generated number) (ap exceeded_limit (sym generated) ∙ some))

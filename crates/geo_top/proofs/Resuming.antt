-- How a run ends that goes on from a state: in the world of the machine's run, or at the limit that it passes.
use Rattle.std.proofs.Common.{◌≡◌, ℕ, List, subst}
use Rattle.std.specs.Prelude.{Some, Result, Ok, Err, OnOk}
use Rattle.geo_base.specs.declared.event.Step.{Step}
use Rattle.geo_base.specs.Run.{all_limits, run_from}
use Rattle.geo_base.specs.World.{World}
use Rattle.world.specs.declared.fault.RunFault.{RunFault}
use Rattle.world.specs.declared.fault.RunFault.TheVariants as fault
use Rattle.world.specs.Runs.{Comes, at_world}
use Rattle.kept_laws.specs.Saved.{world_from}
use Rattle.world.specs.World.{IsAt, WorldView, kept_of}
use Rattle.script_text.specs.Script.{Script}
use Rattle.state_file.specs.State.{SavedState}
use Rattle.kept_laws.specs.Reached.{Reached}
use Rattle.kept_laws.specs.Standing.{Stands}
use Rattle.run_report.specs.Finished.{IsBegun, IsResumed}
use Rattle.run_report.specs.States.{resumed_under}
use Rattle.run_report.proofs.Limits.{unlimited_from}

-- what a run of these steps leaves, by the setup of a script
abbrev pub Runs : Script → WorldView → WorldView → List Step → Result (Unit {0}) RunFault → Type 0
Runs n old new es r = (w : World) → Reached n.setup w → Stands n.setup (kept_of old) w → Comes n.setup new (run_from all_limits n.setup (at_world w) es) r

ok_of : (X : Type 0) (r : Result (Unit {0}) RunFault) (u : Unit {0}) → r ≡ Ok u → OnOk r X → X
ok_of X r u is h = subst (λ (r : Result (Unit {0}) RunFault). OnOk r X) is h

pub resumed_ends : (f : SavedState) (n : Script) (old new : WorldView) (es : List Step) (r : Result (Unit {0}) RunFault) (u : Unit {0}) → n ≡ f.scenario → IsBegun f old → Runs n old new es r → IsAt n.setup new → r ≡ Ok u → IsResumed f es new
resumed_ends f n old new es r u same b runs at ok =
    let s = f.scenario.setup in
    let comes : Comes s new (resumed_under all_limits f es) r = subst (λ (m : Script). Runs m old new es r) same runs (world_from f) b.reached b.stands in
    let d = ok_of _ r u ok comes.done in
    record {
      unlimited = d.1;
      at = subst (λ (m : Script). IsAt m.setup new) same at;
      stands = subst (λ (w : World). Stands s (kept_of new) w) (unlimited_from all_limits s (world_from f) es d.1) d.0;
    }

pub resumed_exceeds : (f : SavedState) (n : Script) (old new : WorldView) (es : List Step) (r : Result (Unit {0}) RunFault) (limit : ℕ) → n ≡ f.scenario → IsBegun f old → Runs n old new es r → r ≡ Err (fault.TooLarge limit) → (resumed_under all_limits f es).ended ≡ Some limit
resumed_exceeds f n old new es r limit same b runs e =
    let s = f.scenario.setup in
    let comes : Comes s new (resumed_under all_limits f es) r = subst (λ (m : Script). Runs m old new es r) same runs (world_from f) b.reached b.stands in
    (comes.large limit e).1

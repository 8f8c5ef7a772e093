-- What is sought or deleted everywhere begins anew, in the run of a script that passes no limit.
use Rattle.std.proofs.Common.{◌≡◌, ℕ, List, [], ◌∷◌, ◌++◌, sym, ap, subst, ◌∙◌, append_assoc}
use Rattle.std.specs.Prelude.{Option, None}
use Rattle.geo_base.specs.declared.event.Step.TheVariants as step
use Rattle.geo_base.specs.declared.event.Step.{Step}
use Rattle.geo_base.specs.Laws.{IsShort, begun}
use Rattle.geo_base.specs.Moments.{Settling, settling_so_far}
use Rattle.geo_base.specs.Run.{Ran, no_limits, run, run_from, run_under}
use Rattle.geo_base.specs.Scripted.{IsScripted}
use Rattle.geo_base.specs.Setup.{Setup}
use Rattle.geo_base.specs.World.{opening_world}
use Rattle.script_text.specs.Script.{Script}
use Rattle.world_laws.specs.AlikeWorlds.{world_on}
use Rattle.consumer_laws.specs.Anew.{all_sought}
use Rattle.consumer_laws.proofs.Fences.Law.{anew_holds}
use Rattle.run_report.specs.Claims.{BeginsAnew}
use Rattle.run_report.specs.Reports.{exceeded_limit}
use Rattle.run_report.proofs.Limits.{never_ends}
use Rattle.run_report.proofs.Quiet.{run_append}
use Rattle.run_report.proofs.ShortSettling.{part_short}

open_at : (r : Ran) → r.ended ≡ None → r ≡ begun r.world
open_at r none = ap (λ (o : Option ℕ). record { world = r.world; ended = o }) none

-- further steps go on from the world that the first ones lead to
steps_on : (s : Setup) (before between : List Step) → run_under no_limits s (before ++ between) ≡ run_from no_limits s (begun (run s before)) between
steps_on s before between =
    run_append no_limits s (begun (opening_world s)) before between ∙ ap (λ (r : Ran). run_from no_limits s r between) (open_at (run_under no_limits s before) (never_ends s before))

module _ (n : Script) (scripted : IsScripted n.setup) (none : exceeded_limit n ≡ None) where
  short_on : (before between rest : List Step) (at : Settling) → n.steps ≡ before ++ (between ++ rest) → IsShort (world_on n.setup (run n.setup before) between at)
  short_on before between rest at is =
      let s = n.setup in
      subst (λ (r : Ran). IsShort (settling_so_far no_limits s r at).world) (steps_on s before between)
      (part_short s scripted n.steps (before ++ between) rest (is ∙ sym (append_assoc before between rest)) none at)

  -- also from where some of them lead
  short_from : (before between more rest : List Step) (at : Settling) → n.steps ≡ before ++ (between ++ (more ++ rest))
      → IsShort (world_on n.setup (run_from no_limits n.setup (begun (run n.setup before)) between).world more at)
  short_from before between more rest at is =
      let s = n.setup in
      subst (λ (r : Ran). IsShort (world_on s r.world more at)) (steps_on s before between)
      (short_on (before ++ between) more rest at (is ∙ sym (append_assoc before between (more ++ rest))))

  pub begins_anew : BeginsAnew n
  begins_anew = record {
    sought = λ es fs rest t m to xs at is topic sub clusters stored.
        anew_holds.sought n.setup scripted es t m to xs fs at topic sub clusters stored (short_on (es ++ step.Settle ∷ []) (all_sought t m to xs ++ fs) rest at is);
    deleted = λ es ks fs rest t sub at is topic nowhere quiet.
        anew_holds.deleted n.setup scripted es ks fs at t sub topic nowhere quiet (short_from (es ++ step.Settle ∷ []) ks fs rest at is);
  }

-- What was handed out in the run of a script that passes no limit, and in which order.
use Rattle.std.proofs.Common.{◌≡◌}
use Rattle.std.specs.Prelude.{None, take}
use Rattle.geo_base.specs.Moments.{world_between}
use Rattle.geo_base.specs.Planned.{planned}
use Rattle.geo_base.specs.Run.{no_limits}
use Rattle.geo_base.specs.Scripted.{IsScripted}
use Rattle.script_text.specs.Script.{Script}
use Rattle.world_laws.specs.Telling.{AlwaysToldIn, BetweenToldIn}
use Rattle.consumer_laws.specs.Handed.{OnlyHanded, handing}
use Rattle.consumer_laws.specs.InOrder.{FirstInOrder, GetsInOrder}
use Rattle.consumer_laws.proofs.Runs.Law.{law_holds}
use Rattle.run_report.specs.Claims.{IsGotUnlessSkipped}
use Rattle.run_report.specs.Reports.{exceeded_limit}
use Rattle.run_report.proofs.ShortSettling.{taken_short, written_short}

-- such a run is short at each of its moments
module _ (n : Script) (scripted : IsScripted n.setup) (none : exceeded_limit n ≡ None) where
  pub handed_in : AlwaysToldIn (handing n.setup) n.setup n.steps (λ w handed. OnlyHanded n.setup w handed)
  handed_in =
      let s = n.setup in
      let law = law_holds.handed s scripted in
      record {
        between = λ k at. law.between no_limits (take k n.steps) at (taken_short s scripted n.steps none k at);
        moment = λ k at e writes.
            let w = world_between no_limits s (take k n.steps) at in
            law.moment no_limits (record { steps = take k n.steps; settling = at; event = e; writes = writes })
            (written_short s w writes (planned s w e) (taken_short s scripted n.steps none k at));
      }

  pub got_in : IsGotUnlessSkipped n
  got_in earliest k at unsought =
      let s = n.setup in law_holds.got s scripted earliest no_limits (take k n.steps) at unsought (taken_short s scripted n.steps none k at)

  pub in_order_in : BetweenToldIn (handing n.setup) n.setup n.steps (λ w handed. GetsInOrder n.setup w handed × FirstInOrder n.setup w handed)
  in_order_in =
      let s = n.setup in
      record {
        between = λ k at.
            let short = taken_short s scripted n.steps none k at in
            ((law_holds.in_order s scripted).between no_limits (take k n.steps) at short, (law_holds.first s scripted).between no_limits (take k n.steps) at short);
      }

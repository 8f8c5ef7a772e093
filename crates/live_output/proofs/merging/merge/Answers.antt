use Rattle.std.proofs.Common.{ap, ◌∙◌}
use Rattle.std.specs.Arc.{arc_value}
use Rattle.live_output.specs.Lists.{views_of}
use Rattle.live_output.proofs.Lists.{merge_of_list}
use Rattle.live_output.proofs.merging.merge.Goals as goal

pub returns : goal.returns
returns g c =
    merge_of_list (arc_value c.args.scenario.now) c.args.logs.now c.as_slice-2.result.now c.merge_logs.result
    (c.as_slice-2.ensures.value ∙ (c.in_ok-views.ensures ∙ ap (λ bs. views_of bs) c.as_slice.ensures.logs)) c.as_slice.ensures.replayed c.merge_logs.ensures

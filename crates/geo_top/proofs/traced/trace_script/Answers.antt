use Rattle.std.proofs.Common.{◌∙◌}
use Rattle.geo_top.proofs.Finishing.{finished, passed}
use Rattle.geo_top.proofs.TracedRuns.{traced_run}
use Rattle.geo_top.proofs.traced.trace_script.Goals as goal

pub returns-in-Ok-clause-done : goal.returns-in-Ok-clause-done
returns-in-Ok-clause-done c =
    c.into_text.ensures
    ∙ traced_run c.args.scenario.now c.in_ok-world.world c.steps.result.now c.behind-trace.result.telling.text c.run-told.new.self.telling.text c.run-told.result c.in-Ok.field-0 c.in_ok-world.ensures.kept c.steps.ensures.steps
    (c.behind-trace.ensures ∙ c.in_ok-head.ensures) c.run-told.ensures.told c.in-Ok.is

pub returns-in-Ok-clause-within : goal.returns-in-Ok-clause-within
returns-in-Ok-clause-within c =
    (finished c.args.scenario.now c.in_ok-world.world c.run-told.new.world c.steps.result.now c.run-told.result c.in-Ok.field-0 c.in_ok-world.ensures.kept c.steps.ensures.steps
    c.run-told.ensures.comes c.run-told.ensures.at c.in-Ok.is).unlimited

pub returns-in-Err-clause-large : goal.returns-in-Err-clause-large
returns-in-Err-clause-large c limit large =
    passed c.args.scenario.now c.in_ok-world.world c.run-told.new.world c.steps.result.now c.run-told.result c.in-Err.fault limit c.in_ok-world.ensures.kept c.steps.ensures.steps
    c.run-told.ensures.comes c.in-Err.is (cc large)

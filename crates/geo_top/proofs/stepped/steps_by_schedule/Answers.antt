use Rattle.geo_top.proofs.SaidSteps.{rises_on, said_on}
use Rattle.geo_top.proofs.SteppedRuns.{scheduled_run, stepped_large, stepped_within}
use Rattle.geo_top.proofs.stepped.steps_by_schedule.Goals as goal

pub tell-told-requires-clause-many : goal.tell-told-requires-clause-many
tell-told-requires-clause-many c = said_on c.args.scenario.now.setup c.in_ok-lines.lines c.steps-steps.result.now c.behind-said.result (c.in_ok-lines.ensures.back (rw (← c.steps-steps.ensures.steps) at c.steps-steps.ensures.each)) (rw c.as_slice.ensures at c.behind-said.ensures)

pub tell-told-requires-clause-rises : goal.tell-told-requires-clause-rises
tell-told-requires-clause-rises c = rises_on c.in_ok-lines.lines c.behind-said.result (rw c.as_slice.ensures at c.behind-said.ensures)

pub returns-clause-done : goal.returns-clause-done
returns-clause-done c =
    scheduled_run c.args.scenario.now c.in_ok-lines.lines c.in_ok-world.world c.steps-steps.result.now c.behind-said.result c.tell-told.result c.in_ok-world.ensures.kept c.steps-steps.ensures.steps
    c.in_ok-lines.ensures.text (rw c.as_slice.ensures at c.behind-said.ensures) c.tell-told.ensures.told

pub returns-clause-within : goal.returns-clause-within
returns-clause-within c =
    stepped_within c.args.scenario.now c.in_ok-world.world c.steps-steps.result.now c.tell-told.result c.in_ok-world.ensures.kept c.steps-steps.ensures.steps c.tell-told.ensures.within

pub returns-clause-large : goal.returns-clause-large
returns-clause-large c limit large =
    stepped_large c.args.scenario.now c.in_ok-world.world c.steps-steps.result.now limit c.in_ok-world.ensures.kept c.steps-steps.ensures.steps (c.tell-told.ensures.large limit large)

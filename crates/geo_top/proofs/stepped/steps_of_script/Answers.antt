use Rattle.geo_top.proofs.SteppedRuns.{stepped_large, stepped_run, stepped_within}
use Rattle.geo_top.proofs.stepped.steps_of_script.Goals as goal

pub returns-clause-done : goal.returns-clause-done
returns-clause-done c =
    stepped_run c.args.text.now c.args.scenario.now c.in_ok-world.world c.steps.result.now c.said_of-said.result c.tell-told.result c.in_ok-world.ensures.kept c.steps.ensures.steps
    c.said_of-said.ensures.said c.tell-told.ensures.told

pub returns-clause-within : goal.returns-clause-within
returns-clause-within c =
    stepped_within c.args.scenario.now c.in_ok-world.world c.steps.result.now c.tell-told.result c.in_ok-world.ensures.kept c.steps.ensures.steps c.tell-told.ensures.within

pub returns-clause-large : goal.returns-clause-large
returns-clause-large c limit large =
    stepped_large c.args.scenario.now c.in_ok-world.world c.steps.result.now limit c.in_ok-world.ensures.kept c.steps.ensures.steps (c.tell-told.ensures.large limit large)

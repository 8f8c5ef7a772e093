use Rattle.state_file.specs.State.{state_of}
use Rattle.geo_top.proofs.SaidSteps.{rises_on, said_on}
use Rattle.geo_top.proofs.SteppedRuns.{stepped_on, stepped_on_large, stepped_on_within}
use Rattle.geo_top.proofs.stepped.steps_on_state.Goals as goal

pub tell-told-requires-clause-many : goal.tell-told-requires-clause-many
tell-told-requires-clause-many c = said_on (state_of c.args.saved).scenario.setup c.args.lines.now c.args.steps.now c.behind-said.result (c.requires.said) c.behind-said.ensures

pub tell-told-requires-clause-rises : goal.tell-told-requires-clause-rises
tell-told-requires-clause-rises c = rises_on c.args.lines.now c.behind-said.result c.behind-said.ensures

pub returns-clause-done : goal.returns-clause-done
returns-clause-done c =
    stepped_on (state_of c.args.saved) c.in_ok-scenario.scenario c.args.lines.now c.in_ok-scenario.world c.args.steps.now c.behind-said.result c.tell-told.result c.in_ok-scenario.ensures.scenario
    (c.in_ok-scenario.ensures.reached, c.in_ok-scenario.ensures.stands) c.behind-said.ensures c.tell-told.ensures.told

pub returns-clause-within : goal.returns-clause-within
returns-clause-within c =
    stepped_on_within (state_of c.args.saved) c.in_ok-scenario.scenario c.in_ok-scenario.world c.args.steps.now c.tell-told.result c.in_ok-scenario.ensures.scenario
    (c.in_ok-scenario.ensures.reached, c.in_ok-scenario.ensures.stands) c.tell-told.ensures.within

pub returns-clause-large : goal.returns-clause-large
returns-clause-large c limit large =
    stepped_on_large (state_of c.args.saved) c.in_ok-scenario.scenario c.in_ok-scenario.world c.args.steps.now limit c.in_ok-scenario.ensures.scenario
    (c.in_ok-scenario.ensures.reached, c.in_ok-scenario.ensures.stands) (c.tell-told.ensures.large limit large)

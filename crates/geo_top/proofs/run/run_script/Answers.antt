use Rattle.geo_top.proofs.Finishing.{finished, passed}
use Rattle.geo_top.proofs.run.run_script.Goals as goal

pub returns-in-Ok-clause-done : goal.returns-in-Ok-clause-done
returns-in-Ok-clause-done c =
    finished c.args.scenario.now c.in_ok-world.world c.run.new.self c.steps.result.now c.run.result c.in-Ok.field-0 c.in_ok-world.ensures.kept c.steps.ensures.steps
    c.run.ensures.comes c.run.ensures.at c.in-Ok.is

pub returns-in-Err-clause-large : goal.returns-in-Err-clause-large
returns-in-Err-clause-large c limit large =
    passed c.args.scenario.now c.in_ok-world.world c.run.new.self c.steps.result.now c.run.result c.in-Err.fault limit c.in_ok-world.ensures.kept c.steps.ensures.steps
    c.run.ensures.comes c.in-Err.is (cc large)

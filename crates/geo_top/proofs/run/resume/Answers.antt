use Rattle.state_file.specs.State.{state_of}
use Rattle.geo_top.proofs.Resuming.{resumed_ends}
use Rattle.geo_top.proofs.run.resume.Goals as goal

pub returns-in-Ok-clause-done : goal.returns-in-Ok-clause-done
returns-in-Ok-clause-done c =
    let b = c.in_ok-scenario.ensures in
    resumed_ends (state_of c.args.saved) c.in_ok-scenario.scenario c.in_ok-scenario.world c.run.new.self c.args.steps.now c.run.result c.in-Ok.field-0 b.scenario
    (record { at = b.at; reached = b.reached; stands = b.stands }) c.run.ensures.comes c.run.ensures.at c.in-Ok.is

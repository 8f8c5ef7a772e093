use Rattle.script_generator.proofs.InRange.{is_scenario}
use Rattle.script_generator.proofs.run.generate.Goals as goal

pub returns-clause-scenario : goal.returns-clause-scenario
returns-clause-scenario c = is_scenario _ c.args.number c.in_ok-parts.ensures

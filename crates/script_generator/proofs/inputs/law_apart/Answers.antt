use Rattle.script_generator.proofs.Behind.{apart_law}
use Rattle.script_generator.proofs.inputs.law_apart.Goals as goal

pub returns : goal.returns
returns c = apart_law

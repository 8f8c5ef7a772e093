use Rattle.links.proofs.Simulated.{taken_stands}
use Rattle.links.proofs.laws.law_taken.Goals as goal

pub returns : goal.returns
returns c = taken_stands

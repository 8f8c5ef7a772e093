use Rattle.links.proofs.Simulated.{opening_stands}
use Rattle.links.proofs.laws.law_opening.Goals as goal

pub returns : goal.returns
returns c = opening_stands

use Rattle.links.proofs.Simulated.{stopped_stands}
use Rattle.links.proofs.laws.law_discarded.Goals as goal

pub returns : goal.returns
returns c = stopped_stands

use Rattle.links.proofs.Simulated.{broker_stands}
use Rattle.links.proofs.laws.law_broker.Goals as goal

pub returns : goal.returns
returns c = broker_stands

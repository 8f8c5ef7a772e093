use Rattle.failover_laws.proofs.Offering.OfferedOn.{offered_law}
use Rattle.failover_laws.proofs.moves.law_offered.Goals as goal

pub returns : goal.returns
returns c = offered_law

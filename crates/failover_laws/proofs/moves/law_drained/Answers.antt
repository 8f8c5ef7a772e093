use Rattle.failover_laws.proofs.DrainedGiven.{drained_law}
use Rattle.failover_laws.proofs.moves.law_drained.Goals as goal

pub returns : goal.returns
returns c = drained_law

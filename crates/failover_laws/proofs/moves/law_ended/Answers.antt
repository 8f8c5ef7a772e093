use Rattle.failover_laws.proofs.Ending.Snapped.{ended_law}
use Rattle.failover_laws.proofs.moves.law_ended.Goals as goal

pub returns : goal.returns
returns c = ended_law

use Rattle.failover_laws.proofs.Covers.Covering.{covers_law}
use Rattle.failover_laws.proofs.moves.law_covers.Goals as goal

pub returns : goal.returns
returns c = covers_law

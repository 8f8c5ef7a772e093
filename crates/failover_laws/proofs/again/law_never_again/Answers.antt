use Rattle.failover_laws.proofs.Never.{never_law}
use Rattle.failover_laws.proofs.again.law_never_again.Goals as goal

pub returns : goal.returns
returns c = never_law

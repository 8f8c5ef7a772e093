use Rattle.failover_laws.proofs.Proved.{law_holds}
use Rattle.failover_laws.proofs.again.law_again.Goals as goal

pub returns : goal.returns
returns c = law_holds

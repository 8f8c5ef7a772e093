use Rattle.failover_laws.proofs.Running.{run_follows}
use Rattle.failover_laws.proofs.again.law_follows.Goals as goal

pub returns : goal.returns
returns c = run_follows

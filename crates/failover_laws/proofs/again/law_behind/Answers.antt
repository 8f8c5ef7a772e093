use Rattle.failover_laws.proofs.Behind.{behind_always}
use Rattle.failover_laws.proofs.again.law_behind.Goals as goal

pub returns : goal.returns
returns c = record { always = behind_always }

use Rattle.failover_laws.proofs.GotLines.{got_law}
use Rattle.failover_laws.proofs.again.law_got.Goals as goal

pub returns : goal.returns
returns c = got_law

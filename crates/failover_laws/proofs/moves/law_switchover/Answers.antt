use Rattle.failover_laws.proofs.Acting.SwitchedOver.{switchover_law}
use Rattle.failover_laws.proofs.moves.law_switchover.Goals as goal

pub returns : goal.returns
returns c = switchover_law

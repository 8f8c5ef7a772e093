use Rattle.failover_laws.proofs.Handover.HandedOn.{handover_law}
use Rattle.failover_laws.proofs.moves.law_handover.Goals as goal

pub returns : goal.returns
returns c = handover_law

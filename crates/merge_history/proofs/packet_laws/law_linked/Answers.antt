use Rattle.merge_history.proofs.Linked.{linked}
use Rattle.merge_history.proofs.packet_laws.law_linked.Goals as goal

pub returns : goal.returns
returns c = linked

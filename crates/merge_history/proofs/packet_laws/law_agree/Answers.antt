use Rattle.merge_history.proofs.Agreed.{agreed}
use Rattle.merge_history.proofs.packet_laws.law_agree.Goals as goal

pub returns : goal.returns
returns c = agreed

use Rattle.frame_laws.proofs.OneMore.{sends}
use Rattle.frame_laws.proofs.logs.law_log_sends.Goals as goal

pub returns : goal.returns
returns c = sends

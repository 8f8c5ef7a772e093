use Rattle.frame_laws.proofs.OneMore.{grows}
use Rattle.frame_laws.proofs.logs.law_log_grows.Goals as goal

pub returns : goal.returns
returns c = grows

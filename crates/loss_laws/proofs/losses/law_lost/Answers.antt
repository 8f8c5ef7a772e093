use Rattle.loss_laws.proofs.LostForGood.{lost_law}
use Rattle.loss_laws.proofs.losses.law_lost.Goals as goal

pub returns : goal.returns
returns c = lost_law

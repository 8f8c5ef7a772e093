use Rattle.loss_laws.proofs.ComesAgain.{comes_law}
use Rattle.loss_laws.proofs.losses.law_comes_again.Goals as goal

pub returns : goal.returns
returns c = comes_law

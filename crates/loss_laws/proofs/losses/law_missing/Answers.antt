use Rattle.loss_laws.proofs.Missing.{missing_law}
use Rattle.loss_laws.proofs.losses.law_missing.Goals as goal

pub returns : goal.returns
returns c = record { always = missing_law }

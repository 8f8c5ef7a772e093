use Rattle.frame_laws.proofs.Tellings.{told_always}
use Rattle.frame_laws.proofs.telling.law_told.Goals as goal

pub returns : goal.returns
returns c = record { always = told_always }

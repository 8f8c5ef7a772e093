use Rattle.frame_laws.proofs.Plain.{told}
use Rattle.frame_laws.proofs.telling.plain_told.Goals as goal

pub returns : goal.returns
returns c = told

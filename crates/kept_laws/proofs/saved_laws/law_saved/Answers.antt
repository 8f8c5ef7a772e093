use Rattle.kept_laws.proofs.Left.{saved_law}
use Rattle.kept_laws.proofs.saved_laws.law_saved.Goals as goal

pub returns : goal.returns
returns c = saved_law

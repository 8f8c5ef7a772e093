use Rattle.kept_laws.proofs.Keeping.{stop}
use Rattle.kept_laws.proofs.laws.law_stop.Goals as goal

pub returns : goal.returns
returns c = stop

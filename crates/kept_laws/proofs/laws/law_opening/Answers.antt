use Rattle.kept_laws.proofs.Keeping.{opening}
use Rattle.kept_laws.proofs.Reaching.{starts}
use Rattle.kept_laws.proofs.laws.law_opening.Goals as goal

pub returns : goal.returns
returns c = record { opening = opening; start = starts }

use Rattle.kept_laws.proofs.Keeping.{counts}
use Rattle.kept_laws.proofs.laws.law_counts.Goals as goal

pub returns : goal.returns
returns c = counts

use Rattle.kept_laws.proofs.Keeping.{input}
use Rattle.kept_laws.proofs.laws.law_input.Goals as goal

pub returns : goal.returns
returns c = input

use Rattle.observation.proofs.Silent.{observed_safe_law}
use Rattle.observation.proofs.safety.law_observed_safe.Goals as goal

pub returns : goal.returns
returns c = observed_safe_law

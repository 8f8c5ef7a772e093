use Rattle.observed_laws.proofs.NoAlarm.{observed_law}
use Rattle.observed_laws.proofs.observing.law_observed.Goals as goal

pub returns : goal.returns
returns c = observed_law

use Rattle.failover_laws.proofs.Passing.{passes_between}
use Rattle.failover_laws.proofs.again.law_effects.Goals as goal

pub returns : goal.returns
returns c = record { between = passes_between }

use Rattle.consumer_laws.proofs.Runs.Law.{law_holds}
use Rattle.consumer_laws.proofs.handed.law_handed.Goals as goal

pub returns : goal.returns
returns c = law_holds

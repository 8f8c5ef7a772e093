use Rattle.consumer_laws.proofs.Rising.Runs.{rising_holds}
use Rattle.consumer_laws.proofs.handed.law_rising.Goals as goal

pub returns : goal.returns
returns c = rising_holds

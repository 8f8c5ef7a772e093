use Rattle.consumer_laws.proofs.Runs.StillHanded.{still_holds}
use Rattle.consumer_laws.proofs.handed.law_still_handed.Goals as goal

pub returns : goal.returns
returns c = still_holds

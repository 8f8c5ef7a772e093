use Rattle.world_laws.proofs.KeptRuns.ResumedRuns.{resumed_law}
use Rattle.world_laws.proofs.resuming.law_resumed.Goals as goal

pub returns : goal.returns
returns c = resumed_law

use Rattle.world_laws.proofs.KeptRuns.SavedRuns.{reached_law}
use Rattle.world_laws.proofs.numbers.law_reached.Goals as goal

pub returns : goal.returns
returns c = reached_law

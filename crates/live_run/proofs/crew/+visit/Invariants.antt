use Rattle.std.proofs.Common.{length}
use Rattle.live_run.proofs.crew.+visit.Given as goal

abbrev pub decreases-visit : goal.decreases-visit
decreases-visit g l = length l.logs.now

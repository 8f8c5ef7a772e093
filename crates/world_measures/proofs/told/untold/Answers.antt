use Rattle.std.proofs.Common.{rules}
use Rattle.world_measures.proofs.Walks.{next_untold}
use Rattle.world_measures.proofs.told.untold.Goals as goal

pub loop-index-preserved : goal.loop-index-preserved
loop-index-preserved c = search (rules, next_untold)

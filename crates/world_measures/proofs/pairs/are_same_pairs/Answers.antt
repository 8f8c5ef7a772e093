use Rattle.std.proofs.Common.{sym}
use Rattle.world_measures.proofs.Walks.{pairs_differ}
use Rattle.world_measures.proofs.pairs.are_same_pairs.Goals as goal

pub returns-then-pairs-others : goal.returns-then-pairs-others
returns-then-pairs-others c = sym (pairs_differ c.args.pairs.now c.args.others.now c.if-pairs-others.true)

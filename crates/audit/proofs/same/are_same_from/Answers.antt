use Rattle.std.proofs.Common.{sym}
use Rattle.audit.proofs.Steps.{pairs_differ}
use Rattle.audit.proofs.same.are_same_from.Goals as goal

pub returns-then-pairs-others : goal.returns-then-pairs-others
returns-then-pairs-others c = sym (pairs_differ c.args.pairs.now c.args.others.now c.if-pairs-others.true)

use Rattle.std.proofs.Common.{sym}
use Rattle.audit.proofs.Steps.{positions_differ}
use Rattle.audit.proofs.named.are_same_positions.Goals as goal

pub returns-then-positions-others : goal.returns-then-positions-others
returns-then-positions-others c = sym (positions_differ c.args.positions.now c.args.others.now c.if-positions-others.true)

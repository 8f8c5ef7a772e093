use Rattle.audit.proofs.Within.{index_within}
use Rattle.audit.proofs.mirrors.index_in.Goals as goal

pub returns-clause-within : goal.returns-clause-within
returns-clause-within c =
    index_within c.args.topic.now c.stored-stored.result.now c.args.position.now c.index_at.result c.stored-stored.ensures.entries c.stored-stored.ensures.positions
    c.entries-entries.ensures.sized c.index_at.ensures

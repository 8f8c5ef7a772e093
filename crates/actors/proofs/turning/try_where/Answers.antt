use Rattle.actors.specs.Turns.{Walks}
use Rattle.actors.proofs.turning.try_where.Goals as goal

pub returns-then-not-is_due : goal.returns-then-not-is_due
returns-then-not-is_due g c = λ d. rw c.if-not-is_due.true (Walks.nothing d c.args.log.now)

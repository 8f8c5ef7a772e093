use Rattle.actors.specs.Turns.{Walks}
use Rattle.actors.proofs.turning.serve.Goals as goal

pub returns-in_default : goal.returns-in_default
returns-in_default g c = λ d. rw c.in_default.is (Walks.nothing d c.args.log.now)

use Rattle.actors.proofs.Walking.{take_tried}
use Rattle.actors.specs.Turns.{Walks}
use Rattle.actors.proofs.turning.receive.Goals as goal

pub returns-then-not-is_here : goal.returns-then-not-is_here
returns-then-not-is_here g c = rw c.if-not-is_here.true (Walks.nothing c.args.draws.now c.args.log.now)

pub returns : goal.returns
returns g c = take_tried c.if-not-is_here.false c.take.ensures c.fate-fate.ensures.value c.fate-fate.ensures.rest (c.try_event.ensures c.args.draws.now c.fate-fate.new.self)

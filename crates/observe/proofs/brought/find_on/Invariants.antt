use Rattle.observe.proofs.Walking.{BroughtTo}
use Rattle.observe.proofs.brought.find_on.Given as goal

abbrev pub invariant-loop-index : goal.invariant-loop-index
invariant-loop-index l = BroughtTo l.way.at.topic l.way.origin l.way.at.cluster l.way.here.now.topic.entries l.way.there.now.topic.entries l.initial.found.items l.found.items l.from l.index

use Rattle.observe.proofs.Walking.{GapsTo}
use Rattle.observe.proofs.brought.find_gaps.Given as goal

abbrev pub invariant-loop-index : goal.invariant-loop-index
invariant-loop-index l = GapsTo l.way.at.topic l.way.origin l.way.at.cluster l.way.here.now.topic.entries l.way.there.now.topic.entries l.initial.found.items l.found.items l.from l.end l.index

use Rattle.observe.proofs.Needing.{NeededTo}
use Rattle.observe.proofs.needs.Needs.of.Given as goal

abbrev pub invariant-loop-index : goal.invariant-loop-index
invariant-loop-index l = NeededTo l.cluster l.here.topic.entries l.there.topic.entries l.counts.items l.last l.index

use Rattle.observe.proofs.Needing.{AllNeedsTo}
use Rattle.observe.proofs.observed.Observed.all_needs.Given as goal

abbrev pub invariant-loop-cluster : goal.invariant-loop-cluster
invariant-loop-cluster l = AllNeedsTo l.scenario.setup l.self l.at.topic l.at.cluster l.needs.items l.cluster

use Rattle.std.proofs.Common.{ℕ, List}
use Rattle.observation.specs.Findings.{apart}
use Rattle.observe.proofs.Each.{FoundTo}
use Rattle.observe.proofs.observed.Observed.find_apart_from.Given as goal

abbrev pub invariant-loop-other : goal.invariant-loop-other
invariant-loop-other l = FoundTo (λ z (n : List ℕ). apart l.scenario.setup l.self l.origin.topic l.origin.cluster l.cluster z) l.scenario.setup.clusters l.initial.found.items l.found.items l.other

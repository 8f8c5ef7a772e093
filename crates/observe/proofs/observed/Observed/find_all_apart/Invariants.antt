use Rattle.std.proofs.Common.{ℕ, List}
use Rattle.observation.specs.Findings.{apart, by_cluster}
use Rattle.observe.proofs.Each.{FoundTo}
use Rattle.observe.proofs.observed.Observed.find_all_apart.Given as goal

abbrev pub invariant-loop-cluster : goal.invariant-loop-cluster
invariant-loop-cluster l = FoundTo (λ x (n : List ℕ). by_cluster l.scenario.setup (apart l.scenario.setup l.self l.origin.topic l.origin.cluster x)) l.scenario.setup.clusters l.initial.found.items l.found.items l.cluster

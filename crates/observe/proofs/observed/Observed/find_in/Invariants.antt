use Rattle.std.proofs.Common.{ℕ, List}
use Rattle.observe.specs.Rules.{found_at}
use Rattle.observe.proofs.Each.{FoundTo}
use Rattle.observe.proofs.observed.Observed.find_in.Given as goal

abbrev pub invariant-loop-cluster : goal.invariant-loop-cluster
invariant-loop-cluster l = FoundTo (λ x (n : List ℕ). found_at l.scenario.setup l.self l.rule l.topic x) l.scenario.setup.clusters l.initial.found.items l.found.items l.cluster

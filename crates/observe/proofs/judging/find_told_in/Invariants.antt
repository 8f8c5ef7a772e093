use Rattle.std.proofs.Common.{◌≡◌, ℕ, List}
use Rattle.observation.specs.Findings.{told}
use Rattle.observe.proofs.Each.{FoundTo}
use Rattle.observe.proofs.judging.find_told_in.Given as goal

abbrev pub invariant-loop-cluster : goal.invariant-loop-cluster
invariant-loop-cluster l = record {
  same : l.updates ≡ l.fn.logs;
  found : FoundTo (λ x (n : List ℕ). told l.fn.logs.setup l.fn.logs.observed l.fn.logs.topic x) l.fn.logs.setup.clusters l.initial.found.items l.found.items l.cluster;
}

use Rattle.std.proofs.Common.{ℕ, List}
use Rattle.observation.specs.Findings.{skipped}
use Rattle.observe.proofs.Each.{FoundTo}
use Rattle.observe.proofs.judging.find_skipped_in.Given as goal

abbrev pub invariant-loop-cluster : goal.invariant-loop-cluster
invariant-loop-cluster l = FoundTo (λ x (n : List ℕ). skipped l.logs.setup l.logs.observed l.logs.topic x) l.logs.setup.clusters l.initial.found.items l.found.items l.cluster

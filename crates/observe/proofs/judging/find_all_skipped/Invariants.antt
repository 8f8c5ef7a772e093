use Rattle.std.proofs.Common.{ℕ, List}
use Rattle.observation.specs.Findings.{by_cluster, skipped}
use Rattle.observe.proofs.Each.{FoundTo}
use Rattle.observe.proofs.judging.find_all_skipped.Given as goal

abbrev pub invariant-loop-topic : goal.invariant-loop-topic
invariant-loop-topic l = FoundTo (λ t (n : List ℕ). by_cluster l.scenario.setup (skipped l.scenario.setup l.observed t)) l.scenario.setup.topics l.initial.found.items l.found.items l.topic

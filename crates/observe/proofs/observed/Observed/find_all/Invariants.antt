use Rattle.std.proofs.Common.{ℕ, List}
use Rattle.observation.specs.Findings.{by_cluster}
use Rattle.observe.specs.Rules.{found_at}
use Rattle.observe.proofs.Each.{FoundTo}
use Rattle.observe.proofs.observed.Observed.find_all.Given as goal

abbrev pub invariant-loop-topic : goal.invariant-loop-topic
invariant-loop-topic l = FoundTo (λ t (n : List ℕ). by_cluster l.scenario.setup (found_at l.scenario.setup l.self l.rule t)) l.scenario.setup.topics l.initial.found.items l.found.items l.topic

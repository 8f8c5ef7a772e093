use Rattle.std.proofs.Common.{ℕ, List}
use Rattle.observation.specs.Findings.{lost}
use Rattle.observe.proofs.Each.{FoundTo}
use Rattle.observe.proofs.observed.Observed.find_all_lost.Given as goal

abbrev pub invariant-loop-topic : goal.invariant-loop-topic
invariant-loop-topic l = FoundTo (λ t (n : List ℕ). lost l.scenario.setup l.self t) l.scenario.setup.topics l.initial.found.items l.found.items l.topic

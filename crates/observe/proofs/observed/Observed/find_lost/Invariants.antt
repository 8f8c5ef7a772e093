use Rattle.observation.specs.Findings.{lost_in}
use Rattle.observation.specs.declared.said.Said.{Said}
use Rattle.observe.proofs.Each.{FoundTo}
use Rattle.observe.proofs.observed.Observed.find_lost.Given as goal

abbrev pub invariant-loop-said : goal.invariant-loop-said
invariant-loop-said l = FoundTo (λ k (v : Said). lost_in l.scenario.setup l.self l.topic v) l.self.said l.initial.found.items l.found.items l.said-index

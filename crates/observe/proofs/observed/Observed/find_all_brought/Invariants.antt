use Rattle.std.proofs.Common.{ℕ, List, [], ◌==◌}
use Rattle.std.specs.Prelude.{if◌then◌else◌}
use Rattle.observation.specs.Findings.{brought}
use Rattle.observe.proofs.Each.{FoundTo}
use Rattle.observe.proofs.observed.Observed.find_all_brought.Given as goal

abbrev pub invariant-loop-origin : goal.invariant-loop-origin
invariant-loop-origin l = FoundTo (λ y (n : List ℕ). if l.at.cluster == y then [] else brought l.scenario.setup l.self l.at.topic l.at.cluster y) l.scenario.setup.clusters l.initial.found.items l.found.items l.origin

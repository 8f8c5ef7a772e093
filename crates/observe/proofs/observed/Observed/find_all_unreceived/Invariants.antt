use Rattle.std.proofs.Common.{ℕ, List, [], ◌==◌}
use Rattle.std.specs.Prelude.{if◌then◌else◌}
use Rattle.observation.specs.Findings.{unreceived}
use Rattle.observe.proofs.Each.{FoundTo}
use Rattle.observe.proofs.observed.Observed.find_all_unreceived.Given as goal

abbrev pub invariant-loop-to : goal.invariant-loop-to
invariant-loop-to l = FoundTo (λ y (n : List ℕ). if l.at.cluster == y then [] else unreceived l.scenario.setup l.self l.at.topic l.at.cluster y) l.scenario.setup.clusters l.initial.found.items l.found.items l.to

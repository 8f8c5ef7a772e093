use Rattle.std.proofs.Common.{ℕ, List, [], ◌==◌}
use Rattle.std.specs.Prelude.{if◌then◌else◌}
use Rattle.geo_base.specs.Audit.{position_named}
use Rattle.observation.specs.declared.finding.Finding.TheVariants as finding
use Rattle.observation.specs.Findings.{covers_one, unless}
use Rattle.observe.proofs.Each.{FoundTo}
use Rattle.observe.proofs.observed.Observed.find_uncovered.Given as goal

abbrev pub invariant-loop-of : goal.invariant-loop-of
invariant-loop-of l = FoundTo (λ y (n : List ℕ). if l.snapshot.at.cluster == y then [] else unless (covers_one l.scenario.setup l.self l.snapshot.at.topic l.snapshot.at.cluster l.local y (position_named y l.snapshot.remote.now)) (finding.Cut l.snapshot.at.topic l.snapshot.at.cluster l.snapshot.index y)) l.scenario.setup.clusters l.initial.found.items l.found.items l.of

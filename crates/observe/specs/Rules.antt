-- What a rule finds for a topic at a cluster.
use Rattle.std.specs.Prelude.{ℕ, List}
use Rattle.geo_base.specs.Setup.{Setup}
use Rattle.observation.specs.declared.finding.Finding.{Finding}
use Rattle.observation.specs.Findings.{apart, brought, by_cluster, by_other, cuts, twice, unreceived}
use Rattle.observation.specs.Observed.{Observation}
use Rattle.observe.specs.declared.judging.Rule.{Rule}
use Rattle.observe.specs.declared.judging.Rule.TheVariants as rule

abbrev pub found_at : Setup → Observation → Rule → (t x : ℕ) → List Finding
found_at s o rule.Twice t x = twice s o t x
found_at s o rule.Brought t x = by_other s x (brought s o t x)
found_at s o rule.Apart t x = by_cluster s (λ y. by_cluster s (apart s o t x y))
found_at s o rule.Unreceived t x = by_other s x (unreceived s o t x)
found_at s o rule.Cuts t x = cuts s o t x

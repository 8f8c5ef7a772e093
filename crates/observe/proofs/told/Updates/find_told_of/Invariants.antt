use Rattle.std.proofs.Common.{◌≡◌, ◌==◌, ℕ, List, []}
use Rattle.std.specs.Prelude.{if◌then◌else◌}
use Rattle.geo_base.specs.Entry.{means_cluster}
use Rattle.observation.specs.Findings.{tells_one, unless}
use Rattle.observation.specs.declared.finding.Finding.TheVariants as finding
use Rattle.observe.proofs.Each.{FoundTo}
use Rattle.observe.proofs.told.Updates.find_told_of.Given as goal

abbrev pub invariant-loop-of : goal.invariant-loop-of
invariant-loop-of l = record {
  same : l.self ≡ l.initial.self;
  found : FoundTo (λ y (n : List ℕ). if l.update.origin == y then [] else if means_cluster y l.pair.cluster then unless (tells_one l.initial.self.setup l.initial.self.observed l.initial.self.topic l.update.origin l.update.sub.now y l.pair.position) (finding.Told l.initial.self.topic l.update.cluster l.update.index y) else []) l.initial.self.setup.clusters l.initial.found.items l.found.items l.of;
}

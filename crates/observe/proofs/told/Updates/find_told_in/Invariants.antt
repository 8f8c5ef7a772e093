use Rattle.std.proofs.Common.{◌≡◌}
use Rattle.geo_base.specs.declared.marker.ClusterPosition.{ClusterPosition}
use Rattle.observation.specs.Findings.{told_of}
use Rattle.observe.proofs.Each.{FoundTo}
use Rattle.observe.proofs.told.Updates.find_told_in.Given as goal

abbrev pub invariant-loop-pair : goal.invariant-loop-pair
invariant-loop-pair l = record {
  same : l.self ≡ l.initial.self;
  found : FoundTo (λ k (r : ClusterPosition). told_of l.initial.self.setup l.initial.self.observed l.initial.self.topic l.update.cluster l.update.index l.update.origin l.update.sub.now r) l.remote l.initial.found.items l.found.items l.pair-index;
}

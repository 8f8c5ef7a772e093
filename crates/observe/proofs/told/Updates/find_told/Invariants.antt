use Rattle.std.proofs.Common.{◌≡◌}
use Rattle.geo_base.specs.declared.entry.Entry.{Entry}
use Rattle.observation.specs.Findings.{told_in}
use Rattle.observation.specs.Observed.{entries_seen}
use Rattle.observe.proofs.Each.{FoundTo}
use Rattle.observe.proofs.told.Updates.find_told.Given as goal

abbrev pub invariant-loop-index : goal.invariant-loop-index
invariant-loop-index l = record {
  same : l.self ≡ l.initial.self;
  found : FoundTo (λ i (e : Entry). told_in l.initial.self.setup l.initial.self.observed l.initial.self.topic l.cluster i e e.content) (entries_seen l.initial.self.setup l.initial.self.observed l.initial.self.topic l.cluster) l.initial.found.items l.found.items l.index;
}

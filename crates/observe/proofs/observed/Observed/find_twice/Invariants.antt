use Rattle.std.proofs.Common.{take}
use Rattle.geo_base.specs.declared.entry.Entry.{Entry}
use Rattle.geo_base.specs.Topic.{accepts}
use Rattle.topic_store.specs.Table.{Tells}
use Rattle.observation.specs.Findings.{unless}
use Rattle.observation.specs.Observed.{entries_seen}
use Rattle.observation.specs.declared.finding.Finding.TheVariants as finding
use Rattle.observe.proofs.Each.{FoundTo}
use Rattle.observe.proofs.observed.Observed.find_twice.Given as goal

abbrev pub invariant-loop-index : goal.invariant-loop-index
invariant-loop-index l = record {
  told : Tells l.streams.rows (take l.index (entries_seen l.scenario.setup l.self l.at.topic l.at.cluster));
  found : FoundTo (λ i (e : Entry). unless (accepts (take i (entries_seen l.scenario.setup l.self l.at.topic l.at.cluster)) e.ident) (finding.Twice l.at.topic l.at.cluster i)) (entries_seen l.scenario.setup l.self l.at.topic l.at.cluster) l.initial.found.items l.found.items l.index;
}

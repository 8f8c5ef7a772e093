use Rattle.geo_base.specs.declared.entry.Entry.{Entry}
use Rattle.observation.specs.Findings.{cuts_of}
use Rattle.observation.specs.Observed.{entries_seen}
use Rattle.observe.proofs.Each.{FoundTo}
use Rattle.observe.proofs.observed.Observed.find_cuts.Given as goal

abbrev pub invariant-loop-index : goal.invariant-loop-index
invariant-loop-index l = FoundTo (λ i (e : Entry). cuts_of l.scenario.setup l.self l.at.topic l.at.cluster i e e.content) (entries_seen l.scenario.setup l.self l.at.topic l.at.cluster) l.initial.found.items l.found.items l.index

use Rattle.geo_base.specs.declared.entry.Entry.{Entry}
use Rattle.observation.specs.Findings.{unless}
use Rattle.observation.specs.declared.finding.Finding.TheVariants as finding
use Rattle.observe.specs.Walks.{is_carried}
use Rattle.observe.proofs.Each.{FoundTo}
use Rattle.observe.proofs.standing.find_unreceived_in.Given as goal

abbrev pub invariant-loop-index : goal.invariant-loop-index
invariant-loop-index l = FoundTo (λ i (e : Entry). unless (is_carried l.at.cluster l.to l.here l.there i e) (finding.Unreceived l.at.topic l.at.cluster l.to i)) l.here.topic.entries l.initial.found.items l.found.items l.index

use Rattle.std.specs.Prelude.{◌||◌, not}
use Rattle.geo_base.specs.declared.entry.Entry.{Entry}
use Rattle.geo_base.specs.Cursor.{has}
use Rattle.observation.specs.Findings.{unless}
use Rattle.observation.specs.Observed.{entries_seen, is_dealt_with}
use Rattle.observation.specs.declared.finding.Finding.TheVariants as finding
use Rattle.observe.proofs.Each.{FoundTo}
use Rattle.observe.proofs.skipped.find_skipped_of.Given as goal

abbrev pub invariant-loop-index : goal.invariant-loop-index
invariant-loop-index l = FoundTo (λ i (e : Entry). unless (not (has l.sub.cursor i) || is_dealt_with l.logs.setup l.logs.observed l.logs.topic l.sub.name e) (finding.Skipped l.logs.topic l.cluster l.sub.name i)) (entries_seen l.logs.setup l.logs.observed l.logs.topic l.cluster) l.initial.found.items l.found.items l.index

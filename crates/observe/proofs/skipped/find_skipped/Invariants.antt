use Rattle.geo_base.specs.Mirror.{MirrorSub}
use Rattle.observation.specs.Findings.{skipped_of}
use Rattle.observation.specs.Observed.{topic_seen}
use Rattle.observe.proofs.Each.{FoundTo}
use Rattle.observe.proofs.skipped.find_skipped.Given as goal

abbrev pub invariant-loop-sub : goal.invariant-loop-sub
invariant-loop-sub l = FoundTo (λ k (v : MirrorSub). skipped_of l.logs.setup l.logs.observed l.logs.topic l.cluster v) (topic_seen l.logs.setup l.logs.observed l.logs.topic l.cluster).subs l.initial.found.items l.found.items l.sub-index

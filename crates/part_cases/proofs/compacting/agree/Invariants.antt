use Rattle.topic_compaction.specs.Last.{IsCompacted}
use Rattle.part_cases.proofs.compacting.agree.Given as goal

abbrev pub invariant-loop : goal.invariant-loop
invariant-loop l = IsCompacted l.topic.entries l.compacted

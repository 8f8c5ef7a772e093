use Rattle.std.proofs.Common.{◌≡◌, replicate}
use Rattle.observe.specs.Reads.{empty_seen}
use Rattle.observe.proofs.observed.no_topics.Given as goal

abbrev pub invariant-loop-topic : goal.invariant-loop-topic
invariant-loop-topic l = l.topics.items ≡ replicate l._topic (empty_seen l.clusters)

use Rattle.std.proofs.Common.{◌≡◌, ◌+◌, drop}
use Rattle.observe.specs.Topics.{entries_in}
use Rattle.observe.proofs.observed.count_entries.Given as goal

abbrev pub invariant-loop-seen : goal.invariant-loop-seen
invariant-loop-seen l = l.count + entries_in (drop l.seen-index l.topics) ≡ entries_in l.topics

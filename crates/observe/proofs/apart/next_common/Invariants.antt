use Rattle.std.proofs.Common.{◌≡◌, drop}
use Rattle.observe.specs.Walks.{common_from}
use Rattle.observe.proofs.apart.next_common.Given as goal

abbrev pub invariant-loop-index : goal.invariant-loop-index
invariant-loop-index l = common_from l.pair.origin l.pair.cluster l.index (drop l.index l.theirs) ≡ common_from l.pair.origin l.pair.cluster l.from (drop l.from l.theirs)

use Rattle.observe.proofs.Comparing.{PartedTo}
use Rattle.observe.proofs.apart.find_parted.Given as goal

abbrev pub invariant-loop-index : goal.invariant-loop-index
invariant-loop-index l = PartedTo l.pair l.ours l.theirs l.initial.found.items l.found.items l.next l.index

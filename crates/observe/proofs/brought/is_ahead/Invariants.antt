use Rattle.observe.proofs.Walking.{AheadTo}
use Rattle.observe.proofs.brought.is_ahead.Given as goal

abbrev pub invariant-loop-entry : goal.invariant-loop-entry
invariant-loop-entry l = AheadTo l.origin l.cluster l.here l.there l.next l.entry-index

use Rattle.std.proofs.Common.{◌≡◌, false, replicate}
use Rattle.observed_text.proofs.so_far.none_told.Given as goal

abbrev pub invariant-loop-cursor : goal.invariant-loop-cursor
invariant-loop-cursor l = l.told.items ≡ replicate l._cursor false

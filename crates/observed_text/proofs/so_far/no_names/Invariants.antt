use Rattle.std.proofs.Common.{◌≡◌, [], replicate}
use Rattle.observed_text.proofs.so_far.no_names.Given as goal

abbrev pub invariant-loop-topic : goal.invariant-loop-topic
invariant-loop-topic l = l.subs.items ≡ replicate l._topic []

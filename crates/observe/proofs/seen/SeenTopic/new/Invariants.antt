use Rattle.std.proofs.Common.{◌≡◌, [], replicate}
use Rattle.observe.proofs.seen.SeenTopic.new.Given as goal

abbrev pub invariant-loop-cluster : goal.invariant-loop-cluster
invariant-loop-cluster l = l.received.items ≡ replicate l._cluster []

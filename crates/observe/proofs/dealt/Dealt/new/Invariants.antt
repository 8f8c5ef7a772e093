use Rattle.std.proofs.Common.{◌≡◌, false, replicate}
use Rattle.observe.proofs.dealt.Dealt.new.Given as goal

abbrev pub invariant-loop-cluster : goal.invariant-loop-cluster
invariant-loop-cluster l = record {
  below : l.below.items ≡ replicate l._cluster 0;
  unsure : l.unsure.items ≡ replicate l._cluster false;
}

use Rattle.std.proofs.Common.{◌≡◌, [], replicate}
use Rattle.geo_base.specs.Mirror.{no_mirror}
use Rattle.audit.proofs.mirrors.add_topics.Given as goal

abbrev pub invariant-loop-number : goal.invariant-loop-number
invariant-loop-number l = record {
  topics : l.topics.items ≡ replicate l._number no_mirror;
  covers : l.covers.items ≡ replicate l._number [];
  brought : l.brought.items ≡ replicate l._number [];
}

use Rattle.std.proofs.Common.{◌≡◌, drop}
use Rattle.geo_base.specs.Audit.{same_pairs}
use Rattle.world_measures.proofs.pairs.are_same_pairs.Given as goal

abbrev pub invariant-loop-place : goal.invariant-loop-place
invariant-loop-place l = same_pairs (drop l.place l.pairs) (drop l.place l.others) ≡ same_pairs l.pairs l.others

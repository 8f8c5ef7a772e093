use Rattle.std.proofs.Common.{◌≡◌, take}
use Rattle.geo_base.proofs.copy.Sequence+ClusterPosition.copy.Given as goal

abbrev pub invariant-loop-position : goal.invariant-loop-position
invariant-loop-position l = l.copied ≡ take l.position-index l.positions

use Rattle.std.proofs.Common.{◌≡◌, drop}
use Rattle.geo_base.specs.TraceItems.{same_positions}
use Rattle.audit.proofs.named.are_same_positions.Given as goal

abbrev pub invariant-loop-place : goal.invariant-loop-place
invariant-loop-place l = same_positions (drop l.place l.positions) (drop l.place l.others) ≡ same_positions l.positions l.others

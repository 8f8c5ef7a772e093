use Rattle.std.proofs.Common.{◌≡◌, drop}
use Rattle.geo_base.specs.Audit.{position_named}
use Rattle.audit.proofs.named.first_position.Given as goal

abbrev pub invariant-loop-position : goal.invariant-loop-position
invariant-loop-position l = position_named l.cluster (drop l.position-index l.remote) ≡ position_named l.cluster l.remote

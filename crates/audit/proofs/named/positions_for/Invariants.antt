use Rattle.std.proofs.Common.{◌≡◌, ◌++◌, drop}
use Rattle.geo_base.specs.Updating.{positions_for}
use Rattle.audit.proofs.named.positions_for.Given as goal

abbrev pub invariant-loop-position : goal.invariant-loop-position
invariant-loop-position l = l.positions ++ positions_for l.cluster (drop l.position-index l.remote) ≡ positions_for l.cluster l.remote

use Rattle.std.proofs.Common.{◌≡◌}
use Rattle.geo_base.specs.Client.{unconnected}
use Rattle.geo_base.proofs.Mapped.{mapped_to}
use Rattle.world.proofs.stops.disconnect_all.Given as goal

-- the clients so far have lost theirs
abbrev pub invariant-loop-client : goal.invariant-loop-client
invariant-loop-client l = l.client-items ≡ mapped_to unconnected l.client-index l.fn.clients

use Rattle.std.proofs.Common.{◌≡◌, map, take}
use Rattle.geo_base.specs.Client.{new_client}
use Rattle.world.proofs.opening.new_clients.Given as goal

-- the clients so far
abbrev pub invariant-loop-client : goal.invariant-loop-client
invariant-loop-client l = l.clients.items ≡ map new_client (take l.client l.scenario.setup.clients)

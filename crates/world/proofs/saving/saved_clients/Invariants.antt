use Rattle.std.proofs.Common.{◌≡◌, map, take}
use Rattle.client.specs.State.{stopped}
use Rattle.geo_base.specs.Client.{unconnected}
use Rattle.world.proofs.saving.saved_clients.Given as goal

-- those so far
abbrev pub invariant-loop-client : goal.invariant-loop-client
invariant-loop-client l = map stopped l.states.items ≡ map unconnected (take l.client-index l.clients)

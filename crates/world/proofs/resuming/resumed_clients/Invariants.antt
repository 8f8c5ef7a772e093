use Rattle.std.proofs.Common.{◌≡◌, ◌++◌, map}
use Rattle.client.specs.State.{stopped}
use Rattle.world.proofs.resuming.resumed_clients.Given as goal

-- those that were made, and those that are left
abbrev pub invariant-loop-state : goal.invariant-loop-state
invariant-loop-state l = l.clients.items ++ map stopped l.state-iterator.rest.items ≡ map stopped l.fn.states.items

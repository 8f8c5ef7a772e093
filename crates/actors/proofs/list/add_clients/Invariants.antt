use Rattle.std.proofs.Common.{◌≡◌, ◌++◌}
use Rattle.actors.specs.Order.{for_each, client_roles}
use Rattle.actors.proofs.list.add_clients.Given as goal

-- those so far
abbrev pub invariant-loop-client : goal.invariant-loop-client
invariant-loop-client l = l.roles.items ≡ l.initial.roles.items ++ for_each l.client (client_roles l.scenario.setup l.topic)

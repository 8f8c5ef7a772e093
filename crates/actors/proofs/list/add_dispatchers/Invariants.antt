use Rattle.std.proofs.Common.{◌≡◌, ◌++◌}
use Rattle.actors.specs.Order.{for_each, dispatcher_roles}
use Rattle.actors.proofs.list.add_dispatchers.Given as goal

-- those so far
abbrev pub invariant-loop-cluster : goal.invariant-loop-cluster
invariant-loop-cluster l = l.roles.items ≡ l.initial.roles.items ++ for_each l.cluster (dispatcher_roles l.scenario.setup l.topic)

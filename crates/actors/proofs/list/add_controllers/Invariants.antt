use Rattle.std.proofs.Common.{◌≡◌, ◌++◌}
use Rattle.actors.specs.Order.{for_each, controller_role}
use Rattle.actors.proofs.list.add_controllers.Given as goal

-- those so far
abbrev pub invariant-loop-cluster : goal.invariant-loop-cluster
invariant-loop-cluster l = l.roles.items ≡ l.initial.roles.items ++ for_each l.cluster (controller_role l.topic)

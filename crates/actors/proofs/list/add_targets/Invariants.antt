use Rattle.std.proofs.Common.{◌≡◌, ◌++◌}
use Rattle.actors.specs.Order.{for_each, link_roles}
use Rattle.actors.proofs.list.add_targets.Given as goal

-- those so far
abbrev pub invariant-loop-target : goal.invariant-loop-target
invariant-loop-target l = l.roles.items ≡ l.initial.roles.items ++ for_each l.target (link_roles l.topic l.source)

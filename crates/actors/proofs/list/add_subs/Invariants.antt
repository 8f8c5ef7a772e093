use Rattle.std.proofs.Common.{◌≡◌, ◌++◌}
use Rattle.actors.specs.Order.{for_each, dispatcher_role}
use Rattle.actors.proofs.list.add_subs.Given as goal

-- those so far
abbrev pub invariant-loop-sub : goal.invariant-loop-sub
invariant-loop-sub l = l.roles.items ≡ l.initial.roles.items ++ for_each l.sub (dispatcher_role l.topic l.cluster)

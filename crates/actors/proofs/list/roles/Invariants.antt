use Rattle.std.proofs.Common.{◌≡◌}
use Rattle.actors.specs.Order.{for_each, topic_roles}
use Rattle.actors.proofs.list.roles.Given as goal

-- those so far
abbrev pub invariant-loop-topic : goal.invariant-loop-topic
invariant-loop-topic l = l.roles.items ≡ for_each l.topic (topic_roles l.scenario.setup)

use Rattle.std.proofs.Common.{◌≡◌, ◌++◌}
use Rattle.actors.specs.Order.{for_each, source_roles}
use Rattle.actors.proofs.list.add_links.Given as goal

-- those so far
abbrev pub invariant-loop-source : goal.invariant-loop-source
invariant-loop-source l = l.roles.items ≡ l.initial.roles.items ++ for_each l.source (source_roles l.scenario.setup l.topic)

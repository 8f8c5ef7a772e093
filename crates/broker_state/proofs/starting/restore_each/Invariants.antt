use Rattle.std.proofs.Common.{◌≡◌, ◌++◌}
use Rattle.durable_parts.specs.Parts as durable
use Rattle.broker_state.specs.Replicators.{AreOf, ends_of, replicators_of}
use Rattle.broker_state.proofs.starting.restore_each.Given as goal

-- those that were made, and those that are left
abbrev pub invariant-loop-part : goal.invariant-loop-part
invariant-loop-part l = record {
  replicators : replicators_of l.rows.items ++ durable.replicators_of l.part-iterator.rest.items ≡ durable.replicators_of l.fn.parts.items;
  ends : AreOf l.own (ends_of l.rows.items);
}

use Rattle.std.proofs.Common.{◌≡◌, ◌++◌}
use Rattle.durable_parts.specs.Parts as durable
use Rattle.broker_subs.specs.SubView.{subs_of}
use Rattle.broker_subs.proofs.starting.restored_subs.Given as goal

-- those that were made, and those that are left
abbrev pub invariant-loop-part : goal.invariant-loop-part
invariant-loop-part l = subs_of l.subs.items ++ durable.subs_of l.part-iterator.rest.items ≡ durable.subs_of l.fn.parts.items

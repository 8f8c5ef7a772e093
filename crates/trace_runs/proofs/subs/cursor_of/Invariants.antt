use Rattle.std.proofs.Common.{◌≡◌}
use Rattle.geo_base.specs.Broker.{sub_named}
use Rattle.geo_base.specs.Traced.{cursor_of}
use Rattle.trace_runs.proofs.Steps.{found_from}
use Rattle.trace_runs.proofs.subs.cursor_of.Given as goal

-- what is left has what all have
abbrev pub invariant-loop-sub_index : goal.invariant-loop-sub_index
invariant-loop-sub_index l = found_from l.sub l.sub_index l.node.broker.subs ≡ cursor_of (sub_named l.node.broker.subs l.sub)

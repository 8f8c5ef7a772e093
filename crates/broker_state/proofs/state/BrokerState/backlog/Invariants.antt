use Rattle.std.proofs.Common.{◌≡◌, ◌+◌}
use Rattle.geo_base.specs.Broker.{backlog}
use Rattle.broker_state.proofs.Backlogs.{messages_within}
use Rattle.broker_state.proofs.state.BrokerState.backlog.Given as goal

-- the backlog, and the messages in the ranges that are left
abbrev pub invariant-loop-range : goal.invariant-loop-range
invariant-loop-range l = l.left ≡ backlog l.self.broker l.sub.sub + messages_within l.self.broker.entries l.range-iterator

use Rattle.std.proofs.Common.{◌≡◌}
use Rattle.geo_base.specs.Subscription.{detached}
use Rattle.broker_subs.specs.Table.{with_sub}
use Rattle.geo_base.proofs.Mapped.{mapped_to}
use Rattle.broker_subs.proofs.table.leave_each.Given as goal

abbrev pub invariant-loop-sub : goal.invariant-loop-sub
invariant-loop-sub l = l.sub-items ≡ mapped_to (with_sub (detached l.client)) l.sub-index l.fn.subs

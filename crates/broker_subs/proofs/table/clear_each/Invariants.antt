use Rattle.std.proofs.Common.{◌≡◌}
use Rattle.geo_base.specs.Subscription.{cleared}
use Rattle.broker_subs.specs.Table.{with_sub}
use Rattle.geo_base.proofs.Mapped.{mapped_to}
use Rattle.broker_subs.proofs.table.clear_each.Given as goal

abbrev pub invariant-loop-sub : goal.invariant-loop-sub
invariant-loop-sub l = l.sub-items ≡ mapped_to (with_sub cleared) l.sub-index l.fn.subs

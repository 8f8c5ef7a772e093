use Rattle.std.proofs.Common.{◌≡◌, map}
use Rattle.std.specs.Prelude.{take}
use Rattle.geo_base.specs.Subscription.{cleared}
use Rattle.broker_subs.specs.SubView.{subs_of}
use Rattle.broker_subs.proofs.table.SubTable.durable.Given as goal

abbrev pub invariant-loop-sub_index : goal.invariant-loop-sub_index
invariant-loop-sub_index l = l.parts ≡ map cleared (subs_of (take l.sub_index l.self-inside.subs.items))

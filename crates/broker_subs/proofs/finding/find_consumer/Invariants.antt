use Rattle.std.proofs.Common.{◌≡◌, drop}
use Rattle.geo_base.specs.Subscribing.{consumed_by}
use Rattle.broker_subs.specs.SubView.{subs_of}
use Rattle.broker_subs.proofs.finding.find_consumer.Given as goal

abbrev pub invariant-loop-sub_index : goal.invariant-loop-sub_index
invariant-loop-sub_index l = consumed_by (subs_of l.subs) l.client l.id ≡ consumed_by (subs_of (drop l.sub_index l.subs)) l.client l.id

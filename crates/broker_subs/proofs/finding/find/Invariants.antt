use Rattle.std.proofs.Common.{◌≡◌, drop}
use Rattle.geo_base.specs.Broker.{sub_named}
use Rattle.broker_subs.specs.SubView.{subs_of}
use Rattle.broker_subs.proofs.finding.find.Given as goal

abbrev pub invariant-loop-sub_index : goal.invariant-loop-sub_index
invariant-loop-sub_index l = sub_named (subs_of l.subs) l.name ≡ sub_named (subs_of (drop l.sub_index l.subs)) l.name

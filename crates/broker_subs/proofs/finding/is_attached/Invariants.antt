use Rattle.std.proofs.Common.{◌≡◌, drop}
use Rattle.std.specs.List.{list_any}
use Rattle.geo_base.specs.Subscription.{is_attached}
use Rattle.broker_subs.specs.SubView.{subs_of}
use Rattle.broker_subs.proofs.finding.is_attached.Given as goal

abbrev pub invariant-loop-sub : goal.invariant-loop-sub
invariant-loop-sub l = list_any (is_attached l.client) (subs_of l.subs) ≡ list_any (is_attached l.client) (subs_of (drop l.sub-index l.subs))

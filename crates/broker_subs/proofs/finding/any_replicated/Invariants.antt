use Rattle.std.proofs.Common.{◌≡◌, drop}
use Rattle.std.specs.List.{list_any}
use Rattle.geo_base.specs.Subscription.{Subscription}
use Rattle.broker_subs.specs.SubView.{subs_of}
use Rattle.broker_subs.proofs.finding.any_replicated.Given as goal

abbrev pub invariant-loop-sub : goal.invariant-loop-sub
invariant-loop-sub l = list_any (λ (s : Subscription). s.replicated) (subs_of l.subs) ≡ list_any (λ (s : Subscription). s.replicated) (subs_of (drop l.sub-index l.subs))

use Rattle.std.proofs.Common.{◌≡◌, ◌-◌}
use Rattle.std.specs.List.{list_all, range_with_len}
use Rattle.geo_base.specs.Audit.{is_named_once}
use Rattle.audit.proofs.named.names_each.Given as goal

abbrev pub invariant-loop-cluster : goal.invariant-loop-cluster
invariant-loop-cluster l =
    list_all (λ y. is_named_once l.own y l.remote) (range_with_len l.cluster (l.clusters - l.cluster))
    ≡ list_all (λ y. is_named_once l.own y l.remote) (range_with_len 0 l.clusters)

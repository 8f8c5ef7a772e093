use Rattle.std.proofs.Common.{◌≡◌, ◌-◌, ◌==◌, not}
use Rattle.std.specs.Prelude.{◌&&◌}
use Rattle.std.specs.List.{list_any, range_with_len}
use Rattle.geo_base.specs.Entry.{goes_to}
use Rattle.world_measures.proofs.ends.is_for_others.Given as goal

abbrev pub invariant-loop-cluster : goal.invariant-loop-cluster
invariant-loop-cluster l =
    list_any (λ y. not (l.source == y) && goes_to y l.to) (range_with_len l.cluster (l.clusters - l.cluster))
    ≡ list_any (λ y. not (l.source == y) && goes_to y l.to) (range_with_len 0 l.clusters)

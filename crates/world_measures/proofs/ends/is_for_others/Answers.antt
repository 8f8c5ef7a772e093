use Rattle.std.proofs.Common.{rules, ◌==◌, not}
use Rattle.std.specs.Prelude.{◌&&◌}
use Rattle.geo_base.specs.Entry.{goes_to}
use Rattle.world_measures.proofs.Walks.{any_later}
use Rattle.world_measures.proofs.ends.is_for_others.Goals as goal

pub loop-cluster-preserved : goal.loop-cluster-preserved
loop-cluster-preserved c =
    any_later (λ y. not (c.args.source == y) && goes_to y c.args.to) c.loop-cluster.cluster c.args.clusters c.is_target.result (search rules) c.is_target.ensures (search rules)
    c.loop-cluster.invariant

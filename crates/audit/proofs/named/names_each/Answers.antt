use Rattle.std.proofs.Common.{arith}
use Rattle.geo_base.specs.Audit.{is_named_once}
use Rattle.audit.proofs.Steps.{one_cluster}
use Rattle.audit.proofs.named.names_each.Goals as goal

pub loop-cluster-preserved : goal.loop-cluster-preserved
loop-cluster-preserved c =
    let step = one_cluster (λ y. is_named_once c.args.own y c.args.remote.now) c.loop-cluster.cluster c.args.clusters c.loop-cluster-test.true in
    grind (arith, step, c.if-not-is_named_once.false, c.is_named_once.ensures, c.loop-cluster.invariant)

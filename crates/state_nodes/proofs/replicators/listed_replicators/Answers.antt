use Rattle.std.proofs.Common.{[], arith}
use Rattle.std.proofs.lemmas.Result.{err_from_is_err_and}
use Rattle.durable_parts.specs.Parts.{replicators_of}
use Rattle.state_items.specs.Reading.{many}
use Rattle.state_nodes.specs.Replicators.{place_at}
use Rattle.state_nodes.proofs.Places.{ends, is_done, one_more}
use Rattle.state_nodes.proofs.replicators.listed_replicators.Goals as goal

pub loop-cluster-preserved : goal.loop-cluster-preserved
loop-cluster-preserved c =
    one_more c.args.entries c.args.own c.args.clusters c.loop-cluster.cluster c.loop-cluster.replicators.items c.push.new.self.items c.in_ok-replicator.replicator c.loop-cluster.rest.now c.in_ok-replicator.after.now (many (place_at c.args.entries c.args.own) c.args.clusters [] c.args.bytes.now) c.loop-cluster-test.true c.in_ok-push.ensures.items c.in_ok-replicator.ensures c.loop-cluster.invariant

pub returns-in_err-replicator : goal.returns-in_err-replicator
returns-in_err-replicator c =
    let total = many (place_at c.args.entries c.args.own) c.args.clusters [] c.args.bytes.now in
    let p = err_from_is_err_and c.from_residual.result c.from_residual.ensures.1 in
    rw (p.1, p.2) (ends c.args.entries c.args.own c.args.clusters c.loop-cluster.cluster (replicators_of c.loop-cluster.replicators.items) c.in_err-replicator.field-0.0 c.loop-cluster.rest.now total c.loop-cluster-test.true c.in_err-replicator.ensures c.loop-cluster.invariant)

pub returns : goal.returns
returns c =
    let total = many (place_at c.args.entries c.args.own) c.args.clusters [] c.args.bytes.now in
    is_done c.args.entries c.args.own c.args.clusters c.loop-cluster.cluster (replicators_of c.loop-cluster.replicators.items) c.loop-cluster.rest.now total (omega (arith, c.loop-cluster-test.false)) c.loop-cluster.invariant

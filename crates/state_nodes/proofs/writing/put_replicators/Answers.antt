use Rattle.state_items.proofs.Standing.{still_stands}
use Rattle.state_nodes.proofs.Rows.{replicators_step}
use Rattle.state_nodes.proofs.Tails.{replicator_below}
use Rattle.state_nodes.proofs.writing.put_replicators.Goals as goal

pub put_place-requires : goal.put_place-requires
put_place-requires c =
    rw c.index-replicators-cluster.is (replicator_below c.args.entries c.args.replicators.now c.loop-cluster.cluster _ c.requires c.loop-cluster-test.true)

pub loop-cluster-preserved : goal.loop-cluster-preserved
loop-cluster-preserved c =
    record {
      so_far =
          replicators_step c.args.entries c.args.own c.args.replicators.now c.loop-cluster.cluster _ c.loop-cluster.out c.put_place.new.out _ c.loop-cluster-test.true c.loop-cluster.invariant.so_far
          (rw c.index-replicators-cluster.is at c.in_ok-put_place.ensures.ok);
      begins = still_stands c.args.out.now c.loop-cluster.out c.put_place.new.out _ c.in_ok-put_place.ensures.ok c.loop-cluster.invariant.begins;
    }

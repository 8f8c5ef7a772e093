use Rattle.std.proofs.Common.{ℕ, ◌<◌, [], List, ap, length, subst, ◌∙◌}
use Rattle.std.specs.Prelude.{slice_index_or}
use Rattle.step_lines.proofs.AllBrokers.{cluster_next, replicators_at}
use Rattle.step_lines.proofs.stops.add_topic.Goals as goal

pub add_broker_changes-requires : goal.add_broker_changes-requires
add_broker_changes-requires c =
    let n : ℕ = c.loop-cluster.cluster in
    record {
      backlogs = c.as_slice.ensures.value ∙ c.in_ok-add_backlogs.ensures;
      replicators =
          replicators_at c.args.scenario.now.setup c.args.world.now.brokers c.args.topic n c.topic-broker.result.now c.args.noted.now c.index-noted-cluster.result c.requires.brokers c.requires.topic
          (subst (λ (ns : List (List ℕ)). n < length ns) c.clusters-cluster-end.ensures.names c.loop-cluster-test.true) c.requires.noted c.index-noted-cluster.is c.topic-broker.ensures;
    }

pub loop-cluster-preserved : goal.loop-cluster-preserved
loop-cluster-preserved c = λ bs noted.
    let n : ℕ = c.loop-cluster.cluster in
    cluster_next c.args.scenario.now.setup bs c.args.world.now.brokers c.args.topic n c.topic-broker.result.now c.args.noted.now c.index-noted-cluster.result c.topic_name-name.result.now
    c.loop-cluster.lines c.add_broker_changes.new.lines _ c.requires.brokers c.requires.topic (subst (λ (ns : List (List ℕ)). n < length ns) c.clusters-cluster-end.ensures.names c.loop-cluster-test.true)
    noted c.index-noted-cluster.is c.topic-broker.ensures (c.topic_name-name.ensures ∙ ap (λ (ns : List (List ℕ)). slice_index_or ns c.args.topic []) c.topics.ensures.names)
    c.in_ok-add_broker_changes.ensures (c.loop-cluster.invariant bs noted)

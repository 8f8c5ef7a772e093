use Rattle.std.proofs.Common.{ℕ, ◌<◌, List, length, subst, ◌∙◌}
use Rattle.step_lines.proofs.AllBrokers.{next_noted}
use Rattle.step_lines.proofs.stops.noted_topic.Goals as goal

pub loop-cluster-preserved : goal.loop-cluster-preserved
loop-cluster-preserved c =
    let n : ℕ = c.loop-cluster.cluster in
    next_noted c.args.scenario.now.setup c.args.world.now.brokers c.args.topic n c.loop-cluster.brokers.items _ c.topic-broker.result.now _ c.in_ok-push.ensures.items
    c.requires.brokers c.requires.topic (subst (λ (ns : List (List ℕ)). n < length ns) c.clusters-cluster-end.ensures.names c.loop-cluster-test.true) c.topic-broker.ensures c.in_ok-note.ensures c.loop-cluster.invariant

pub note-requires : goal.note-requires
note-requires c = c.as_slice.ensures.value ∙ c.in_ok-add_backlogs.ensures

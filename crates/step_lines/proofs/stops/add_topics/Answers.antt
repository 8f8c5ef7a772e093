use Rattle.std.proofs.Common.{ℕ, ◌<◌, List, length, subst, sym}
use Rattle.step_lines.specs.declared.noted.NotedBroker.{NotedBroker}
use Rattle.step_lines.specs.declared.stops.NotedTopic.{NotedTopic}
use Rattle.step_lines.specs.Stops.{AreNoted, AreWhole}
use Rattle.step_lines.proofs.AllBrokers.{topic_next}
use Rattle.step_lines.proofs.stops.add_topics.Goals as goal

pub add_topic-requires-clause-noted : goal.add_topic-requires-clause-noted
add_topic-requires-clause-noted c =
    let s = c.args.scenario.now.setup in let n : ℕ = c.loop-topic.topic in
    subst (λ (ks : List NotedBroker). AreWhole (length s.clusters) ks) (sym c.as_slice-brokers.ensures.value)
    (c.requires.topics.each n c.index-noted-topic.result (subst (λ (ns : List (List ℕ)). n < length ns) c.topics-topic-end.ensures.names c.loop-topic-test.true))

pub loop-topic-preserved : goal.loop-topic-preserved
loop-topic-preserved c = λ bs noted.
    let s = c.args.scenario.now.setup in let n : ℕ = c.loop-topic.topic in
    topic_next s bs c.args.world.now.brokers n c.args.noted.now c.index-noted-topic.result c.loop-topic.lines c.add_topic.new.lines _
    (subst (λ (ns : List (List ℕ)). n < length ns) c.topics-topic-end.ensures.names c.loop-topic-test.true) noted c.index-noted-topic.is
    (λ here. c.in_ok-add_topic.ensures bs (subst (λ (ks : List NotedBroker). AreNoted s bs n (length s.clusters) ks) (sym c.as_slice-brokers.ensures.value)
    (subst (λ (z : NotedTopic). AreNoted s bs n (length s.clusters) z.brokers.items) c.index-noted-topic.is here))) (c.loop-topic.invariant bs noted)

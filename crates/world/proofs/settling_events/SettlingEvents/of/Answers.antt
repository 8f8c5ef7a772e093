use Rattle.std.proofs.Common.{length}
use Rattle.std.specs.List.{range_with_len}
use Rattle.geo_base.specs.Run.{pairs_of}
use Rattle.world.proofs.PairLists.{topics_more}
use Rattle.world.proofs.settling_events.SettlingEvents.of.Goals as goal

pub loop-topic-preserved : goal.loop-topic-preserved
loop-topic-preserved c =
    let n = length c.topics.result.now in let xs = range_with_len 0 (length c.clusters.result.now) in
    topics_more (record { resets = c.new.result; round = c.new-2.result }) c.loop-topic.events c.add_topic.new.self n c.loop-topic.topic xs (pairs_of (range_with_len 0 n) xs)
    c.loop-topic-test.true c.loop-topic.invariant c.in_ok-add_topic.ensures

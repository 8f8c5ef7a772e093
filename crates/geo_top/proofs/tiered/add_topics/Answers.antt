use Rattle.std.proofs.Common.{◌++◌}
use Rattle.geo_base.specs.Report.{with_line_feeds}
use Rattle.run_report.specs.Shown.{shown_world}
use Rattle.geo_top.specs.Tiered.{tiers_of}
use Rattle.geo_top.proofs.Tiers.{topic_tiered}
use Rattle.geo_top.proofs.tiered.add_topics.Goals as goal

pub loop-topic-preserved : goal.loop-topic-preserved
loop-topic-preserved c =
    let s = c.args.scenario.now.setup in let w = shown_world c.args.world.now in
    topic_tiered s w c.args.keep c.loop-topic.topic c.loop-topic.lines c.add_topic.new.lines
    (c.args.lines.now ++ with_line_feeds (tiers_of s w c.args.keep 0 s.topics)) (rw c.topics-topic-end.ensures.names at c.loop-topic-test.true) c.in_ok-add_topic.ensures
    c.loop-topic.invariant

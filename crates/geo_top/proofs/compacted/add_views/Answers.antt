use Rattle.std.proofs.Common.{◌++◌}
use Rattle.geo_base.specs.Report.{with_line_feeds}
use Rattle.geo_top.specs.Compacted.{views_of}
use Rattle.run_report.specs.Shown.{shown_world}
use Rattle.geo_top.proofs.Views.{topic_viewed}
use Rattle.geo_top.proofs.compacted.add_views.Goals as goal

pub loop-topic-preserved : goal.loop-topic-preserved
loop-topic-preserved c =
    let s = c.args.scenario.now.setup in let w = shown_world c.args.world.now in
    topic_viewed s w c.args.horizon c.loop-topic.topic c.loop-topic.lines c.add_topic.new.lines
    (c.args.lines.now ++ with_line_feeds (views_of s w c.args.horizon 0 s.topics)) (rw c.topics-topic-end.ensures.names at c.loop-topic-test.true) c.in_ok-add_topic.ensures
    c.loop-topic.invariant

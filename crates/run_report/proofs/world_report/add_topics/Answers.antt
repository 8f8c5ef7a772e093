use Rattle.std.proofs.Common.{◌++◌}
use Rattle.geo_base.specs.Report.{topic_lines, with_line_feeds}
use Rattle.run_report.specs.Shown.{shown_world}
use Rattle.run_report.proofs.Lines.{topic_added}
use Rattle.run_report.proofs.world_report.add_topics.Goals as goal

pub loop-number-preserved : goal.loop-number-preserved
loop-number-preserved c =
    let s = c.args.scenario.now.setup in let w = shown_world c.args.world.now in
    let names = c.topics-topics.ensures.names in
    topic_added s w c.loop-number.number c.as_str.result.now c.index-topics-number.result c.loop-number.lines c.add_places.new.lines c.add_clients.new.lines
    (c.args.lines.now ++ with_line_feeds (topic_lines s w 0 s.topics)) (rw names at c.loop-number-test.true) (rw names at c.index-topics-number.is)
    c.as_str.ensures.text c.in_ok-add_places.ensures c.in_ok-add_clients.ensures c.loop-number.invariant

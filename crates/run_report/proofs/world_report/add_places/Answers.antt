use Rattle.std.proofs.Common.{◌++◌}
use Rattle.geo_base.specs.Report.{cluster_lines, with_line_feeds}
use Rattle.run_report.specs.Shown.{shown_world}
use Rattle.run_report.proofs.Lines.{place_added, replicators_there}
use Rattle.run_report.proofs.world_report.add_places.Goals as goal

pub add_broker-requires : goal.add_broker-requires
add_broker-requires c =
    rw c.topic.ensures (replicators_there c.args.scenario.now.setup c.args.world.now c.requires.at c.args.topic c.loop-number.number c.requires.topic
    (rw c.clusters-clusters.ensures.names at c.loop-number-test.true))

pub loop-number-preserved : goal.loop-number-preserved
loop-number-preserved c =
    let s = c.args.scenario.now.setup in let b = c.args.world.now in
    let names = c.clusters-clusters.ensures.names in
    place_added s b c.requires.at c.args.topic c.loop-number.number c.requires.topic (rw names at c.loop-number-test.true) c.args.name.now c.index-clusters-number.result
    c.topic.result.now c.loop-number.lines c.add.new.lines c.add_broker.new.lines
    (c.args.lines.now ++ with_line_feeds (cluster_lines s (shown_world b) c.args.topic c.args.name.now 0 s.clusters))
    (rw names at c.index-clusters-number.is) c.topic.ensures (rw (c.in_ok-place_line.ensures, c.as_str.ensures.text) at c.in_ok-add.ensures.ok) c.in_ok-add_broker.ensures.ok c.loop-number.invariant

use Rattle.std.proofs.Common.{◌++◌}
use Rattle.geo_base.specs.Report.{with_line_feeds}
use Rattle.run_report.specs.Shown.{shown_world}
use Rattle.geo_top.specs.Summary.{stored_lines}
use Rattle.geo_top.proofs.Summed.{stored_added}
use Rattle.geo_top.proofs.summary.add_stored.Goals as goal

pub loop-number-preserved : goal.loop-number-preserved
loop-number-preserved c =
    let s = c.args.scenario.now.setup in let b = c.args.world.now in
    let names = c.clusters-clusters.ensures.names in
    stored_added s b c.requires c.loop-number.number c.requires.setup.topics.0 (rw names at c.loop-number-test.true) c.index-clusters-number.result c.topic-broker.result.now
    c.loop-number.lines c.add.new.lines (c.args.lines.now ++ with_line_feeds (stored_lines s (shown_world b) 0 s.clusters))
    (rw names at c.index-clusters-number.is) c.topic-broker.ensures (rw (c.in_ok-stored_line.ensures, c.as_str.ensures.text, c.store.ensures.entries) at c.in_ok-add.ensures.ok) c.loop-number.invariant

use Rattle.std.proofs.Common.{◌++◌, [], ◌∙◌}
use Rattle.std.specs.Prelude.{slice_index_or}
use Rattle.geo_base.specs.Report.{with_line_feeds}
use Rattle.geo_top.specs.Compacted.{views_at}
use Rattle.run_report.specs.Shown.{shown_world}
use Rattle.geo_top.proofs.Views.{first_line, name_at, view_added}
use Rattle.geo_top.proofs.compacted.add_topic.Goals as goal

pub loop-number-preserved : goal.loop-number-preserved
loop-number-preserved c =
    let s = c.args.scenario.now.setup in let b = c.args.world.now in let x = c.loop-number.number in
    let es = c.store-store.result.now.entries in let names = c.clusters-clusters.ensures.names in
    let name = slice_index_or s.topics c.args.topic [] in
    view_added s b c.requires.at c.args.topic x c.requires.topic (rw names at c.loop-number-test.true) c.args.horizon name c.index-clusters-number.result c.topic.result.now
    es c.store-store.result.now.ledgers c.loop-number.lines c.add.new.lines c.add_messages.new.lines
    (c.args.lines.now ++ with_line_feeds (views_at s (shown_world b) c.args.horizon c.args.topic name 0 s.clusters))
    (rw names at c.index-clusters-number.is) c.topic.ensures c.store-store.ensures.entries c.store-store.ensures.ledgers
    (first_line name c.index-clusters-number.result c.as_str-name.result.now c.as_str.result.now _ c.loop-number.lines c.add.new.lines c.min-kept.result c.args.horizon c.len.result es
    c.in_ok-add.ensures.ok c.in_ok-horizon_line.ensures
    (c.as_str-name.ensures.text ∙ name_at s.topics c.args.topic c.index-topics-topic.result c.requires.topic (rw c.topics.ensures.names at c.index-topics-topic.is))
    c.as_str.ensures.text c.min-kept.ensures c.len.ensures.len)
    (rw names at c.in_ok-add_messages.ensures.ok) c.loop-number.invariant

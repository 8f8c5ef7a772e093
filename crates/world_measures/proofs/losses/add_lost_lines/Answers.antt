use Rattle.std.proofs.Common.{rules, ◌<◌, [], ◌++◌, length}
use Rattle.std.specs.Prelude.{slice_index_or}
use Rattle.std.proofs.lemmas.Option.{slice_get-get_or}
use Rattle.geo_base.specs.Report.{with_line_feeds}
use Rattle.loss_laws.specs.LostLines.{lines_of_each, topic_lines}
use Rattle.world_measures.proofs.Each.{each_added}
use Rattle.world_measures.proofs.losses.add_lost_lines.Goals as goal

pub loop-number-preserved : goal.loop-number-preserved
loop-number-preserved c = λ w same.
    let s = c.args.scenario.now.setup in let i = c.loop-number.number in let f = topic_lines c.args.gone.with_names s w c.args.gone.cluster in
    let lt : i < length s.topics = search rules in
    each_added f s.topics i (slice_index_or s.topics i []) c.loop-number.lines c.add_topic.new.lines (c.args.lines.now ++ with_line_feeds (lines_of_each f 0 s.topics))
    (slice_get-get_or s.topics i [] lt) (c.in_ok-add_topic.ensures w same) (c.loop-number.invariant w same)

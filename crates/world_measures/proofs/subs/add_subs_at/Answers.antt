use Rattle.std.proofs.Common.{rules, [], ◌++◌}
use Rattle.std.specs.Prelude.{slice_index_or}
use Rattle.geo_base.specs.Report.{with_line_feeds}
use Rattle.loss_laws.specs.LostLines.{lines_of_each, sub_lines}
use Rattle.world_measures.proofs.Each.{each_added}
use Rattle.world_measures.proofs.subs.add_subs_at.Goals as goal

pub loop-place-preserved : goal.loop-place-preserved
loop-place-preserved c = λ told.
    let b = c.args.broker.now.broker in let there = c.args.there.now in
    let f = sub_lines c.args.gone.with_names there.site.clusters b there.broker (slice_index_or there.site.clusters there.site.own []) in
    each_added f b.subs c.loop-place.place c.in-Some.sub.now.sub c.loop-place.lines c.add_sub_at.new.lines
    (c.args.lines.now ++ with_line_feeds (lines_of_each f 0 b.subs)) (search rules) (c.in_ok-add_sub_at-in-Some.ensures b c.loop-place.place told) (c.loop-place.invariant told)

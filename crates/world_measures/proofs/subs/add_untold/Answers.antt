use Rattle.std.proofs.Common.{rules, ◌++◌}
use Rattle.geo_base.specs.Report.{with_line_feeds}
use Rattle.loss_laws.specs.LostLines.{lines_of_each, untold_lines}
use Rattle.world_measures.proofs.Each.{each_added}
use Rattle.world_measures.proofs.subs.add_untold.Goals as goal

pub loop-place-preserved : goal.loop-place-preserved
loop-place-preserved c =
    let b = c.args.broker.now.broker in let f = untold_lines c.args.source b in
    each_added f b.subs c.loop-place.place c.in-Some.sub.now.sub c.loop-place.lines c.add_untold_of.new.lines
    (c.args.lines.now ++ with_line_feeds (lines_of_each f 0 b.subs)) (search rules) (c.in_ok-add_untold_of-in-Some.ensures c.loop-place.place) c.loop-place.invariant

use Rattle.std.proofs.Common.{◌≡◌, ◌++◌, drop}
use Rattle.geo_base.specs.Report.{with_line_feeds}
use Rattle.loss_laws.specs.LostLines.{lines_of_each, untold_lines}
use Rattle.world_measures.proofs.subs.add_untold.Given as goal

-- the lines so far and the rest make the whole
abbrev pub invariant-loop-place : goal.invariant-loop-place
invariant-loop-place l =
    l.lines ++ with_line_feeds (lines_of_each (untold_lines l.source l.broker.broker) l.place (drop l.place l.broker.broker.subs))
    ≡ l.initial.lines ++ with_line_feeds (lines_of_each (untold_lines l.source l.broker.broker) 0 l.broker.broker.subs)

use Rattle.std.proofs.Common.{◌≡◌, [], ◌++◌, drop}
use Rattle.std.specs.Prelude.{slice_index_or}
use Rattle.geo_base.specs.Report.{with_line_feeds}
use Rattle.loss_laws.specs.LostLines.{lines_of_each, sub_lines}
use Rattle.world_measures.specs.Places.{Tells}
use Rattle.world_measures.proofs.subs.add_subs_at.Given as goal

-- the lines so far and the rest make the whole
abbrev pub invariant-loop-place : goal.invariant-loop-place
invariant-loop-place l =
    let n = slice_index_or l.there.site.clusters l.there.site.own [] in Tells l.table l.broker.broker.entries
    → l.lines ++ with_line_feeds (lines_of_each (sub_lines l.gone.with_names l.there.site.clusters l.broker.broker l.there.broker n) l.place (drop l.place l.broker.broker.subs))
    ≡ l.initial.lines ++ with_line_feeds (lines_of_each (sub_lines l.gone.with_names l.there.site.clusters l.broker.broker l.there.broker n) 0 l.broker.broker.subs)

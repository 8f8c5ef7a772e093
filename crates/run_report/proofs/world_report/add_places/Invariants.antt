use Rattle.std.proofs.Common.{◌≡◌, ◌++◌, drop}
use Rattle.geo_base.specs.Report.{cluster_lines, with_line_feeds}
use Rattle.run_report.specs.Shown.{shown_world}
use Rattle.run_report.proofs.world_report.add_places.Given as goal

-- the lines so far and the rest make the whole
abbrev pub invariant-loop-number : goal.invariant-loop-number
invariant-loop-number l =
    l.lines ++ with_line_feeds (cluster_lines l.scenario.setup (shown_world l.world) l.topic l.name l.number (drop l.number l.scenario.setup.clusters))
    ≡ l.initial.lines ++ with_line_feeds (cluster_lines l.scenario.setup (shown_world l.world) l.topic l.name 0 l.scenario.setup.clusters)

use Rattle.std.proofs.Common.{◌≡◌, ◌++◌, drop}
use Rattle.geo_base.specs.Report.{with_line_feeds}
use Rattle.run_report.specs.Shown.{shown_world}
use Rattle.geo_top.specs.Summary.{stored_lines}
use Rattle.geo_top.proofs.summary.add_stored.Given as goal

-- the lines so far and the rest make the whole
abbrev pub invariant-loop-number : goal.invariant-loop-number
invariant-loop-number l =
    l.lines ++ with_line_feeds (stored_lines l.scenario.setup (shown_world l.world) l.number (drop l.number l.scenario.setup.clusters))
    ≡ l.initial.lines ++ with_line_feeds (stored_lines l.scenario.setup (shown_world l.world) 0 l.scenario.setup.clusters)

use Rattle.std.proofs.Common.{◌≡◌, ◌++◌, drop}
use Rattle.geo_base.specs.Report.{client_lines, with_line_feeds}
use Rattle.run_report.specs.Shown.{shown_world}
use Rattle.run_report.proofs.world_report.add_clients.Given as goal

-- the lines so far and the rest make the whole
abbrev pub invariant-loop-number : goal.invariant-loop-number
invariant-loop-number l =
    l.lines ++ with_line_feeds (client_lines l.scenario.setup (shown_world l.world) l.topic l.number (drop l.number l.scenario.setup.clients))
    ≡ l.initial.lines ++ with_line_feeds (client_lines l.scenario.setup (shown_world l.world) l.topic 0 l.scenario.setup.clients)

use Rattle.std.proofs.Common.{◌≡◌, ◌++◌, drop}
use Rattle.geo_base.specs.Report.{with_line_feeds}
use Rattle.run_report.specs.Shown.{shown_world}
use Rattle.geo_top.specs.Tiered.{tiers_of}
use Rattle.geo_top.proofs.tiered.add_topics.Given as goal

-- the lines so far and the rest make the whole
abbrev pub invariant-loop-topic : goal.invariant-loop-topic
invariant-loop-topic l =
    l.lines ++ with_line_feeds (tiers_of l.scenario.setup (shown_world l.world) l.keep l.topic (drop l.topic l.scenario.setup.topics))
    ≡ l.initial.lines ++ with_line_feeds (tiers_of l.scenario.setup (shown_world l.world) l.keep 0 l.scenario.setup.topics)

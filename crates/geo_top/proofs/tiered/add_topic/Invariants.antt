use Rattle.std.proofs.Common.{◌≡◌, [], ◌++◌, drop}
use Rattle.std.specs.Prelude.{slice_index_or}
use Rattle.geo_base.specs.Report.{with_line_feeds}
use Rattle.run_report.specs.Shown.{shown_world}
use Rattle.geo_top.specs.Tiered.{tiers_at}
use Rattle.geo_top.proofs.tiered.add_topic.Given as goal

-- the lines so far and the rest make the whole
abbrev pub invariant-loop-number : goal.invariant-loop-number
invariant-loop-number l =
    l.lines ++ with_line_feeds (tiers_at l.scenario.setup (shown_world l.world) l.keep l.topic (slice_index_or l.scenario.setup.topics l.topic []) l.number (drop l.number l.scenario.setup.clusters))
    ≡ l.initial.lines ++ with_line_feeds (tiers_at l.scenario.setup (shown_world l.world) l.keep l.topic (slice_index_or l.scenario.setup.topics l.topic []) 0 l.scenario.setup.clusters)

use Rattle.std.proofs.Common.{◌≡◌, ◌++◌, drop}
use Rattle.geo_base.specs.Report.{with_line_feeds}
use Rattle.geo_base.specs.World.{World}
use Rattle.loss_laws.specs.LostLines.{lines_of_each, topic_lines}
use Rattle.world_measures.specs.Worlds.{HasBrokers}
use Rattle.world_measures.proofs.losses.add_lost_lines.Given as goal

-- the lines so far and the rest make the whole
abbrev pub invariant-loop-number : goal.invariant-loop-number
invariant-loop-number l = (w : World) → HasBrokers w l.world
    → l.lines ++ with_line_feeds (lines_of_each (topic_lines l.gone.with_names l.scenario.setup w l.gone.cluster) l.number (drop l.number l.scenario.setup.topics))
    ≡ l.initial.lines ++ with_line_feeds (lines_of_each (topic_lines l.gone.with_names l.scenario.setup w l.gone.cluster) 0 l.scenario.setup.topics)

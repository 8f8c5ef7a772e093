use Rattle.std.proofs.Common.{◌≡◌, ◌++◌, drop}
use Rattle.geo_base.specs.Report.{with_line_feeds}
use Rattle.geo_base.specs.World.{World}
use Rattle.loss_laws.specs.LostLines.{lines_of_each, other_lines}
use Rattle.world_measures.specs.Places.{TellAll}
use Rattle.world_measures.specs.Worlds.{HasBrokers}
use Rattle.world_measures.proofs.losses.add_others.Given as goal

-- the lines so far and the rest make the whole
abbrev pub invariant-loop-number : goal.invariant-loop-number
invariant-loop-number l = (w : World) → HasBrokers w l.world → TellAll l.scenario.setup w l.topic.number l.tables
    → l.lines ++ with_line_feeds (lines_of_each (other_lines l.topic.gone.with_names l.scenario.setup w l.topic.number l.topic.gone.cluster) l.number (drop l.number l.scenario.setup.clusters))
    ≡ l.initial.lines ++ with_line_feeds (lines_of_each (other_lines l.topic.gone.with_names l.scenario.setup w l.topic.number l.topic.gone.cluster) 0 l.scenario.setup.clusters)

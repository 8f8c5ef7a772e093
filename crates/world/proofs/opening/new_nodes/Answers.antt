use Rattle.std.proofs.Common.{rules}
use Rattle.world.proofs.NewWorlds.{none_yet}
use Rattle.world.proofs.opening.new_nodes.Goals as goal

pub loop-topic-init : goal.loop-topic-init
loop-topic-init c = search (rules, none_yet)

pub loop-topic-preserved : goal.loop-topic-preserved
loop-topic-preserved c = c.in_ok-add_nodes.ensures

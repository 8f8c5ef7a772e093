use Rattle.std.proofs.Common.{arith}
use Rattle.world_measures.proofs.losses.add_topic.Goals as goal

pub add_parts-added-requires-clause-few : goal.add_parts-added-requires-clause-few
add_parts-added-requires-clause-few c = omega (arith, c.in_ok-tables.ensures.many, c.requires.at.setup.clusters.1)

pub returns : goal.returns
returns c = λ w same. c.add_parts-added.ensures w same (c.in_ok-tables.ensures.told w same)

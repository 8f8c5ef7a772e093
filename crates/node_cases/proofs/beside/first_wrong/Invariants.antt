use Rattle.world.specs.World.{IsAt}
use Rattle.node_cases.proofs.beside.first_wrong.Given as goal

abbrev pub invariant-loop-place : goal.invariant-loop-place
invariant-loop-place l = IsAt l.scenario.setup l.world

use Rattle.std.specs.Prelude.{IfSome}
use Rattle.merge_history.specs.Firsts.{AreRising, IsDifference, IsFirstBelow, NoneBelow}
use Rattle.merge_history.proofs.differences.first_difference.Given as goal

abbrev pub invariant-loop-node : goal.invariant-loop-node
invariant-loop-node l =
    (IfSome l.first (IsDifference l.layout l.histories l.node) × NoneBelow l.layout l.histories l.node l.first)
    × (AreRising l.histories → IsFirstBelow l.layout l.histories l.node l.first)

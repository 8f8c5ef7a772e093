use Rattle.std.proofs.Common.{◌≡◌, vec_len}
use Rattle.live_run.proofs.rings.NodeRings.new.Given as goal

-- so many tables so far
abbrev pub invariant-loop-node : goal.invariant-loop-node
invariant-loop-node l = vec_len l.waiting ≡ l._node

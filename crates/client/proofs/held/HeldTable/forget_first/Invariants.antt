use Rattle.std.proofs.Common.{◌≡◌, drop}
use Rattle.client.proofs.held.HeldTable.forget_first.Given as goal

-- so many messages are given up
abbrev pub invariant-loop-place : goal.invariant-loop-place
invariant-loop-place l = l.self ≡ drop l._place l.initial.self

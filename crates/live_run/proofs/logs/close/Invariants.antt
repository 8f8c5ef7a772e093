use Rattle.std.proofs.Common.{◌≡◌, ◌+◌, length, vec_len}
use Rattle.live_run.proofs.logs.close.Given as goal

-- the logs so far, and those that are left
abbrev pub invariant-loop-log : goal.invariant-loop-log
invariant-loop-log l = length l.logs + length l.log-iterator.rest.items ≡ vec_len l.fn.locked

use Rattle.std.proofs.Common.{◌≡◌, ◌++◌, drop}
use Rattle.merge_history.specs.Logs.{kept_of}
use Rattle.merge_history.proofs.strange.own_histories.Given as goal

-- the histories so far and those that are left
abbrev pub invariant-loop-place : goal.invariant-loop-place
invariant-loop-place l = l.histories.items ++ kept_of (drop l.place l.own) (drop l.place l.logs) ≡ kept_of l.own l.logs

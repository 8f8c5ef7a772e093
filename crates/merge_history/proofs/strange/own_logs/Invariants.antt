use Rattle.merge_history.proofs.Judging.{ToldBelow}
use Rattle.merge_history.proofs.strange.own_logs.Given as goal

-- the logs so far are told
abbrev pub invariant-loop-place : goal.invariant-loop-place
invariant-loop-place l = ToldBelow l.scenario l.logs l.own.items l.place

use Rattle.std.proofs.Common.{◌≡◌}
use Rattle.live_run.specs.Crews.{members_below}
use Rattle.live_run.proofs.crew.Crew.new.Given as goal

-- those of the actors so far
abbrev pub invariant-loop-number : goal.invariant-loop-number
invariant-loop-number l = l.members.items ≡ members_below l.scenario l.roles l.worker l.workers l.number

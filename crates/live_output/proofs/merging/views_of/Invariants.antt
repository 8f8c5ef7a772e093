use Rattle.std.proofs.Common.{◌≡◌, ◌++◌, drop, map}
use Rattle.live_output.specs.Lists.{view_of}
use Rattle.live_output.proofs.merging.views_of.Given as goal

-- the views so far and those of the logs that are left
abbrev pub invariant-loop-log : goal.invariant-loop-log
invariant-loop-log g l = l.views.items ++ map view_of (drop l.log-index l.logs) ≡ map view_of l.logs

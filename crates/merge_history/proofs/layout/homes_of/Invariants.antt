use Rattle.std.proofs.Common.{◌≡◌, ◌++◌, drop, map}
use Rattle.merge_history.specs.Ends.{home_declared}
use Rattle.merge_history.proofs.layout.homes_of.Given as goal

-- the clients so far and those that are left
abbrev pub invariant-loop-client : goal.invariant-loop-client
invariant-loop-client l = l.homes.items ++ map home_declared (drop l.client-index l.clients) ≡ map home_declared l.clients

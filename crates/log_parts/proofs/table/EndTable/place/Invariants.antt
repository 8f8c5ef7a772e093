use Rattle.std.proofs.Common.{◌≡◌, drop}
use Rattle.log_parts.specs.Rows.{place_from}
use Rattle.log_parts.proofs.table.EndTable.place.Given as goal

-- no row before the place is of the peer
abbrev pub invariant-loop-at : goal.invariant-loop-at
invariant-loop-at g l = place_from 0 l.self.rows.items l.peer ≡ place_from l.at (drop l.at l.self.rows.items) l.peer

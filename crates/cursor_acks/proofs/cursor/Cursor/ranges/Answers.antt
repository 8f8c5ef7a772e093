use Rattle.std.proofs.Common.{sym}
use Rattle.cursor_acks.proofs.Covered.{has_indexes}
use Rattle.cursor_acks.proofs.cursor.Cursor.ranges.Goals as goal

pub returns : goal.returns
returns c =
    rw (← c.self.view_is) (record { apart = c.self.invariant.apart; same = λ i. sym (has_indexes c.self.inside.ranges.list i) })

use Rattle.std.proofs.Common.{sym, ◌∙◌}
use Rattle.cursor_acks.proofs.Covered.{has_indexes}
use Rattle.cursor_acks.proofs.cursor.Cursor.is_acked.Goals as goal

pub returns : goal.returns
returns c =
    rw (← c.self.view_is) (c.holds.ensures ∙ sym (has_indexes c.self.inside.ranges.list c.args.index))

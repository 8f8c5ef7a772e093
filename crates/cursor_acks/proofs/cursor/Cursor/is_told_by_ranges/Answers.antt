use Rattle.std.proofs.Common.{refl}
use Rattle.cursor_acks.proofs.Found.{kept_few}
use Rattle.cursor_acks.proofs.cursor.Cursor.is_told_by_ranges.Goals as goal

pub returns : goal.returns
returns c =
    rw (← c.self.view_is) (record {
      ranges = c.self.inside.ranges.list;
      apart = c.self.invariant.apart;
      is = refl;
      few = kept_few c.self.inside.ranges.list c.self.invariant;
    })

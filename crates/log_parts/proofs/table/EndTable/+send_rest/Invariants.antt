use Rattle.std.proofs.Common.{length}
use Rattle.std.specs.Vec.Iter.{into_iter_items}
use Rattle.log_parts.proofs.table.EndTable.+send_rest.Given as goal

abbrev pub decreases-send_rest : goal.decreases-send_rest
decreases-send_rest g l = length (into_iter_items l.parcels)

use Rattle.std.proofs.Common.{◌-◌, length}
use Rattle.log_parts.proofs.table.EndTable.+has_room_from.Given as goal

abbrev pub decreases-has_room_from : goal.decreases-has_room_from
decreases-has_room_from g l = length l.parcels.now - l.at

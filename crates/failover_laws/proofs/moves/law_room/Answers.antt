use Rattle.failover_laws.proofs.Room.RoomRuns.{room_law}
use Rattle.failover_laws.proofs.moves.law_room.Goals as goal

pub returns : goal.returns
returns c = room_law

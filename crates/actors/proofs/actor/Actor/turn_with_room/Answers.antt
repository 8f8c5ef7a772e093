use Rattle.actors.specs.Room.{IsTurnWithRoom}
use Rattle.actors.proofs.actor.Actor.turn_with_room.Goals as goal

pub returns-then-waits_for_room : goal.returns-then-waits_for_room
returns-then-waits_for_room g c =
    IsTurnWithRoom.Unconnected c.waits_for_room.new.log c.waits_for_room.ensures.same (c.waits_for_room.ensures.due c.if-waits_for_room.true) (c.waits_for_room.ensures.full c.if-waits_for_room.true) c.turn_unconnected.ensures

pub returns : goal.returns
returns g c =
    IsTurnWithRoom.Connected c.waits_for_room.new.log c.waits_for_room.ensures.same (c.waits_for_room.ensures.enough c.if-waits_for_room.false) c.turn.ensures

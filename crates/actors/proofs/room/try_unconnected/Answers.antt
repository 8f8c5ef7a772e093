use Rattle.actors.proofs.Crowding.{none_tried}
use Rattle.actors.proofs.room.try_unconnected.Goals as goal

pub returns-in_default : goal.returns-in_default
returns-in_default g c = λ d. none_tried _ _ _ _ _ _ c.args.role d c.args.log.now c.in_default.not-Client

use Rattle.state_file.specs.State.{state_of}
use Rattle.world.proofs.ResumedNodes.{resumed_at, resumed_reached, resumed_stands}
use Rattle.world.proofs.world.World.from_saved.Goals as goal

pub returns-in-Ok-clause-at : goal.returns-in-Ok-clause-at
returns-in-Ok-clause-at c =
    let world = c.in-Ok.ensures in
    resumed_at (state_of c.args.saved) c.in-Ok.world world.known c.requires.known world.resumed

pub returns-in-Ok-clause-reached : goal.returns-in-Ok-clause-reached
returns-in-Ok-clause-reached c =
    let world = c.in-Ok.ensures in
    resumed_reached (state_of c.args.saved) c.in-Ok.world.brokers world.known c.requires.known world.resumed.brokers

pub returns-in-Ok-clause-stands : goal.returns-in-Ok-clause-stands
returns-in-Ok-clause-stands c =
    let world = c.in-Ok.ensures in
    resumed_stands (state_of c.args.saved) c.in-Ok.world world.known c.requires.known world.resumed

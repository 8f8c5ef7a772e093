use Rattle.std.specs.Prelude.{None}
use Rattle.world.proofs.Stopping.{restart_done}
use Rattle.world.proofs.stops.prepare_restart.Goals as goal

pub returns-clause-restarts : goal.returns-clause-restarts
returns-clause-restarts c = restart_done c.args.node.now c.prepare.new.plan c.prepare.result (c.prepare.ensures.prepared None tt)

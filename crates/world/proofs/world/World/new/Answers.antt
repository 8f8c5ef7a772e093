use Rattle.std.proofs.Common.{refl}
use Rattle.world.proofs.NewWorlds.{new_at, new_kept}
use Rattle.world.proofs.world.World.new.Goals as goal

pub returns-clause-at : goal.returns-clause-at
returns-clause-at c =
    let s = c.args.scenario.now.setup in let unused = c.in_ok-unused.ensures in
    new_at s _ unused.known c.in_ok-brokers.ensures
    (new_kept s _ c.in_ok-brokers.ensures c.in_ok-clients.ensures unused.links unused.broker_clocks unused.client_clocks refl refl refl refl)

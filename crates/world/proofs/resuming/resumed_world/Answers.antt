use Rattle.std.proofs.Common.{refl}
use Rattle.state_file.specs.State.{state_of}
use Rattle.world.proofs.ResumedNodes.{resumed}
use Rattle.world.proofs.resuming.resumed_world.Goals as goal

pub returns-clause-resumed : goal.returns-clause-resumed
returns-clause-resumed c =
    let unused = c.in_ok-unused.ensures in
    resumed (state_of (record { scenario = c.args.scenario.now; counts = c.args.counts; brokers = c.args.parts; clients = c.args.states })) _
    c.in_ok-brokers.ensures c.in_ok-clients.ensures unused.links unused.broker_clocks unused.client_clocks refl refl refl refl

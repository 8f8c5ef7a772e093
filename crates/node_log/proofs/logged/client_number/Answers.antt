use Rattle.std.proofs.Common.{◌*◌, ◌+◌, ◌<◌, ◌^◌, arith, length}
use Rattle.node_log.proofs.Numbers.{client_fits}
use Rattle.node_log.proofs.logged.client_number.Goals as goal

pub overflow_cast-result-2 : goal.overflow_cast-result-2
overflow_cast-result-2 c =
    let fits : length c.topics.result.now * length c.clusters.result.now + c.args.client < 2 ^ 32
    = rw (c.topics.ensures.names, c.clusters.ensures.names) (client_fits c.args.scenario.now.setup c.args.client c.topics.ensures.known c.requires) in
    omega (arith, fits)

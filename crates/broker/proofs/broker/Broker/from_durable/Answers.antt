use Rattle.broker.proofs.Restarts.{restored_holds}
use Rattle.broker.proofs.broker.Broker.from_durable.Goals as goal

pub invariant_of-result : goal.invariant_of-result
invariant_of-result c =
    restored_holds c.args.site c.args.durable c.as_slice-parts.result.now c.args.clients c.in_ok-state.state c.requires.clusters c.requires.durable c.as_slice-parts.ensures
    c.in_ok-state.ensures.broker c.in_ok-state.ensures.site

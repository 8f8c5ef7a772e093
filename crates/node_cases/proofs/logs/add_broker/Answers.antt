use Rattle.std.proofs.Common.{rules, ◌-◌, arith, refl}
use Rattle.std.specs.Arc.{arc_value}
use Rattle.node_cases.specs.Small.{IsSmall}
use Rattle.node_cases.proofs.SmallTables.{broker_peers}
use Rattle.node_cases.proofs.logs.add_broker.Goals as goal

pub broker-requires-clause-peers : goal.broker-requires-clause-peers
broker-requires-clause-peers c =
    let small : IsSmall (arc_value c.in_ok-shared.shared).setup = search rules in
    broker_peers (arc_value c.in_ok-shared.shared).setup c.args.cluster (1 - c.args.cluster) c.in_ok-ends.ends.rows.items small (omega (arith, c.if-cluster-gt1.false)) refl c.in_ok-ends.ensures

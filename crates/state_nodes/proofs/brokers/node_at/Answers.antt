use Rattle.state_nodes.proofs.NodeExits.{behind_told}
use Rattle.state_nodes.proofs.brokers.node_at.Goals as goal

pub returns : goal.returns
returns c =
    behind_told c.args.version c.args.per_ledger c.args.names.now c.args.own c.args.bytes.now c.in_ok-ledgers.ledgers.items c.in_ok-ledgers.count c.in_ok-ledgers.rest.now c.in_ok-entries.entries.items c.in_ok-entries.rest.now _ c.behind_entries.result c.in_ok-ledgers.ensures c.in_ok-entries.ensures c.behind_entries.ensures

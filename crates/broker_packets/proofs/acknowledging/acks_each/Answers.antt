use Rattle.geo_base.specs.Acknowledging.{stored_indexes}
use Rattle.broker_subs.specs.Table.{sub_at}
use Rattle.broker_packets.proofs.Acks.{writes_some}
use Rattle.broker_packets.proofs.acknowledging.acks_each.Goals as goal

pub returns : goal.returns
returns c =
    let b = c.args.state.now.broker in
    writes_some b.entries (sub_at b.subs c.args.sub_index) c.in_ok-indexes.indexes (stored_indexes b.ledgers c.args.positions.now) c.some_acks.result c.some_acks.ensures c.in_ok-indexes.ensures.indexes

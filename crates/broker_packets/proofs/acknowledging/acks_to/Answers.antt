use Rattle.std.proofs.Common.{sym}
use Rattle.geo_base.specs.Acknowledging.{cumulative_indexes, up_to}
use Rattle.broker_subs.specs.Table.{sub_at}
use Rattle.broker_packets.proofs.Acks.{writes_some}
use Rattle.broker_packets.proofs.acknowledging.acks_to.Goals as goal

pub returns : goal.returns
returns c =
    let b = c.args.state.now.broker in
    writes_some b.entries (sub_at b.subs c.args.sub_index) (up_to c.only_index.result) (cumulative_indexes b.ledgers c.args.positions.now) c.up_to.result c.up_to.ensures (sym c.only_index.ensures.only)

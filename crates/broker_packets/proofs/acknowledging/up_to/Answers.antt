use Rattle.broker_subs.specs.Table.{sub_at}
use Rattle.broker_packets.proofs.Acks.{to_some}
use Rattle.broker_packets.proofs.acknowledging.up_to.Goals as goal

pub returns-in-Some : goal.returns-in-Some
returns-in-Some c = to_some c.args.state.now.broker.entries (sub_at c.args.state.now.broker.subs c.args.sub_index) c.args.index c.in-Some.index c.in-Some.is c.requires

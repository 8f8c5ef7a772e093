use Rattle.std.proofs.Common.{arith}
use Rattle.broker_subs.specs.Table.{sub_at}
use Rattle.broker_packets.proofs.Acks.{each_of}
use Rattle.broker_packets.proofs.acknowledging.some_acks.Goals as goal

pub returns : goal.returns
returns c = each_of c.args.state.now.broker.entries (sub_at c.args.state.now.broker.subs c.args.sub_index) c.args.indexes (omega arith) c.requires

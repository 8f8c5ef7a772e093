use Rattle.std.proofs.Common.{take}
use Rattle.client.specs.Packets.{AreWritten}
use Rattle.client.proofs.client.outgoing.write_all.Given as goal

-- the packets so far are written
abbrev pub invariant-loop-out : goal.invariant-loop-out
invariant-loop-out l = AreWritten l.names l.written.items (take l.out-index l.sent)

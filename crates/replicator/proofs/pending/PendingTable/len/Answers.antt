use Rattle.std.proofs.Common.{ap}
use Rattle.replicator.specs.Sending.{PendingEntries}
use Rattle.replicator.proofs.Pendings.{pending_once}
use Rattle.replicator.proofs.pending.PendingTable.len.Goals as goal

pub returns-clause-once : goal.returns-clause-once
returns-clause-once c n =
    let view = ap (λ (t : PendingEntries). t.items) c.self.view_is in
    rw (← view) (pending_once c.self.inside.items.items n c.self.invariant)

use Rattle.std.proofs.Common.{◌+◌, ◌<◌}
use Rattle.std.specs.Prelude.{◌^◌}
use Rattle.replicator.proofs.Pendings.{some_found}
use Rattle.replicator.proofs.replicator.Replicator.pending_index.Goals as goal

-- what is pending is an index that a cursor can hold
pub returns-clause-fits : goal.returns-clause-fits
returns-clause-fits c =
    rw c.index_of.ensures (some_found (λ i. i + 1 < 2 ^ 64) c.self.inside.pending.items c.args.number c.self.invariant.indexes)

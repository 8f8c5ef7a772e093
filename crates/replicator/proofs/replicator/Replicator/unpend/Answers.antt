use Rattle.std.proofs.Common.{◌+◌, ◌<◌, arith}
use Rattle.std.specs.Prelude.{◌^◌}
use Rattle.geo_base.specs.declared.replicator.Pending.{Pending}
use Rattle.replicator.proofs.Pendings.{all_left}
use Rattle.replicator.proofs.replicator.Replicator.unpend.Goals as goal

pub invariant_of-self : goal.invariant_of-self
invariant_of-self c =
    let ps = c.self.inside.pending.items in
    record {
      spare = omega (arith, c.self.invariant.spare, c.remove.ensures.spare);
      numbers = rw c.remove.ensures.items (all_left (λ (p : Pending). p.number < c.self.inside.next) ps c.args.number c.self.invariant.numbers);
      indexes = rw c.remove.ensures.items (all_left (λ (p : Pending). p.index + 1 < 2 ^ 64) ps c.args.number c.self.invariant.indexes);
      read = c.self.invariant.read;
    }

use Rattle.std.proofs.Common.{ap, sym, ◌∙◌}
use Rattle.std.specs.Prelude.{Some}
use Rattle.geo_base.specs.declared.replicator.Pending.{Pending}
use Rattle.geo_base.specs.Ascending.{IsGap, IsHere}
use Rattle.replicator.specs.Sending.{PendingEntries, number_of}
use Rattle.replicator.proofs.Pendings.{pending_gap, pending_here}
use Rattle.replicator.proofs.pending.PendingTable.index_of.Goals as goal

pub returns-in-Ok : goal.returns-in-Ok
returns-in-Ok c =
    let xs = c.self.inside.items.items in
    let view = ap (λ (t : PendingEntries). t.items) c.self.view_is in
    let here : IsHere Pending number_of xs c.args.number c.in-Ok.at = rw view c.in-Ok.ensures.here in
    rw (← view) (ap (λ (p : Pending). Some p.index) c.index.ensures ∙ sym (pending_here xs c.args.number c.in-Ok.at c.index.result.now here).0)

pub returns-in-Err : goal.returns-in-Err
returns-in-Err c =
    let xs = c.self.inside.items.items in
    let view = ap (λ (t : PendingEntries). t.items) c.self.view_is in
    let gap : IsGap Pending number_of xs c.args.number c.in-Err.field-0 = rw view c.in-Err.ensures.gap in
    rw (← view) (sym (pending_gap xs c.args.number c.in-Err.field-0 c.self.invariant gap).0)

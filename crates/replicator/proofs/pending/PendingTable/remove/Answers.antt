use Rattle.std.proofs.Common.{◌≡◌, ◌<◌, ap, subst, sym, ◌∙◌, arith}
use Rattle.std.specs.Prelude.{Option, OnSome}
use Rattle.std.specs.List.{remove}
use Rattle.std.specs.VecDeque.{deque_len}
use Rattle.geo_base.specs.declared.replicator.Pending.{Pending}
use Rattle.geo_base.specs.Ascending.{IsGap, IsHere}
use Rattle.replicator.specs.Sending.{PendingEntries, number_of}
use Rattle.replicator.proofs.Pendings.{pending_gap, pending_here}
use Rattle.replicator.proofs.pending.PendingTable.remove.Goals as goal

pub returns-in-Ok-clause-items : goal.returns-in-Ok-clause-items
returns-in-Ok-clause-items c =
    let xs = c.self.inside.items.items in
    let at = c.in-Ok.at in
    let some : Pending = (record { number = 0; index = 0 }) in
    let view = ap (λ (t : PendingEntries). t.items) c.self.view_is in
    let here : IsHere Pending number_of xs c.args.number at = rw view c.in-Ok.ensures.here in
    let within : at < deque_len c.self.inside.items = omega (arith, here.within, c.self.inside.items.ok.0) in
    let removes : c.remove.new.self.items ≡ remove xs at =
    subst (λ (o : Option Pending). OnSome o (c.remove.new.self.items ≡ remove xs at)) (c.remove.ensures.succeeds some within) c.remove.ensures.items in
    rw (← view) (removes ∙ sym (pending_here xs c.args.number at some here).1)

pub returns-in_default-clause-items : goal.returns-in_default-clause-items
returns-in_default-clause-items c =
    let xs = c.self.inside.items.items in
    let view = ap (λ (t : PendingEntries). t.items) c.self.view_is in
    let gap : IsGap Pending number_of xs c.args.number c.in_default.field-0 = rw view c.in_default.ensures.gap in
    rw (← view) (sym (pending_gap xs c.args.number c.in_default.field-0 c.self.invariant gap).1)

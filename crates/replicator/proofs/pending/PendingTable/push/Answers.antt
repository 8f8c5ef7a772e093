use Rattle.std.proofs.Common.{◌<◌, ap}
use Rattle.std.specs.List.{All}
use Rattle.std.proofs.lemmas.List.Quantifiers.{all_pairs_push}
use Rattle.geo_base.specs.declared.replicator.Pending.{Pending}
use Rattle.replicator.specs.Sending.{PendingEntries}
use Rattle.replicator.proofs.pending.PendingTable.push.Goals as goal

pub invariant_of-self : goal.invariant_of-self
invariant_of-self c =
    let xs = c.self.inside.items.items in
    let view = ap (λ (t : PendingEntries). t.items) c.self.view_is in
    let above : All (λ (p : Pending). p.number < c.args.sent.number) xs = rw view c.requires.above in
    rw c.push_back_reserved.ensures.items (all_pairs_push (λ (p q : Pending). p.number < q.number) xs c.args.sent c.self.invariant above)

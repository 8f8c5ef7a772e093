use Rattle.std.proofs.Common.{refl, subst}
use Rattle.geo_base.specs.declared.entry.Entry.{Entry}
use Rattle.observe.specs.declared.apart.Compared.{Compared}
use Rattle.observe.proofs.Comparing.{IsCompared, parted_all, parted_begun, parted_differs, parted_ends, parted_on}
use Rattle.observe.proofs.Each.{item_at}
use Rattle.observe.proofs.apart.find_parted.Goals as goal

pub loop-index-init : goal.loop-index-init
loop-index-init c = parted_begun _ _ _ _

pub loop-index-preserved : goal.loop-index-preserved
loop-index-preserved c =
    let i = c.loop-index.index in let e : Entry = c.index-ours-index.result in
    let at = item_at _ c.args.ours.now i e refl c.loop-index-test.true c.index-ours-index.is in
    parted_on _ _ _ _ _ _ _ i e c.loop-index.invariant at (subst (λ (r : Compared). IsCompared c.args.pair e c.args.theirs.now c.loop-index.next r) c.in-Agrees.is c.compare_entry.ensures)

pub returns-in-Ends : goal.returns-in-Ends
returns-in-Ends c =
    let i = c.loop-index.index in let e : Entry = c.index-ours-index.result in
    let at = item_at _ c.args.ours.now i e refl c.loop-index-test.true c.index-ours-index.is in
    parted_ends _ _ _ _ _ _ i e c.loop-index.invariant at (subst (λ (r : Compared). IsCompared c.args.pair e c.args.theirs.now c.loop-index.next r) c.in-Ends.is c.compare_entry.ensures)

pub returns-in-Differs : goal.returns-in-Differs
returns-in-Differs c =
    let i = c.loop-index.index in let e : Entry = c.index-ours-index.result in
    let at = item_at _ c.args.ours.now i e refl c.loop-index-test.true c.index-ours-index.is in
    parted_differs _ _ _ _ _ _ _ i _ e c.loop-index.invariant at (subst (λ (r : Compared). IsCompared c.args.pair e c.args.theirs.now c.loop-index.next r) c.in-Differs.is c.compare_entry.ensures) c.in_ok-push-in-Differs.ensures.items

pub returns : goal.returns
returns c = parted_all _ _ _ _ _ _ _ c.loop-index.invariant c.loop-index-test.false

use Rattle.std.proofs.Common.{◌≡◌, ◌∙◌, List, ap, get_or, arith}
use Rattle.std.specs.Prelude.{slice_set}
use Rattle.geo_base.specs.Subscription.{detached}
use Rattle.broker_subs.specs.SubView.{SubView}
use Rattle.broker_subs.specs.Table.{with_sub}
use Rattle.geo_base.proofs.Mapped.{all_mapped, mapped_to, next_mapped, set_mapped}
use Rattle.broker_subs.proofs.table.leave_each.Goals as goal

pub loop-sub-preserved : goal.loop-sub-preserved
loop-sub-preserved c =
    let f = with_sub (detached c.args.client) in
    let olds = c.args.subs.now in
    let k = c.loop-sub.sub-index in
    let item = c.sub-item.result in
    let is : get_or c.loop-sub.sub-items k item ≡ get_or olds k item = ap (λ (bs : List SubView). get_or bs k item) c.loop-sub.invariant ∙ next_mapped f k olds item in
    ap (λ (bs : List SubView). slice_set bs k c.leave.new.self) c.loop-sub.invariant
    ∙ ap (λ (b : SubView). slice_set (mapped_to f k olds) k b) (c.leave.ensures ∙ ap f is)
    ∙ set_mapped f k olds item (omega arith)

pub returns : goal.returns
returns c = c.loop-sub.invariant ∙ all_mapped (with_sub (detached c.args.client)) c.loop-sub.sub-index c.args.subs.now (omega arith)

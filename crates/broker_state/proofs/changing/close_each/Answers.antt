use Rattle.std.proofs.Common.{ℕ, ◌∙◌, List, ap, arith}
use Rattle.std.specs.Prelude.{None, Option, slice_set}
use Rattle.geo_base.proofs.Mapped.{all_mapped, mapped_to, set_mapped}
use Rattle.broker_state.proofs.changing.close_each.Goals as goal

abbrev closed : Option ℕ → Option ℕ
closed r = None

pub loop-receiver-preserved : goal.loop-receiver-preserved
loop-receiver-preserved c =
    let olds = c.args.receivers.now in
    let k = c.loop-receiver.receiver-index in
    ap (λ (rs : List (Option ℕ)). slice_set rs k c.close.new.self) c.loop-receiver.invariant
    ∙ ap (λ (r : Option ℕ). slice_set (mapped_to closed k olds) k r) c.close.ensures
    ∙ set_mapped closed k olds None (omega arith)

pub returns : goal.returns
returns c = c.loop-receiver.invariant ∙ all_mapped closed c.loop-receiver.receiver-index c.args.receivers.now (omega arith)

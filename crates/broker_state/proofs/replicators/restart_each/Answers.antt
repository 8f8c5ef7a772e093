use Rattle.std.proofs.Common.{◌≡◌, ◌∙◌, List, ap, get_or, arith}
use Rattle.std.specs.Prelude.{slice_set}
use Rattle.broker_state.specs.Replicators.{ReplicatorRowView, row_restarted}
use Rattle.geo_base.proofs.Mapped.{all_mapped, mapped_to, next_mapped, set_mapped}
use Rattle.broker_state.proofs.replicators.restart_each.Goals as goal

pub loop-replicator-preserved : goal.loop-replicator-preserved
loop-replicator-preserved c =
    let f = row_restarted in
    let olds = c.args.replicators.now in
    let k = c.loop-replicator.replicator-index in
    let item = c.replicator-item.result in
    let is : get_or c.loop-replicator.replicator-items k item ≡ get_or olds k item = ap (λ (rs : List ReplicatorRowView). get_or rs k item) c.loop-replicator.invariant ∙ next_mapped f k olds item in
    ap (λ (rs : List ReplicatorRowView). slice_set rs k c.restart.new.self) c.loop-replicator.invariant
    ∙ ap (λ (r : ReplicatorRowView). slice_set (mapped_to f k olds) k r) (c.restart.ensures ∙ ap f is)
    ∙ set_mapped f k olds item (omega arith)

pub returns : goal.returns
returns c = c.loop-replicator.invariant ∙ all_mapped row_restarted c.loop-replicator.replicator-index c.args.replicators.now (omega arith)

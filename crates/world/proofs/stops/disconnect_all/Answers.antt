use Rattle.std.proofs.Common.{◌≡◌, ◌∙◌, List, ap, get_or, arith}
use Rattle.std.specs.Prelude.{slice_set}
use Rattle.geo_base.specs.Client.{Client, unconnected}
use Rattle.geo_base.proofs.Mapped.{all_mapped, mapped_to, next_mapped, set_mapped}
use Rattle.world.proofs.stops.disconnect_all.Goals as goal

pub loop-client-preserved : goal.loop-client-preserved
loop-client-preserved c =
    let olds = c.args.clients.now in
    let k = c.loop-client.client-index in
    let item = c.client-item.result in
    let is : get_or c.loop-client.client-items k item ≡ get_or olds k item = ap (λ (ms : List Client). get_or ms k item) c.loop-client.invariant ∙ next_mapped unconnected k olds item in
    ap (λ (ms : List Client). slice_set ms k c.disconnect.new.self) c.loop-client.invariant
    ∙ ap (λ (m : Client). slice_set (mapped_to unconnected k olds) k m) (c.disconnect.ensures ∙ ap unconnected is)
    ∙ set_mapped unconnected k olds item (omega arith)

pub returns : goal.returns
returns c = c.loop-client.invariant ∙ all_mapped unconnected c.loop-client.client-index c.args.clients.now (omega arith)

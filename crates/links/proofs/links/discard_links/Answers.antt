use Rattle.std.proofs.Common.{◌∙◌, List, [], ap, arith}
use Rattle.std.specs.Prelude.{slice_set}
use Rattle.links.specs.Queues.{Queue}
use Rattle.geo_base.proofs.Mapped.{all_mapped, mapped_to, set_mapped}
use Rattle.links.proofs.links.discard_links.Goals as goal

pub loop-link-preserved : goal.loop-link-preserved
loop-link-preserved c =
    let f = λ (q : Queue). [] in
    let olds = c.args.links.now in
    let k = c.loop-link.link-index in
    ap (λ (qs : List Queue). slice_set qs k c.discard.new.self) c.loop-link.invariant
    ∙ ap (λ (q : Queue). slice_set (mapped_to f k olds) k q) c.discard.ensures
    ∙ set_mapped f k olds [] (omega arith)

pub returns : goal.returns
returns c = c.loop-link.invariant ∙ all_mapped (λ (q : Queue). []) c.loop-link.link-index c.args.links.now (omega arith)

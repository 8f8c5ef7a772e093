use Rattle.std.proofs.Common.{◌≡◌, ◌<◌, ◌∙◌, List, [], ap, arith, get_or, length, subst, sym}
use Rattle.std.proofs.lemmas.List.{get_or_default}
use Rattle.geo_base.specs.Mirror.{Mirror, Mirrors}
use Rattle.audit.specs.Brought.{AreBroughtTo, BroughtHere}
use Rattle.audit.proofs.mirrors.AllMirrors.is_next.Goals as goal

pub is_next-requires-clause-brought : goal.is_next-requires-clause-brought
is_next-requires-clause-brought c =
    let topics : List Mirror = c.self.inside.topics.items in
    let lists : List (List BroughtHere) = c.self.inside.brought.items in
    let here = c.args.here in
    let seen : length topics ≡ length c.args.self.now.topics = ap (λ (q : Mirrors). length q.topics) c.self.view_is in
    let within : here < length lists = omega (arith, seen, c.self.invariant.1.sized, c.requires.here) in
    let is : c.index_mut.result.now ≡ get_or lists here [] = c.index_mut.ensures.value ∙ get_or_default lists here c.index_mut.result.now [] within in
    subst (λ (ms : List Mirror). AreBroughtTo ms here c.index_mut.result.now) (sym c.as_slice.ensures.value)
    (subst (λ (bs : List BroughtHere). AreBroughtTo topics here bs) (sym is) (c.self.invariant.1.each here))

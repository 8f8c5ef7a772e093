use Rattle.std.proofs.Common.{◌≡◌, ◌<◌, ◌∙◌, List, [], ap, arith, get_or, length, subst, sym}
use Rattle.std.proofs.lemmas.List.{get_or_default}
use Rattle.geo_base.specs.Mirror.{Mirror, Mirrors}
use Rattle.audit.specs.Covers.{AreCoversOf, NeededHere}
use Rattle.audit.proofs.mirrors.AllMirrors.covers.Goals as goal

pub covers-requires-clause-covers : goal.covers-requires-clause-covers
covers-requires-clause-covers c =
    let topics : List Mirror = c.self.inside.topics.items in
    let lists : List (List NeededHere) = c.self.inside.covers.items in
    let here = c.args.pair.here in
    let seen : length topics ≡ length c.args.self.now.topics = ap (λ (q : Mirrors). length q.topics) c.self.view_is in
    let within : here < length lists = omega (arith, seen, c.self.invariant.0.sized, c.requires.here) in
    let is : c.index_mut.result.now ≡ get_or lists here [] = c.index_mut.ensures.value ∙ get_or_default lists here c.index_mut.result.now [] within in
    subst (λ (ms : List Mirror). AreCoversOf ms here c.index_mut.result.now) (sym c.as_slice.ensures.value)
    (subst (λ (cs : List NeededHere). AreCoversOf topics here cs) (sym is) (c.self.invariant.0.each here))

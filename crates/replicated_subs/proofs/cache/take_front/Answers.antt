use Rattle.std.proofs.Common.{◌<◌, ◌∙◌, drop, ap, arith}
use Rattle.std.proofs.lemmas.List.{drop-drop}
use Rattle.replicated_subs.proofs.Passing.{cut_next}
use Rattle.replicated_subs.proofs.cache.take_front.Goals as goal

pub loop-place-preserved : goal.loop-place-preserved
loop-place-preserved c =
    let old = c.loop-place.items in
    let place = c.loop-place._place in
    let all = c.args.items.now.items in
    let inv = c.loop-place.invariant in
    let pop = c.pop_front-last.ensures in
    let some : 0 < old.len = omega (arith, c.loop-place-test.true, c.requires, inv.len) in
    record {
      left = pop.rest ∙ ap (λ l. drop 1 l) inv.left ∙ drop-drop 1 place all;
      last = cut_next place all old.items c.pop_front-last.result (omega (arith, c.loop-place-test.true, c.requires, c.args.items.now.ok.0)) inv.left (λ d. pop.value d some);
      len = grind (arith, pop.cases, pop.len, pop.variant, some, inv.len);
      capacity = pop.capacity ∙ inv.capacity;
    }

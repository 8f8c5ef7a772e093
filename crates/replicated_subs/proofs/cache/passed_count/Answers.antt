use Rattle.std.proofs.Common.{◌∙◌, arith, rules}
use Rattle.replicated_subs.proofs.Passing.{count_first, count_next}
use Rattle.replicated_subs.proofs.cache.passed_count.Goals as goal

pub loop-place-init : goal.loop-place-init
loop-place-init c = record { counted = count_first c.args.mark c.args.items.now.items; within = omega arith }

pub loop-place-preserved : goal.loop-place-preserved
loop-place-preserved c =
    let counted = c.counted-count.ensures in
    let item = c.index.ensures in
    record {
      counted = count_next c.args.mark c.loop-place.place c.loop-place.count c.counted-count.result c.args.items.now.items c.index.result.now (search rules) (search (rules, counted, item)) ∙ c.loop-place.invariant.counted;
      within = grind (arith, counted, c.loop-place.invariant.within);
    }

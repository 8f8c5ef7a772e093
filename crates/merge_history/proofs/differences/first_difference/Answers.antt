use Rattle.std.proofs.Common.{◌≡◌, ap, sym, arith}
use Rattle.std.specs.Prelude.{None, Ok}
use Rattle.merge_history.specs.Differences.{AllSent}
use Rattle.merge_history.proofs.Firsts.{differences_of_all, first_of_all, next_difference, next_first, next_none_below, none_of_all, none_out}
use Rattle.merge_history.proofs.Walking.{kept_there}
use Rattle.merge_history.proofs.differences.first_difference.Goals as goal

pub loop-node-preserved : goal.loop-node-preserved
loop-node-preserved c =
    let kept = c.args.histories.now in let h = c.index-histories-node.result in let l = c.args.layout.now in let n = c.loop-node.node in
    let own = kept_there kept n h c.loop-node-test.true (sym c.index-histories-node.is) in
    let none : c.in_ok-found.found ≡ None → AllSent l kept n = λ e. c.in_ok-found.ensures.none (ap (λ o. Ok o) e) in
    let first = c.loop-node.first in let f = c.in_ok-found.found in let d = c.with_stamp.result in let r = c.earlier_of-first.result in (
      (
        next_difference l kept n h first f d r c.loop-node.invariant.0.0 c.in_ok-found.ensures.found c.with_stamp.ensures c.earlier_of-first.ensures,
        next_none_below l kept n h first f d r own c.loop-node.invariant.0.1 c.in_ok-found.ensures.found none c.with_stamp.ensures c.earlier_of-first.ensures,
      ),
      λ rising. next_first l kept n h first f d r rising own (c.loop-node.invariant.1 rising) c.in_ok-found.ensures.found none c.with_stamp.ensures c.earlier_of-first.ensures,
    )

pub returns-clause-found : goal.returns-clause-found
returns-clause-found c =
    differences_of_all c.args.layout.now c.args.histories.now c.loop-node.node c.loop-node.first (omega (arith, c.loop-node-test.false)) c.loop-node.invariant.0.0

pub returns-clause-first : goal.returns-clause-first
returns-clause-first c = λ rising.
    first_of_all c.args.layout.now c.args.histories.now c.loop-node.node c.loop-node.first (omega (arith, c.loop-node-test.false)) (c.loop-node.invariant.1 rising)

pub returns-clause-none : goal.returns-clause-none
returns-clause-none c = λ is.
    none_of_all c.args.layout.now c.args.histories.now c.loop-node.node c.loop-node.first (omega (arith, c.loop-node-test.false)) c.loop-node.invariant.0.1 (none_out c.loop-node.first is)

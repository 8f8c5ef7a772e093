use Rattle.std.proofs.Common.{◌-◌, true, false}
use Rattle.script_generator.proofs.Walks.{begins_here, begins_later, begins_nowhere, piece_is}
use Rattle.script_generator.proofs.inputs.trace_start.Goals as goal

pub returns-then-eq-clause-start : goal.returns-then-eq-clause-start
returns-then-eq-clause-start c =
    let xs = c.args.input.now in let at = c.loop-end.at in let end = c.in-Some.end in
    begins_here xs at end c.loop-end.invariant.within c.in-Some.ensures (piece_is xs at end c.eq.result true c.if-eq.true c.eq.ensures) c.loop-end.invariant.starts

pub loop-end-preserved : goal.loop-end-preserved
loop-end-preserved c =
    let xs = c.args.input.now in let at = c.loop-end.at in let end = c.in-Some.end in
    let h = begins_later xs at end c.loop-end.invariant.within c.in-Some.ensures (piece_is xs at end c.eq.result false c.if-eq.false c.eq.ensures) c.loop-end.invariant.starts in
    record { within = h.0; starts = h.1 }

pub returns-clause-start : goal.returns-clause-start
returns-clause-start c = begins_nowhere c.args.input.now c.loop-end.at c.loop-end.invariant.within c.in_default.ensures c.loop-end.invariant.starts

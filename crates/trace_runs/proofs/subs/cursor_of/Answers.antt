use Rattle.std.proofs.Common.{ap, sym, ◌∙◌}
use Rattle.cursor_acks.specs.Acks.{AckSet}
use Rattle.trace_runs.proofs.Steps.{found_here}
use Rattle.trace_runs.proofs.subs.cursor_of.Goals as goal

pub returns-in-Some : goal.returns-in-Some
returns-in-Some c =
    ap (λ (a : AckSet). a.indexes) c.cursor.ensures
    ∙ found_here c.args.sub.now c.args.node.now.broker.subs c.loop-sub_index.sub_index c.in-Some.found.now.sub _ c.in-Some.ensures (sym c.is_named.ensures ∙ c.if-is_named.true) c.loop-sub_index.invariant

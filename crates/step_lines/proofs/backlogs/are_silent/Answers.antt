use Rattle.std.proofs.Common.{drop, sym, ◌∙◌}
use Rattle.step_lines.specs.Backlogs.{are_silent}
use Rattle.step_lines.proofs.Counting.{silent_next}
use Rattle.step_lines.proofs.backlogs.are_silent.Goals as goal

pub loop-number-preserved : goal.loop-number-preserved
loop-number-preserved c =
    let ws = c.args.plan.now.writes in
    silent_next ws c.loop-number.number c.write_at.result.now (are_silent (drop c.args.first ws)) c.write_at.ensures (sym c.is_silent.ensures ∙ c.if-not-is_silent.false) c.loop-number.invariant

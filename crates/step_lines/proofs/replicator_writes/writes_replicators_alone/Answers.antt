use Rattle.std.proofs.Common.{sym, ◌∙◌}
use Rattle.step_lines.specs.Resting.{are_of_replicators}
use Rattle.step_lines.proofs.Resting.{of_replicators_next}
use Rattle.step_lines.proofs.replicator_writes.writes_replicators_alone.Goals as goal

pub loop-number-preserved : goal.loop-number-preserved
loop-number-preserved c =
    let ws = c.args.plan.now.writes in
    of_replicators_next ws c.loop-number.number c.write_at.result.now (are_of_replicators ws) c.write_at.ensures (sym c.is_of_replicator.ensures ∙ c.if-not-is_of_replicator.false) c.loop-number.invariant

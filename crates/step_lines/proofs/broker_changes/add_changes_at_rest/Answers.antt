use Rattle.std.proofs.Common.{◌≡◌, ◌++◌, map, ◌∙◌}
use Rattle.step_laws.specs.Steps.{broker_changes, change_line, other_replicators}
use Rattle.step_lines.specs.Changes.{stood_lines}
use Rattle.step_lines.proofs.Resting.{rest_lines}
use Rattle.step_lines.proofs.Told.{on_ok}
use Rattle.step_lines.proofs.broker_changes.add_changes_at_rest.Goals as goal

pub returns : goal.returns
returns c = λ b seen rests.
    let v = c.args.broker.now in let old = c.args.lines.now in let new = c.add_other_replicators.new.lines in
    on_ok (new ≡ old ++ stood_lines c.args.indent (map change_line (other_replicators v.site.own 0 v.site.clusters b v.broker)))
    (new ≡ old ++ stood_lines c.args.indent (map change_line (broker_changes v.site.clusters v.site.own b v.broker))) c.add_other_replicators.result
    (λ is. is ∙ rest_lines v.site.clusters v.site.own b v.broker c.args.indent old rests) (c.add_other_replicators.ensures b seen)

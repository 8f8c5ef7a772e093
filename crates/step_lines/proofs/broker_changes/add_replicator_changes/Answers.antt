use Rattle.std.proofs.Common.{[]}
use Rattle.std.specs.Prelude.{slice_index_or}
use Rattle.step_lines.specs.Changes.{place_line}
use Rattle.step_lines.proofs.Resting.{rest_nothing}
use Rattle.step_lines.proofs.broker_changes.add_replicator_changes.Goals as goal

pub returns-then-not-is_any_other : goal.returns-then-not-is_any_other
returns-then-not-is_any_other c = λ b seen rests.
    let v = c.args.broker.now in
    rest_nothing v.site.clusters v.site.own b v.broker c.args.indent (place_line c.args.topic.now (slice_index_or v.site.clusters v.site.own [])) c.args.lines.now rests
    (c.is_any_other.ensures b seen c.if-not-is_any_other.true)

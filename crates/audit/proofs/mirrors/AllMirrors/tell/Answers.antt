use Rattle.std.proofs.Common.{◌∙◌, ℕ, ap, subst, sym}
use Rattle.std.specs.Prelude.{slice_index_or}
use Rattle.geo_base.specs.Audit.{refused}
use Rattle.geo_base.specs.Mirror.{Mirrors, no_mirror}
use Rattle.geo_base.specs.Setup.{Setup}
use Rattle.trace_lines.specs.Said.{act_said, item_said}
use Rattle.trace_lines.specs.declared.line.Line.{Line}
use Rattle.audit.specs.Topic.{MayAct}
use Rattle.audit.proofs.Judging.{write_may}
use Rattle.audit.proofs.mirrors.AllMirrors.tell.Goals as goal

pub write-requires-clause-may : goal.write-requires-clause-may
write-requires-clause-may c =
    let s : Setup = c.args.scenario.now.setup in let a : Mirrors = c.args.self.now in
    subst (λ (n : ℕ). MayAct (slice_index_or a.topics n no_mirror) (act_said c.in-Writes.written)) (sym c.number_of.ensures.number)
    (write_may s a c.in-Writes.topic c.in-Writes.cluster (act_said c.in-Writes.written) (ap (λ (l : Line). refused s a (item_said l)) (sym c.in-Writes.is) ∙ c.requires.accepted))

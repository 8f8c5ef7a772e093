use Rattle.std.proofs.Common.{◌≡◌, ◌∙◌, ℕ, true, ap, sym, arith}
use Rattle.trace_lines.specs.Said.{item_said}
use Rattle.audit.specs.AuditOf.{may_come}
use Rattle.audit.specs.declared.strictness.Strictness.TheVariants as strictness
use Rattle.geo_base.specs.Setup.{Setup}
use Rattle.audit.proofs.Judging.{begins_judged, write_judged}
use Rattle.audit.proofs.mirrors.AllMirrors.refused.Goals as goal

pub returns-in-Writes-clause-refused : goal.returns-in-Writes-clause-refused
returns-in-Writes-clause-refused c =
    let allowed : c.may_come.result ≡ true = grind (arith, c.if-not-may_come.false) in
    let come : may_come c.args.self.now.events (item_said c.args.line.now) ≡ true =
    ap (λ (n : ℕ). may_come n (item_said c.args.line.now)) (sym c.events.ensures) ∙ (sym c.may_come.ensures ∙ allowed) in
    write_judged c.args.scenario.now.setup c.args.self.now c.args.line.now c.in-Writes.topic c.in-Writes.cluster c.in-Writes.written c.write_refused.result c.in-Writes.is come
    c.write_refused.ensures.refused

pub returns-in-Begins-clause-refused : goal.returns-in-Begins-clause-refused
returns-in-Begins-clause-refused c =
    let s : Setup = c.args.scenario.now.setup in
    begins_judged s c.args.self.now c.args.line.now c.in-Begins.number c.event_refused.result c.in-Begins.is (c.event_refused.ensures strictness.Plain s)

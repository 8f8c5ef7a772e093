-- What `trace` writes of an accepted script is accepted by `audit`, and by `audit whole`.
use Rattle.std.proofs.Common.{◌≡◌, ℕ, List, map, ap, ◌∙◌}
use Rattle.std.specs.Prelude.{Ok}
use Rattle.audit.specs.AuditOf.{audit_by}
use Rattle.audit.specs.declared.strictness.Strictness.{Strictness}
use Rattle.audit.specs.declared.strictness.Strictness.TheVariants as strictness
use Rattle.geo_base.specs.Report.{with_line_feeds}
use Rattle.geo_base.specs.Run.{all_limits, run_under}
use Rattle.geo_base.specs.TraceText.{item_line, trace_lines}
use Rattle.geo_base.specs.Traced.{traced}
use Rattle.trace_laws.proofs.ReadBack.{trace_read}
use Rattle.script_text.specs.Rules.{script_of}
use Rattle.script_text.specs.Scenario.{IsScenario}
use Rattle.script_text.specs.Script.{Script}
use Rattle.script_generator.specs.Apart.{AreApart, headed}
use Rattle.script_generator.specs.Starts.{declarations_in}
use Rattle.script_generator.proofs.Behind.{apart_law}
use Rattle.geo_top.specs.declared.top.status.Status.TheVariants as status
use Rattle.geo_top.specs.Audits.{audit_line}
use Rattle.geo_top.specs.Outputs.{answer_to_audited, answer_to_auditing, answer_to_judged}
use Rattle.geo_top.specs.Traced.{traced_of}

abbrev pub Counts : Strictness → Script → Type 0
Counts k n = answer_to_auditing k (traced_of n) ≡ record { status = status.Ok; bytes = audit_line (run_under all_limits n.setup n.steps).world.events }

-- where the audit accepts the lines of the run, it accepts the text
accepted_by : (k : Strictness) (n : Script) → IsScenario n
    → audit_by k n.setup (with_line_feeds (trace_lines n.setup (traced all_limits n.setup n.steps))) ≡ Ok (run_under all_limits n.setup n.steps).world.events → Counts k n
accepted_by k n scenario fine =
    let s = n.setup in
    let lines = with_line_feeds (map (item_line s) (traced all_limits s n.steps)) in
    let apart : AreApart n lines = apart_law n lines scenario in
    ap (λ (t : List ℕ). answer_to_audited k t (script_of (declarations_in (traced_of n)))) apart.trace
    ∙ (ap (answer_to_audited k (headed lines)) apart.declared
    ∙ ap answer_to_judged fine)

pub traced_accepted : (n : Script) → IsScenario n → Counts strictness.Plain n
traced_accepted n scenario = accepted_by strictness.Plain n scenario (trace_read n scenario n.steps).accepted

pub traced_whole : (n : Script) → IsScenario n → Counts strictness.Whole n
traced_whole n scenario = accepted_by strictness.Whole n scenario (trace_read n scenario n.steps).wholly

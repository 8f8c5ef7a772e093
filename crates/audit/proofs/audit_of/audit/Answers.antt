use Rattle.std.proofs.Common.{◌≡◌, ◌∙◌, ◌∷◌, ℕ, true, sym}
use Rattle.std.specs.Prelude.{Ok, codes}
use Rattle.std.specs.Str.{bytes_eq}
use Rattle.std.proofs.lemmas.Result.{IfOk-weaker}
use Rattle.geo_base.specs.Mirror.{opening_mirrors}
use Rattle.geo_base.specs.Setup.{Setup}
use Rattle.script_rows.specs.NameWords.{cut_by}
use Rattle.audit.specs.AuditOf.{IsAccepted, audit_by, lines_audited}
use Rattle.audit.specs.declared.strictness.Strictness.{Strictness}
use Rattle.audit.proofs.Accepting.{accepted_says, audit_reads}
use Rattle.audit.proofs.audit_of.audit.Goals as goal

pub returns-clause-audited : goal.returns-clause-audited
returns-clause-audited c =
    let k : Strictness = c.args.strictness in let s : Setup = c.args.scenario.now.setup in let bytes = c.args.bytes.now in let head = c.in-Some.head.now in let lines = c.in-Some.lines.now in
    let cut : cut_by 10 bytes ≡ head ∷ cut_by 10 lines = c.in-Some.ensures in
    let word : bytes_eq head (codes "trace") ≡ true = sym c.is_word.ensures ∙ c.if-not-is_word.false in
    let whole = audit_reads k s bytes head lines cut word in
    IfOk-weaker c.audit_lines.result (λ (n : ℕ). lines_audited k s (opening_mirrors s) (cut_by 10 lines) ≡ Ok n) (λ (n : ℕ). audit_by k s bytes ≡ Ok n) (λ n h. whole ∙ h) c.audit_lines.ensures.audited

pub returns-clause-refused : goal.returns-clause-refused
returns-clause-refused c = λ event rule is.
    let k : Strictness = c.args.strictness in let s : Setup = c.args.scenario.now.setup in let bytes = c.args.bytes.now in let head = c.in-Some.head.now in let lines = c.in-Some.lines.now in
    let cut : cut_by 10 bytes ≡ head ∷ cut_by 10 lines = c.in-Some.ensures in
    let word : bytes_eq head (codes "trace") ≡ true = sym c.is_word.ensures ∙ c.if-not-is_word.false in
    audit_reads k s bytes head lines cut word ∙ c.audit_lines.ensures.refused event rule is

pub returns-clause-accepted : goal.returns-clause-accepted
returns-clause-accepted c =
    let k : Strictness = c.args.strictness in let s : Setup = c.args.scenario.now.setup in let bytes = c.args.bytes.now in let head = c.in-Some.head.now in let lines = c.in-Some.lines.now in
    let cut : cut_by 10 bytes ≡ head ∷ cut_by 10 lines = c.in-Some.ensures in
    let word : bytes_eq head (codes "trace") ≡ true = sym c.is_word.ensures ∙ c.if-not-is_word.false in
    let whole = audit_reads k s bytes head lines cut word in
    IfOk-weaker c.audit_lines.result (λ (n : ℕ). lines_audited k s (opening_mirrors s) (cut_by 10 lines) ≡ Ok n) (λ (n : ℕ). IsAccepted k s bytes n) (λ n h. accepted_says k s bytes n (whole ∙ h)) c.audit_lines.ensures.audited

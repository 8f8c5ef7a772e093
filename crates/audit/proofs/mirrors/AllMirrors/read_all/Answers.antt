use Rattle.std.proofs.Common.{◌≡◌, ◌∙◌, ◌∷◌, ap, arith, rules, subst, sym}
use Rattle.std.specs.Prelude.{Err, None, Some}
use Rattle.std.proofs.lemmas.Grind.{common_steps}
use Rattle.std.proofs.lemmas.Result.{err_from_is_err_and}
use Rattle.geo_base.specs.Mirror.{Mirrors}
use Rattle.geo_base.specs.Setup.{Setup}
use Rattle.script_rows.specs.NameWords.{cut_by}
use Rattle.trace_lines.specs.Lines.{item_read}
use Rattle.trace_lines.specs.Names.{DeclaredNames}
use Rattle.audit.specs.AuditOf.{item_refused, names_of, told_if}
use Rattle.audit.specs.Numbers.{AreSized}
use Rattle.audit.specs.declared.strictness.Strictness.{Strictness}
use Rattle.audit.specs.declared.fault.AuditFault.TheVariants as fault
use Rattle.audit.proofs.Judging.{line_refused, line_told, told_if_sized}
use Rattle.audit.proofs.mirrors.AllMirrors.read_all.Goals as goal

pub returns-in_err-read-clause-refused : goal.returns-in_err-read-clause-refused
returns-in_err-read-clause-refused c = λ event rule is.
    let k : Strictness = c.args.strictness in let s : Setup = c.args.scenario.now.setup in let a : Mirrors = c.loop-line.self in let line = c.in-Some.line.now in
    let p = err_from_is_err_and c.from_residual.result c.from_residual.ensures.1 in
    let broken : c.in_err-read.field-0.0 ≡ fault.Rule event rule = (let first = p.1 in let second = p.2 in first_of (cc, search (rules, first, second, is))) in
    let cut : cut_by 10 c.loop-line.rest.now ≡ line ∷ cut_by 10 c.in-Some.behind.now =
    (let whole = c.in-Some.ensures in first_of (cc, search rules, grind (arith, common_steps))) in
    let names : item_refused k s a (item_read (names_of s) line) ≡ Some rule =
    subst (λ (d : DeclaredNames). item_refused k s a (item_read d line) ≡ Some rule) c.requires.names (c.in_err-read.ensures.rule event rule (ap Err broken)) in
    sym c.loop-line.invariant.rest ∙ line_refused k s a line c.loop-line.rest.now c.in-Some.behind.now event rule cut names (c.in_err-read.ensures.event event rule (ap Err broken))

pub loop-line-preserved : goal.loop-line-preserved
loop-line-preserved c =
    let k : Strictness = c.args.strictness in let s : Setup = c.args.scenario.now.setup in let a : Mirrors = c.loop-line.self in let line = c.in-Some.line.now in
    let b : Mirrors = c.read.new.self in
    let cut : cut_by 10 c.loop-line.rest.now ≡ line ∷ cut_by 10 c.in-Some.behind.now =
    (let whole = c.in-Some.ensures in first_of (cc, search rules, grind (arith, common_steps))) in
    let none : item_refused k s a (item_read (names_of s) line) ≡ None =
    subst (λ (d : DeclaredNames). item_refused k s a (item_read d line) ≡ None) c.requires.names c.in_ok-read.ensures.accepted in
    let told : b ≡ told_if s a (item_read (names_of s) line) = subst (λ (d : DeclaredNames). b ≡ told_if s a (item_read d line)) c.requires.names c.in_ok-read.ensures.told in
    record {
      rest = line_told k s a b line c.loop-line.rest.now c.in-Some.behind.now cut none told ∙ c.loop-line.invariant.rest;
      sized = subst (AreSized s) (sym told) (told_if_sized s a (item_read (names_of s) line) c.loop-line.invariant.sized);
    }

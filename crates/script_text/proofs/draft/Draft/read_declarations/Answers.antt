use Rattle.std.proofs.Common.{◌≡◌, List, Err, rules, ap, arith, length, subst, sym, ◌∙◌}
use Rattle.std.proofs.lemmas.Grind.{common_steps}
use Rattle.script_rows.specs.declared.fault.LineFault.{LineFault}
use Rattle.script_rows.specs.Judging.{rule_number}
use Rattle.script_text.specs.Drafts.{Draft, Judges, drafted_line, so_far}
use Rattle.script_text.specs.Kept.{IsKept}
use Rattle.script_text.specs.Lines.{TextLine}
use Rattle.script_text.specs.Rules.{script_from}
use Rattle.script_text.specs.Subs.{AreKnown}
use Rattle.script_text.proofs.Drafting.{line_breaks, line_goes, line_taken, refused_at}
use Rattle.script_text.proofs.KeptRows.{nothing_kept}
use Rattle.script_text.proofs.Noting.{nothing_known}
use Rattle.script_text.proofs.draft.Draft.read_declarations.Goals as goal

pub loop-line-init : goal.loop-line-init
loop-line-init c = record {
  rest = ap (λ (d : Draft). script_from 1 (so_far d.declared) c.args.lines.now) c.requires.fresh;
  few = omega arith;
  some = omega arith;
  kept = subst (λ (d : Draft). IsKept 1 d.declared) (sym c.requires.fresh) nothing_kept;
  known = subst (λ (d : Draft). AreKnown d.declared.setup d.names) (sym c.requires.fresh) nothing_known;
}

pub loop-line-preserved : goal.loop-line-preserved
loop-line-preserved c =
    let at = c.loop-line in
    let new = c.read_line.new.self in
    let l = c.in-Some.line in
    let said = c.in-Some.ensures.line in
    let taken = line_taken at.number at.self new l at.invariant.some at.invariant.known said.1 c.in-Ok.ensures at.invariant.kept in
    record {
      rest = sym (ap (λ (ls : List TextLine). script_from at.number (so_far at.self.declared) ls) said.0 ∙ line_goes at.number at.self new l c.next_declaration.new.self at.invariant.known said.1 c.in-Ok.ensures) ∙ at.invariant.rest;
      few = omega (arith, at.invariant.few, ap length said.0);
      some = omega arith;
      kept = taken.kept;
      known = taken.known;
    }

pub returns-in-Err-Broken-clause-goes : goal.returns-in-Err-Broken-clause-goes
returns-in-Err-Broken-clause-goes c =
    let at = c.loop-line in
    let said = c.in-Some.ensures.line in
    let judged = subst (λ (f : LineFault). Judges (Err f) c.read_line.new.self (drafted_line at.self c.in-Some.line)) c.in-Err-Broken.field-0-is c.in-Err-Broken.ensures in
    let broken = line_breaks at.number at.self c.in-Some.line c.next_declaration.new.self c.in-Err-Broken.rule at.invariant.known said.1 judged in
    let number : c.number.result ≡ rule_number c.in-Err-Broken.rule = first_of (search rules, grind (arith, common_steps)) in
    sym at.invariant.rest ∙ (ap (λ (ls : List TextLine). script_from at.number (so_far at.self.declared) ls) said.0 ∙ (broken ∙ ap (refused_at at.number) (sym number)))

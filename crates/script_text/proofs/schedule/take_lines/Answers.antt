use Rattle.std.proofs.Common.{◌≡◌, List, Err, rules, ap, arith, length, subst, sym, ◌∙◌}
use Rattle.std.proofs.lemmas.Grind.{common_steps}
use Rattle.script_rows.specs.declared.fault.LineFault.{LineFault}
use Rattle.script_rows.specs.Judging.{rule_number}
use Rattle.script_text.specs.Drafts.{Judges}
use Rattle.script_text.specs.Lines.{TextLine}
use Rattle.script_text.specs.Schedule.{at_events, schedule_from, scheduled}
use Rattle.script_text.proofs.LineCounts.{length_lines_of}
use Rattle.script_text.proofs.ScheduleBack.{refused_line, schedule_breaks, schedule_goes}
use Rattle.script_text.proofs.schedule.take_lines.Goals as goal

pub loop-line-init : goal.loop-line-init
loop-line-init c = record {
  rest = ap (λ (ls : List TextLine). schedule_from 1 c.args.names.now c.args.steps.now ls) c.new-lines.ensures;
  few = omega (arith, ap length c.new-lines.ensures, length_lines_of c.args.bytes.now);
}

pub loop-line-preserved : goal.loop-line-preserved
loop-line-preserved c =
    let at = c.loop-line in
    let names = c.args.names.now in
    let l = c.in-Some.line in
    let lines = c.in-Some.ensures in
    record {
      rest = sym (ap (λ (xs : List TextLine). schedule_from at.number names at.steps xs) lines ∙ schedule_goes at.number names at.steps c.read_line.new.self l c.next_line.new.self c.in-Ok.ensures) ∙ at.invariant.rest;
      few = omega (arith, at.invariant.few, ap length lines);
    }

pub returns-in-Err-Broken : goal.returns-in-Err-Broken
returns-in-Err-Broken c =
    let at = c.loop-line in
    let names = c.args.names.now in
    let l = c.in-Some.line in
    let r = c.in-Err-Broken.rule in
    let judged = subst (λ (f : LineFault). Judges (Err f) c.read_line.new.self (scheduled at.number at_events names at.steps l)) c.in-Err-Broken.field-0-is c.in-Err-Broken.ensures in
    let number : c.number.result ≡ rule_number r = first_of (search rules, grind (arith, common_steps)) in
    sym at.invariant.rest ∙ (ap (λ (xs : List TextLine). schedule_from at.number names at.steps xs) c.in-Some.ensures ∙ (schedule_breaks at.number names at.steps l c.next_line.new.self r judged ∙ ap (refused_line at.number) (sym number)))

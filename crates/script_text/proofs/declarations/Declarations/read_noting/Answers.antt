use Rattle.std.proofs.Common.{◌≡◌, List, Err, Ok, inl, inr, refl, rules, ap, arith, length, subst, sym, ◌∙◌}
use Rattle.std.proofs.lemmas.Grind.{common_steps}
use Rattle.script_rows.specs.declared.fault.LineFault.{LineFault}
use Rattle.script_rows.specs.declared.progress.Progress.{Progress}
use Rattle.script_rows.specs.Judging.{rule_number}
use Rattle.script_rows.specs.Names.{Names}
use Rattle.script_text.specs.Drafts.{IsLate, Judges, moved_on}
use Rattle.script_text.specs.Lines.{TextLine}
use Rattle.script_text.specs.Recent.{among_events}
use Rattle.script_text.specs.Rules.{script_from}
use Rattle.script_text.specs.Schedule.{scheduled}
use Rattle.script_text.specs.Script.{SoFar, Steps}
use Rattle.script_text.proofs.Drafting.{refused_at}
use Rattle.script_text.proofs.Late.{step_breaks, step_goes}
use Rattle.script_text.proofs.RecentLines.{none_noted}
use Rattle.script_text.proofs.ScheduleBack.{line_known}
use Rattle.script_text.proofs.declarations.Declarations.read_noting.Goals as goal

pub loop-line-init : goal.loop-line-init
loop-line-init c =
    let d = c.args.self.now in let first = c.args.first in let p = c.progress-progress.result in
    record {
      rest = ap (λ (q : Progress). script_from first (record { declared = moved_on d q; steps = c.args.steps.now }) c.args.lines) c.progress-progress.ensures
          ∙ ap (λ (s : Steps). script_from first (record { declared = d; steps = s }) c.args.lines) c.requires.fresh;
      few = omega arith;
      late = inr c.requires.starts;
      begun = ap (λ (q : Progress). q.begun) c.progress-progress.ensures;
      known = λ k e under. absurd (omega (arith, under, ap (λ (s : Steps). length s.list) c.requires.fresh));
      recent = none_noted (among_events p) c.args.names.now c.args.recent.now c.requires.recent;
    }

pub read_next-requires : goal.read_next-requires
read_next-requires c = record { recent = c.loop-line.invariant.recent }

pub loop-line-preserved : goal.loop-line-preserved
loop-line-preserved c =
    let at = c.loop-line in
    let d = c.args.self.now in
    let s : SoFar = record { declared = moved_on d at.progress; steps = at.steps } in
    let l = c.in-Some.line in
    let ls = c.next_line.new.self in
    let lines = c.in-Some.ensures in
    let late = subst (λ (xs : List TextLine). IsLate at.progress xs) lines at.invariant.late in
    let done = subst (λ (n : Names). scheduled at.number at.progress n at.steps l ≡ Ok c.read_next.new.self) c.requires.names c.in-Ok.ensures.judges in
    record {
      rest = sym (ap (λ (xs : List TextLine). script_from at.number s xs) lines ∙ step_goes at.number s l ls c.read_next.new.self late done) ∙ at.invariant.rest;
      few = omega (arith, at.invariant.few, ap length lines);
      late = inl refl;
      begun = at.invariant.begun;
      known = line_known d.setup at.number at.progress at.steps c.read_next.new.self l c.requires.declared done at.invariant.known;
      recent = c.read_next.ensures.recent;
    }

pub returns-in-Err-Broken-clause-goes : goal.returns-in-Err-Broken-clause-goes
returns-in-Err-Broken-clause-goes c =
    let at = c.loop-line in
    let d = c.args.self.now in
    let s : SoFar = record { declared = moved_on d at.progress; steps = at.steps } in
    let l = c.in-Some.line in
    let r = c.in-Err-Broken.rule in
    let lines = c.in-Some.ensures in
    let late = subst (λ (xs : List TextLine). IsLate at.progress xs) lines at.invariant.late in
    let judged = subst (λ (f : LineFault). Judges (Err f) c.read_next.new.self (scheduled at.number at.progress c.args.names.now at.steps l)) c.in-Err-Broken.field-0-is c.in-Err-Broken.ensures.judges in
    let broken = subst (λ (n : Names). scheduled at.number at.progress n at.steps l ≡ Err r) c.requires.names judged in
    let number : c.number.result ≡ rule_number r = first_of (search rules, grind (arith, common_steps)) in
    sym at.invariant.rest ∙ (ap (λ (xs : List TextLine). script_from at.number s xs) lines ∙ (step_breaks at.number s l c.next_line.new.self r late broken ∙ ap (refused_at at.number) (sym number)))

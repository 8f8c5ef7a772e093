use Rattle.std.proofs.Common.{◌≡◌, List, ℕ, Ok, All, IfOk, ap, subst, ◌∙◌}
use Rattle.std.proofs.lemmas.Result.{IfOk-weaker}
use Rattle.script_rows.specs.Names.{Names}
use Rattle.script_text.specs.Naming.{names_of}
use Rattle.script_text.specs.Scenario.{IsStep}
use Rattle.script_text.specs.Schedule.{schedule_of, schedule_text}
use Rattle.script_text.proofs.ScheduleBack.{schedule_back}
use Rattle.script_text.proofs.schedule.write_schedule.Goals as goal

pub returns-clause-text : goal.returns-clause-text
returns-clause-text c =
    subst (λ (n : Names). IfOk c.write_steps-text.result (λ text. text ≡ schedule_text n c.args.steps.now)) c.in_ok-names.ensures.names c.write_steps-text.ensures

pub returns-clause-back : goal.returns-clause-back
returns-clause-back c =
    let s = c.args.scenario.now.setup in
    let text = subst (λ (n : Names). IfOk c.write_steps-text.result (λ text. text ≡ schedule_text n c.args.steps.now)) c.in_ok-names.ensures.names c.write_steps-text.ensures in
    IfOk-weaker c.write_steps-text.result (λ text. text ≡ schedule_text (names_of s) c.args.steps.now) (λ text. All (IsStep s) c.args.steps.now → schedule_of s text ≡ Ok c.args.steps.now)
    (λ bytes is all. ap (λ (b : List ℕ). schedule_of s b) is ∙ schedule_back s c.args.steps.now c.in_ok-names.ensures.known all) text

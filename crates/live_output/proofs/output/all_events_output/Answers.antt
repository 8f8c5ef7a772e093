use Rattle.std.proofs.Common.{◌≡◌, subst}
use Rattle.std.specs.Prelude.{IfOk}
use Rattle.std.specs.Arc.{arc_value}
use Rattle.script_text.specs.Script.{Script}
use Rattle.live_output.specs.Lists.{views_of}
use Rattle.live_output.specs.LiveRuns.{live_text}
use Rattle.live_output.specs.Schedules.{scheduled}
use Rattle.live_output.proofs.Outputs.{of_all_if, of_books_if}
use Rattle.live_output.proofs.output.all_events_output.Goals as goal

pub returns-clause-of_all : goal.returns-clause-of_all
returns-clause-of_all g c =
    of_all_if (arc_value c.args.scenario.now) (views_of c.args.logs.now) c.in_ok-steps.steps c.output_of.result c.in_ok-steps.ensures.all
    (subst (λ (k : Script). IfOk c.output_of.result (λ output. output ≡ live_text k (scheduled k.setup c.in_ok-steps.steps))) c.deref.ensures c.output_of.ensures.text)

pub returns-clause-of_logs : goal.returns-clause-of_logs
returns-clause-of_logs g c = λ own.
    of_books_if (arc_value c.args.scenario.now) (views_of c.args.logs.now) c.in_ok-steps.steps c.output_of.result (c.in_ok-steps.ensures.own own)
    (subst (λ (k : Script). IfOk c.output_of.result (λ output. output ≡ live_text k (scheduled k.setup c.in_ok-steps.steps))) c.deref.ensures c.output_of.ensures.text)

use Rattle.std.proofs.Common.{sym, ◌∙◌}
use Rattle.geo_live.proofs.LiveAnswers.{run_answered}
use Rattle.geo_live.proofs.answering.answer_to.Goals as goal

pub returns-in-None : goal.returns-in-None
returns-in-None g c =
    run_answered c.args.input.now c.in-Ok.scenario c.answer_to_scenario.result c.requires.short c.in-Ok.ensures.ok (sym c.first_event.ensures ∙ c.in-None.is)
    c.answer_to_scenario.ensures.status c.answer_to_scenario.ensures.tells

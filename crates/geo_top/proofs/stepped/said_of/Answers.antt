use Rattle.std.proofs.Common.{sym, ◌∙◌}
use Rattle.geo_top.proofs.SaidSteps.{rises_none, rises_some, said_many, said_none, said_some}
use Rattle.geo_top.proofs.stepped.said_of.Goals as goal

pub returns-in-Some-clause-said : goal.returns-in-Some-clause-said
returns-in-Some-clause-said c =
    said_some c.args.text.now c.args.scenario.now c.in-Some.first c.behind.result c.requires (sym c.first_event.ensures ∙ c.in-Some.is) c.behind.ensures

pub returns-in-Some-clause-many : goal.returns-in-Some-clause-many
returns-in-Some-clause-many c =
    said_many c.args.text.now c.args.scenario.now c.behind.result c.requires
    (said_some c.args.text.now c.args.scenario.now c.in-Some.first c.behind.result c.requires (sym c.first_event.ensures ∙ c.in-Some.is) c.behind.ensures)

pub returns-in-Some-clause-rises : goal.returns-in-Some-clause-rises
returns-in-Some-clause-rises c = rises_some c.args.text.now c.in-Some.first c.behind.result c.behind.ensures

pub returns-in-None-clause-said : goal.returns-in-None-clause-said
returns-in-None-clause-said c =
    said_none c.args.text.now c.args.scenario.now c.behind-in-None.result (sym c.first_event.ensures ∙ c.in-None.is) c.behind-in-None.ensures

pub returns-in-None-clause-many : goal.returns-in-None-clause-many
returns-in-None-clause-many c =
    said_many c.args.text.now c.args.scenario.now c.behind-in-None.result c.requires
    (said_none c.args.text.now c.args.scenario.now c.behind-in-None.result (sym c.first_event.ensures ∙ c.in-None.is) c.behind-in-None.ensures)

pub returns-in-None-clause-rises : goal.returns-in-None-clause-rises
returns-in-None-clause-rises c = rises_none c.behind-in-None.result c.behind-in-None.ensures

use Rattle.std.proofs.Common.{sym, ◌∙◌}
use Rattle.world.proofs.Finishing.{none_left, none_low, none_past, none_sent}
use Rattle.world.proofs.world.World.send_at.Goals as goal

pub returns-then-sends_nothing-clause-sent : goal.returns-then-sends_nothing-clause-sent
returns-then-sends_nothing-clause-sent c =
    none_sent c.args.from c.args.stamp c.args.self.now c.args.plan.now.sent c.one_more.result (sym c.sends_nothing.ensures ∙ c.if-sends_nothing.true)

pub returns-then-sends_nothing-clause-rest : goal.returns-then-sends_nothing-clause-rest
returns-then-sends_nothing-clause-rest c = none_left c.args.plan.now c.one_more.result (sym c.sends_nothing.ensures ∙ c.if-sends_nothing.true)

pub returns-then-sends_nothing-clause-within : goal.returns-then-sends_nothing-clause-within
returns-then-sends_nothing-clause-within c =
    none_low c.args.self.now c.args.plan.now.sent c.one_more.result (sym c.sends_nothing.ensures ∙ c.if-sends_nothing.true) c.one_more.ensures.within

pub returns-then-sends_nothing-clause-large : goal.returns-then-sends_nothing-clause-large
returns-then-sends_nothing-clause-large c =
    none_past c.args.self.now c.args.plan.now.sent c.one_more.result (sym c.sends_nothing.ensures ∙ c.if-sends_nothing.true) c.one_more.ensures.large

use Rattle.std.proofs.Common.{◌∙◌}
use Rattle.broker.specs.Events.{plan_at_node}
use Rattle.broker.proofs.Acts.{act_done}
use Rattle.broker.proofs.broker.Broker.act_by.Goals as goal

pub returns-clause-done : goal.returns-clause-done
returns-clause-done c v stands =
    act_done c.args.self.now c.prepare.new.self c.commit.new.self (plan_at_node c.args.self.now c.args.event.now v) c.prepare.new.plan c.take_sent.new.self c.is_idle-idle.result c.into_vec-sent.result.items
    (c.in_ok-prepare.ensures.prepared v stands) c.prepare.ensures.broker c.prepare.ensures.node.site c.take_sent.ensures.rest c.commit.ensures.broker c.is_idle-idle.ensures
    (c.into_vec-sent.ensures.items ∙ c.take_sent.ensures.sent)

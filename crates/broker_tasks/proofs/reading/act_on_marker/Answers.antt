use Rattle.std.proofs.Common.{◌∙◌}
use Rattle.broker_tasks.proofs.Entries.{ready_from}
use Rattle.broker_tasks.proofs.reading.act_on_marker.Goals as goal

pub returns-in-Ready-clause-prepared : goal.returns-in-Ready-clause-prepared
returns-in-Ready-clause-prepared c =
    let now = c.reserve_entries.new.self in
    ready_from c.args.state.now.site now.site c.args.state.now.broker now.broker now.room c.args.at.remote c.args.at.index c.in_ok-look.field-0 c.look.new.plan
    (c.in_ok-reserve_entries.ensures.site ∙ c.in_ok-reserve_replicators.ensures.site) (c.in_ok-reserve_entries.ensures.broker ∙ c.in_ok-reserve_replicators.ensures.broker) c.in-Ready.is c.in_ok-look.ensures

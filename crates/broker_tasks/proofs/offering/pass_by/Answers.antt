use Rattle.std.proofs.lemmas.Result.{on_ok_weaker}
use Rattle.geo_base.specs.Offering.{skips_marker}
use Rattle.dispatcher.specs.declared.offering.Choice.TheVariants as does
use Rattle.dispatcher.specs.Events.{plan_of_choice}
use Rattle.broker_subs.specs.Table.{sub_at}
use Rattle.broker_plans.specs.Prepared.{IsPrepared}
use Rattle.broker_tasks.proofs.Offers.{caught_from}
use Rattle.broker_tasks.proofs.offering.pass_by.Goals as goal

pub returns-clause-prepared : goal.returns-clause-prepared
returns-clause-prepared c =
    let h = c.args.state.now.site in
    let b = c.args.state.now.broker in
    let k = c.args.sub_index in
    let i = c.args.index in
    let o = c.in_ok-snapshot.snapshot in
    let p = c.catch_up.new.plan in
    on_ok_weaker {P = IsPrepared h b (skips_marker h b (sub_at b.subs k) i o) p} {Q = IsPrepared h b (plan_of_choice h b (sub_at b.subs k) (does.Skip i)) p} c.catch_up.result
    (caught_from h b k i c.entry_at.result.now o p c.entry_at.ensures c.in_ok-snapshot.ensures.snapshot) c.catch_up.ensures.prepared

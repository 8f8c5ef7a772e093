use Rattle.std.proofs.lemmas.Result.{on_ok_weaker}
use Rattle.dispatcher.specs.declared.offering.Choice.TheVariants as does
use Rattle.dispatcher.specs.Events.{plan_of_choice}
use Rattle.broker_subs.specs.Table.{sub_at}
use Rattle.broker_plans.specs.Prepared.{IsPrepared}
use Rattle.broker_tasks.specs.Offering.{gives}
use Rattle.broker_tasks.proofs.Offers.{given_from, stored_from}
use Rattle.broker_tasks.proofs.offering.give_message.Goals as goal

pub give_entry-requires-clause-storable : goal.give_entry-requires-clause-storable
give_entry-requires-clause-storable c =
    let now = c.reserve_sub.new.self in
    stored_from c.args.state.now.site now.site c.args.state.now.broker now.broker c.args.giving.index c.entry_at.result.now c.in_ok-reserve_sub.ensures.site c.in_ok-reserve_sub.ensures.broker c.requires.can.kept c.entry_at.ensures

pub returns-clause-prepared : goal.returns-clause-prepared
returns-clause-prepared c =
    let h = c.args.state.now.site in
    let b = c.args.state.now.broker in
    let now = c.reserve_sub.new.self in
    let k = c.args.giving.sub_index in
    let i = c.args.giving.index in
    let at = c.args.giving.to in
    let e = c.entry_at.result.now in
    let p = c.give_entry.new.plan in
    on_ok_weaker {P = IsPrepared now.site now.broker (gives now.site now.broker (sub_at now.broker.subs k) i at e) p} {Q = IsPrepared h b (plan_of_choice h b (sub_at b.subs k) (does.Give i at)) p} c.give_entry.result
    (given_from h now.site b now.broker k i at e p c.in_ok-reserve_sub.ensures.site c.in_ok-reserve_sub.ensures.broker c.entry_at.ensures) c.give_entry.ensures.prepared

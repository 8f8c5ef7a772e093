use Rattle.geo_base.specs.Offering.{offer}
use Rattle.dispatcher.specs.declared.offering.Choice.TheVariants as does
use Rattle.dispatcher.proofs.Events.{idle_without}
use Rattle.broker_subs.specs.Table.{sub_at}
use Rattle.broker_tasks.proofs.Offers.{chosen_prepared, nothing_chosen}
use Rattle.broker_tasks.proofs.Shapes.{idle_as, idle_room}
use Rattle.broker_tasks.proofs.offering.prepare_offer.Goals as goal

pub returns-in_default-clause-prepared : goal.returns-in_default-clause-prepared
returns-in_default-clause-prepared c =
    let h = c.args.state.now.site in
    let b = c.args.state.now.broker in
    let n = c.args.name.now in
    idle_as h b (offer h b n) c.args.plan.now (idle_without h b n c.in_default.ensures) c.requires.empty

pub returns-in_default-clause-room : goal.returns-in_default-clause-room
returns-in_default-clause-room c = idle_room c.args.state.now.room c.args.plan.now c.requires.empty

pub returns-in-Idle-clause-prepared : goal.returns-in-Idle-clause-prepared
returns-in-Idle-clause-prepared c =
    let h = c.args.state.now.site in
    let b = c.args.state.now.broker in
    let n = c.args.name.now in
    idle_as h b (offer h b n) c.args.plan.now
    (nothing_chosen h b n (sub_at b.subs c.in-Some.sub_index) c.choice.result c.in-Some.ensures.1 c.choice.ensures.choice c.in-Idle.is) c.requires.empty

pub returns-in-Idle-clause-room : goal.returns-in-Idle-clause-room
returns-in-Idle-clause-room c = idle_room c.args.state.now.room c.args.plan.now c.requires.empty

pub returns-in-Skip-clause-prepared : goal.returns-in-Skip-clause-prepared
returns-in-Skip-clause-prepared c =
    let h = c.args.state.now.site in
    let b = c.args.state.now.broker in
    chosen_prepared h b c.args.name.now (sub_at b.subs c.in-Some.sub_index) c.choice.result (does.Skip c.in-Skip.index) c.pass_by.new.plan c.pass_by.result
    c.in-Some.ensures.1 c.choice.ensures.choice c.in-Skip.is c.pass_by.ensures.prepared

pub returns-in-Give-clause-prepared : goal.returns-in-Give-clause-prepared
returns-in-Give-clause-prepared c =
    let h = c.args.state.now.site in
    let b = c.args.state.now.broker in
    chosen_prepared h b c.args.name.now (sub_at b.subs c.in-Some.sub_index) c.choice.result (does.Give c.in-Give.index c.in-Give.to) c.give_message.new.plan c.give_message.result
    c.in-Some.ensures.1 c.choice.ensures.choice c.in-Give.is c.give_message.ensures.prepared

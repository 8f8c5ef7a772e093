use Rattle.std.proofs.Common.{◌∙◌, length}
use Rattle.std.specs.Prelude.{not}
use Rattle.broker_plans.proofs.Places.{many}
use Rattle.broker_packets.proofs.Joins.{create_is, create_room, creates, new_of}
use Rattle.broker_packets.proofs.subscribing.prepare_create.Goals as goal

pub returns-clause-prepared : goal.returns-clause-prepared
returns-clause-prepared c =
    let b = c.args.state.now.broker in
    let a = c.args.asked.now in
    let s = c.in_ok-sub.sub in
    let new = new_of a.sub c.in_ok-name.name a.kind a.replicated s c.in_ok-name.ensures c.in_ok-sub.ensures.sub in
    let count = c.len.ensures ∙ many c.subs.result.now.subs b.subs c.subs.ensures.subs in
    let is = create_is (length b.subs) c.len.result c.args.client a.id (not a.earliest) s c.attach.result c.begin.new.self c.write.new.self c.change.new.self count c.begin.ensures c.in_ok-write.ensures.ok c.attach.ensures c.in_ok-change.ensures.ok in
    creates c.args.state.now.site b c.args.client a.id a.sub a.kind a.replicated (not a.earliest) s c.change.new.self c.requires.missing new is

pub returns-clause-room : goal.returns-clause-room
returns-clause-room c =
    let b = c.args.state.now.broker in
    let a = c.args.asked.now in
    let s = c.in_ok-sub.sub in
    let count = c.len.ensures ∙ many c.subs.result.now.subs b.subs c.subs.ensures.subs in
    let is = create_is (length b.subs) c.len.result c.args.client a.id (not a.earliest) s c.attach.result c.begin.new.self c.write.new.self c.change.new.self count c.begin.ensures c.in_ok-write.ensures.ok c.attach.ensures c.in_ok-change.ensures.ok in
    create_room c.args.state.now.room (length b.subs) c.args.client a.id (not a.earliest) s c.change.new.self c.requires.places c.in_ok-sub.ensures.room c.in_ok-sub.ensures.acks is

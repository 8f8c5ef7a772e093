use Rattle.std.proofs.Common.{◌∙◌, ap}
use Rattle.geo_base.specs.Subscription.{Subscription}
use Rattle.broker_subs.specs.Table.{sub_at}
use Rattle.broker_packets.specs.Subscribing.{altered}
use Rattle.broker_packets.proofs.Joins.{join_is, join_room, joined}
use Rattle.broker_packets.proofs.subscribing.prepare_join.Goals as goal

pub returns-clause-prepared : goal.returns-clause-prepared
returns-clause-prepared c =
    let b = c.args.state.now.broker in
    let a = c.args.asked.now in
    let k = c.args.sub_index in
    let same = c.alter_write-altered.ensures ∙ ap (λ (s : Subscription). altered s a.kind a.replicated) c.sub_at.ensures.sub in
    let is = join_is k c.args.client a.id c.alter_write-altered.result (altered (sub_at b.subs k) a.kind a.replicated) c.attach.result c.prepare_alter.new.plan c.change.new.self same c.in_ok-prepare_alter.ensures c.attach.ensures c.in_ok-change.ensures.ok in
    joined c.args.state.now.site b k c.args.client a.id a.kind a.replicated c.change.new.self c.requires.sub_index c.requires.free is

pub returns-clause-room : goal.returns-clause-room
returns-clause-room c =
    let b = c.args.state.now.broker in
    let a = c.args.asked.now in
    let k = c.args.sub_index in
    let same = c.alter_write-altered.ensures ∙ ap (λ (s : Subscription). altered s a.kind a.replicated) c.sub_at.ensures.sub in
    let is = join_is k c.args.client a.id c.alter_write-altered.result (altered (sub_at b.subs k) a.kind a.replicated) c.attach.result c.prepare_alter.new.plan c.change.new.self same c.in_ok-prepare_alter.ensures c.attach.ensures c.in_ok-change.ensures.ok in
    join_room c.args.state.now.room k c.args.client a.id (sub_at b.subs k) a.kind a.replicated c.change.new.self c.requires.given is

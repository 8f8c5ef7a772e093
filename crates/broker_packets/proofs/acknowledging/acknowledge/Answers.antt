use Rattle.std.proofs.Common.{◌∙◌, List, sym, ap, subst}
use Rattle.std.specs.Prelude.{IfSome, Option}
use Rattle.geo_base.specs.declared.snapshot.CachedSnapshot.{CachedSnapshot}
use Rattle.geo_base.specs.Subscription.{Subscription}
use Rattle.broker_subs.specs.Table.{sub_at}
use Rattle.broker_state.specs.declared.write.StateWrite.{StateWrite}
use Rattle.broker_plans.specs.Updates.{IsAppend, update_after}
use Rattle.broker_plans.proofs.Updates.{update_appends}
use Rattle.broker_packets.proofs.Acks.{ack_is, ack_room, acked, after_is}
use Rattle.broker_packets.proofs.acknowledging.acknowledge.Goals as goal

pub begin_write-requires-clause-update : goal.begin_write-requires-clause-update
begin_write-requires-clause-update c =
    subst (λ (o : Option StateWrite). IfSome o IsAppend) (sym c.in_ok-update.ensures) (update_appends c.args.state.now.site c.args.state.now.broker c.args.sub_index c.args.write _)

pub returns-clause-room : goal.returns-clause-room
returns-clause-room c =
    let k = c.args.sub_index in
    let w = c.args.write in
    ack_room _ k w c.in_ok-update.update c.change.new.self c.in_ok-begin_write.ensures.writes
    (ack_is k w c.in_ok-update.update c.begin_write.new.plan c.change.new.self c.in_ok-begin_write.ensures.prepared c.in_ok-change.ensures.ok)

pub returns-clause-kept : goal.returns-clause-kept
returns-clause-kept c = c.begin_write.ensures.kept

pub returns-clause-prepared : goal.returns-clause-prepared
returns-clause-prepared c =
    let h = c.args.state.now.site in
    let b = c.args.state.now.broker in
    let k = c.args.sub_index in
    let w = c.args.write in
    let is = ack_is k w c.in_ok-update.update c.begin_write.new.plan c.change.new.self c.in_ok-begin_write.ensures.prepared c.in_ok-change.ensures.ok in
    let cache = c.cache.ensures ∙ ap (λ (s : Subscription). s.cache) c.sub_at.ensures.sub in
    let told = c.in_ok-update.ensures ∙ ap (λ (cs : List CachedSnapshot). update_after h b k w cs) cache in
    acked h b k w c.change.new.self c.site-site.ensures.known c.requires.can.kept c.requires.sub_index c.sub_at.ensures.name c.requires.fits
    (after_is k w c.in_ok-update.update (update_after h b k w (sub_at b.subs k).cache) c.change.new.self told is)

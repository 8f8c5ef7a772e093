use Rattle.std.proofs.Common.{◌≡◌, ◌∙◌, ◌+◌, List, [], ◌∷◌, ℕ, arith, refl, sym, ap, subst}
use Rattle.std.specs.Prelude.{Option, IfSome}
use Rattle.std.proofs.lemmas.Result.{on_ok_weaker}
use Rattle.cursor_acks.specs.Acks.{AckSet}
use Rattle.geo_base.specs.declared.change.Change.TheVariants as change
use Rattle.geo_base.specs.declared.snapshot.CachedSnapshot.{CachedSnapshot}
use Rattle.geo_base.specs.declared.write.Write.TheVariants as write
use Rattle.geo_base.specs.Storing.{cursor_write}
use Rattle.geo_base.specs.Subscription.{Subscription}
use Rattle.geo_base.specs.Updating.{handled, updated_indexes}
use Rattle.broker_subs.specs.Table.{sub_at}
use Rattle.broker_subs.specs.declared.writing.SubWrite.{SubWrite}
use Rattle.broker_state.specs.Room.{HasRoom}
use Rattle.broker_state.specs.declared.write.StateWrite.{StateWrite}
use Rattle.broker_plans.specs.Prepared.{IsPrepared}
use Rattle.broker_plans.specs.Updates.{IsAppend, update_after}
use Rattle.broker_plans.proofs.Updates.{update_appends}
use Rattle.broker_tasks.specs.Reading.{handled_view}
use Rattle.broker_tasks.specs.Updating.{update_acks}
use Rattle.broker_tasks.proofs.Acknowledged.{acknowledges, acknowledges_is, acknowledges_room}
use Rattle.broker_tasks.proofs.updating.acknowledge_at.Goals as goal

pub returns-clause-prepared : goal.returns-clause-prepared
returns-clause-prepared c =
    let h = c.args.state.now.site in
    let b = c.args.state.now.broker in
    let k = c.args.sub_index in
    let y = c.args.at.remote in
    let i = c.args.at.index in
    let j = c.args.to in
    let s = sub_at b.subs k in
    let w = update_acks b.entries s.cursor y j in
    let made = c.update_acks-write.result in
    let cursor = ap (λ (r : AckSet). r.indexes) c.cursor.ensures ∙ ap (λ (t : Subscription). t.cursor) c.sub_at.ensures.sub in
    let same : made ≡ w = c.update_acks-write.ensures ∙ ap (λ (is : List ℕ). update_acks b.entries is y j) cursor in
    let cache = c.cache.ensures ∙ ap (λ (t : Subscription). t.cache) c.sub_at-2.ensures.sub in
    let update = c.in_ok-update.ensures ∙ ap (λ (cs : List CachedSnapshot). update_after h b k made cs) cache ∙ ap (λ (v : SubWrite). update_after h b k v s.cache) same in
    let begun = c.begin_write.new.plan in
    let p = c.acknowledge_read.new.plan in
    on_ok_weaker {P = p ≡ handled_view y i c.change.new.self} {Q = IsPrepared h b (handled y i (cursor_write h b s (write.Acks s.name (updated_indexes y 0 (j + 1) b.entries))) (change.Acked s.name ∷ [])) p} c.acknowledge_read.result
    (λ read.
    acknowledges h b k y i j p c.site-site.ensures.known c.requires.can.kept c.requires.reading c.requires.sub_index c.sub_at.ensures.name c.requires.to
    (acknowledges_is k y i made w c.in_ok-update.update (update_after h b k w s.cache) begun c.change.new.self p c.in_ok-begin_write.ensures.prepared c.in_ok-change.ensures.ok read same update))
    c.acknowledge_read.ensures

pub returns-clause-room : goal.returns-clause-room
returns-clause-room c =
    let h = c.args.state.now.site in
    let b = c.args.state.now.broker in
    let k = c.args.sub_index in
    let y = c.args.at.remote in
    let i = c.args.at.index in
    let made = c.update_acks-write.result in
    let update = c.in_ok-update.update in
    let appends = subst (λ (o : Option StateWrite). IfSome o IsAppend) (sym c.in_ok-update.ensures) (update_appends h b k made c.cache.result.now) in
    let begun = c.begin_write.new.plan in
    let room = c.begin_write.new.state.room in
    let p = c.acknowledge_read.new.plan in
    on_ok_weaker {P = p ≡ handled_view y i c.change.new.self} {Q = HasRoom room p} c.acknowledge_read.result
    (λ read.
    acknowledges_room room k y i made update p c.in_ok-begin_write.ensures.writes (omega (arith, c.requires.replicators, c.in_ok-begin_write.ensures.replicators)) appends
    (acknowledges_is k y i made made update update begun c.change.new.self p c.in_ok-begin_write.ensures.prepared c.in_ok-change.ensures.ok read refl refl))
    c.acknowledge_read.ensures

pub begin_write-requires-clause-update : goal.begin_write-requires-clause-update
begin_write-requires-clause-update c =
    subst (λ (o : Option StateWrite). IfSome o IsAppend) (sym c.in_ok-update.ensures)
    (update_appends c.args.state.now.site c.args.state.now.broker c.args.sub_index c.update_acks-write.result c.cache.result.now)

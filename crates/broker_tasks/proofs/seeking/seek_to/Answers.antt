use Rattle.std.proofs.Common.{◌≡◌, ◌∙◌, List, [], ◌∷◌, ◌++◌, refl, sym, ap, subst}
use Rattle.std.specs.Prelude.{Option, IfSome}
use Rattle.std.proofs.lemmas.Result.{on_ok_weaker}
use Rattle.geo_base.specs.declared.change.Change.TheVariants as change
use Rattle.geo_base.specs.declared.snapshot.CachedSnapshot.{CachedSnapshot}
use Rattle.geo_base.specs.declared.write.Write.TheVariants as write
use Rattle.geo_base.specs.Plan.{plan_of}
use Rattle.geo_base.specs.Storing.{cursor_write}
use Rattle.geo_base.specs.Subscription.{Subscription}
use Rattle.broker_subs.specs.Table.{sub_at}
use Rattle.broker_subs.specs.declared.changing.SubChange.TheVariants as sub_change
use Rattle.broker_subs.specs.declared.writing.SubWrite.TheVariants as sub_write
use Rattle.broker_state.specs.Room.{HasRoom}
use Rattle.broker_state.specs.declared.change.StateChange.TheVariants as state_change
use Rattle.broker_state.specs.declared.write.StateWrite.{StateWrite}
use Rattle.broker_plans.specs.Prepared.{IsPrepared}
use Rattle.broker_plans.specs.Updates.{IsAppend, update_after}
use Rattle.broker_plans.proofs.Updates.{update_appends}
use Rattle.broker_tasks.proofs.Seeks.{seeks}
use Rattle.broker_tasks.proofs.Shapes.{writing_is, writing_room}
use Rattle.broker_tasks.proofs.seeking.seek_to.Goals as goal

pub begin_write-requires-clause-update : goal.begin_write-requires-clause-update
begin_write-requires-clause-update c =
    subst (λ (o : Option StateWrite). IfSome o IsAppend) (sym c.in_ok-update.ensures) (update_appends c.args.state.now.site c.args.state.now.broker c.args.sub_index (sub_write.Seek c.args.index) c.cache.result.now)

pub returns-clause-prepared : goal.returns-clause-prepared
returns-clause-prepared c =
    let h = c.args.state.now.site in
    let b = c.args.state.now.broker in
    let k = c.args.sub_index in
    let i = c.args.index in
    let s = sub_at b.subs k in
    let w = sub_write.Seek i in
    let cs = state_change.Sub sub_change.Cleared ∷ [] in
    let cache = c.cache.ensures ∙ ap (λ (t : Subscription). t.cache) c.sub_at.ensures.sub in
    let told = c.in_ok-update.ensures ∙ ap (λ (xs : List CachedSnapshot). update_after h b k w xs) cache in
    let begun = c.begin_write.new.plan in
    let p = c.change.new.self in
    on_ok_weaker {P = p ≡ record begun { changes = begun.changes ++ cs }} {Q = IsPrepared h b (plan_of (cursor_write h b s (write.Seek s.name i)) (change.Cleared s.name ∷ []) []) p} c.change.result
    (λ changed.
    seeks h b k i p c.site-site.ensures.known c.requires.can.kept c.requires.sub_index c.sub_at.ensures.name c.requires.within c.requires.counted
    (writing_is k w w c.in_ok-update.update (update_after h b k w s.cache) cs begun p c.in_ok-begin_write.ensures.prepared changed refl told))
    c.change.ensures.ok

pub returns-clause-room : goal.returns-clause-room
returns-clause-room c =
    let k = c.args.sub_index in
    let w = sub_write.Seek c.args.index in
    let o = c.in_ok-update.update in
    let cs = state_change.Sub sub_change.Cleared ∷ [] in
    let begun = c.begin_write.new.plan in
    let room = c.begin_write.new.state.room in
    let p = c.change.new.self in
    on_ok_weaker {P = p ≡ record begun { changes = begun.changes ++ cs }} {Q = HasRoom room p} c.change.result
    (λ changed. writing_room room k w o cs p c.in_ok-begin_write.ensures.writes refl refl (writing_is k w w o o cs begun p c.in_ok-begin_write.ensures.prepared changed refl refl)) c.change.ensures.ok

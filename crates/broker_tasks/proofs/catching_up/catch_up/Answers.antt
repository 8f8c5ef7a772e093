use Rattle.std.proofs.Common.{◌≡◌, ◌∙◌, ℕ, List, [], ◌∷◌, ◌++◌, refl, sym, ap, subst}
use Rattle.std.specs.Prelude.{Option, IfSome}
use Rattle.std.proofs.lemmas.Result.{on_ok_weaker}
use Rattle.geo_base.specs.Offering.{skips_marker}
use Rattle.broker_subs.specs.Table.{sub_at}
use Rattle.broker_subs.specs.declared.writing.SubWrite.TheVariants as sub_write
use Rattle.broker_state.specs.Room.{HasRoom}
use Rattle.broker_state.specs.declared.write.StateWrite.{StateWrite}
use Rattle.broker_plans.specs.Prepared.{IsPrepared}
use Rattle.broker_plans.specs.Updates.{IsAppend, update_after}
use Rattle.broker_plans.proofs.Updates.{update_appends}
use Rattle.broker_tasks.specs.Offering.{cached_with, catch_up_changes}
use Rattle.broker_tasks.proofs.Offers.{catches_up, catch_up_room, catch_up_still}
use Rattle.broker_tasks.proofs.Shapes.{writing_is, writing_room}
use Rattle.broker_tasks.proofs.catching_up.catch_up.Goals as goal

pub begin_write-requires-clause-update : goal.begin_write-requires-clause-update
begin_write-requires-clause-update c =
    let b = c.args.state.now.broker in
    let k = c.args.sub_index in
    subst (λ (o : Option StateWrite). IfSome o IsAppend) (sym c.in_ok-update.ensures)
    (update_appends c.args.state.now.site b k (sub_write.Acks c.in_ok-indexes.indexes) (cached_with (sub_at b.subs k).cache c.args.snapshot))

pub returns-clause-prepared : goal.returns-clause-prepared
returns-clause-prepared c =
    let h = c.args.state.now.site in
    let b = c.args.state.now.broker in
    let k = c.args.sub_index in
    let i = c.args.index in
    let o = c.args.snapshot in
    let w = sub_write.Acks (i ∷ []) in
    let cache = cached_with (sub_at b.subs k).cache o in
    let same = ap (λ (is : List ℕ). sub_write.Acks is) c.in_ok-indexes.ensures in
    let told = c.in_ok-update.ensures ∙ ap (λ v. update_after h b k v cache) same in
    let begun = c.begin_write.new.plan in
    let all = c.add_changes.new.plan in
    on_ok_weaker {P = all ≡ record begun { changes = begun.changes ++ catch_up_changes o i }} {Q = IsPrepared h b (skips_marker h b (sub_at b.subs k) i o) all} c.add_changes.result
    (λ changed.
    catches_up h b k i o all c.site-site.ensures.known c.requires.can.kept c.requires.sub_index c.sub_at-named.ensures.name c.requires.index c.requires.next c.requires.small
    (writing_is k (sub_write.Acks c.in_ok-indexes.indexes) w c.in_ok-update.update (update_after h b k w cache) (catch_up_changes o i) begun all c.in_ok-begin_write.ensures.prepared changed same told))
    c.add_changes.ensures

pub returns-clause-room : goal.returns-clause-room
returns-clause-room c =
    let k = c.args.sub_index in
    let w = sub_write.Acks c.in_ok-indexes.indexes in
    let o = c.in_ok-update.update in
    let cs = catch_up_changes c.args.snapshot c.args.index in
    let room = c.begin_write.new.state.room in
    let begun = c.begin_write.new.plan in
    let all = c.add_changes.new.plan in
    on_ok_weaker {P = all ≡ record begun { changes = begun.changes ++ cs }} {Q = HasRoom room all} c.add_changes.result
    (λ changed.
    writing_room room k w o cs all c.in_ok-begin_write.ensures.writes (catch_up_room c.args.snapshot c.args.index) (catch_up_still c.args.snapshot c.args.index)
    (writing_is k w w o o cs begun all c.in_ok-begin_write.ensures.prepared changed refl refl))
    c.add_changes.ensures

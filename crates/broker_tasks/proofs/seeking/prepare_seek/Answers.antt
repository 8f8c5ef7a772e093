use Rattle.std.proofs.Common.{◌∙◌, sym}
use Rattle.geo_base.specs.declared.change.Change.TheVariants as change
use Rattle.std.specs.Prelude.{[], ◌∷◌}
use Rattle.geo_base.specs.declared.write.Write.TheVariants as write
use Rattle.geo_base.specs.Plan.{plan_of}
use Rattle.geo_base.specs.Seeking.{seek}
use Rattle.geo_base.specs.Storing.{cursor_write}
use Rattle.broker_subs.specs.Table.{sub_at}
use Rattle.broker_tasks.proofs.Seeks.{counted, no_place, no_sub, some_place}
use Rattle.broker_tasks.proofs.Shapes.{idle_as, idle_room, plan_as}
use Rattle.broker_tasks.proofs.seeking.prepare_seek.Goals as goal

pub seek_to-requires-clause-counted : goal.seek_to-requires-clause-counted
seek_to-requires-clause-counted c =
    let b = c.args.state.now.broker in
    let found = c.in-Some.ensures in
    counted b c.args.name.now (sub_at b.subs c.in-Some.sub_index) c.requires.counted found.1

pub returns-in_default-clause-prepared : goal.returns-in_default-clause-prepared
returns-in_default-clause-prepared c =
    let h = c.args.state.now.site in
    let b = c.args.state.now.broker in
    let n = c.args.name.now in
    idle_as h b (seek h b n c.args.to) c.args.plan.now (no_sub h b n c.args.to c.in_default.ensures) c.requires.empty

pub returns-in_default-clause-room : goal.returns-in_default-clause-room
returns-in_default-clause-room c = idle_room c.args.state.now.room c.args.plan.now c.requires.empty

pub returns-in_default-seek_index-clause-prepared : goal.returns-in_default-seek_index-clause-prepared
returns-in_default-seek_index-clause-prepared c =
    let h = c.args.state.now.site in
    let b = c.args.state.now.broker in
    let n = c.args.name.now in
    let found = c.in-Some.ensures in
    idle_as h b (seek h b n c.args.to) c.args.plan.now (no_place h b n c.args.to (sub_at b.subs c.in-Some.sub_index) found.1 (sym c.seek_index.ensures.index ∙ c.in_default-seek_index.is)) c.requires.empty

pub returns-in_default-seek_index-clause-room : goal.returns-in_default-seek_index-clause-room
returns-in_default-seek_index-clause-room c = idle_room c.args.state.now.room c.args.plan.now c.requires.empty

pub returns-clause-prepared : goal.returns-clause-prepared
returns-clause-prepared c =
    let h = c.args.state.now.site in
    let b = c.args.state.now.broker in
    let n = c.args.name.now in
    let s = sub_at b.subs c.in-Some.sub_index in
    let i = c.in-Some-seek_index.index in
    let found = c.in-Some.ensures in
    plan_as h b (seek h b n c.args.to) (plan_of (cursor_write h b s (write.Seek s.name i)) (change.Cleared s.name ∷ []) []) c.seek_to.new.plan c.seek_to.result
    (some_place h b n c.args.to s i found.1 (sym c.seek_index.ensures.index ∙ c.in-Some-seek_index.is)) c.seek_to.ensures.prepared

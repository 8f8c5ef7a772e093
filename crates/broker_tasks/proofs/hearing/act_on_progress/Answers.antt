use Rattle.std.proofs.Common.{◌≡◌, ◌∙◌, List, [], ◌∷◌, ℕ, refl, ap}
use Rattle.std.specs.Prelude.{Some}
use Rattle.geo_base.specs.declared.change.Change.TheVariants as change
use Rattle.geo_base.specs.declared.entry.Entry.{Entry}
use Rattle.geo_base.specs.declared.snapshot.Progress.TheVariants as progress
use Rattle.geo_base.specs.declared.write.Write.TheVariants as write
use Rattle.geo_base.specs.SnapshotBuilder.{current_id}
use Rattle.geo_base.specs.Markers.{request_marker}
use Rattle.geo_base.specs.Updating.{handled}
use Rattle.broker_tasks.proofs.Plans.{progressed}
use Rattle.broker_tasks.proofs.hearing.act_on_progress.Goals as goal

pub returns-in-Ignored-clause-prepared : goal.returns-in-Ignored-clause-prepared
returns-in-Ignored-clause-prepared c =
    progressed c.args.state.now.site c.args.state.now.broker c.args.at.remote c.args.at.index c.args.progress progress.Ignored c.args.builder (handled c.args.at.remote c.args.at.index [] []) c.skip.new.plan c.skip.result c.in-Ignored.is refl c.skip.ensures.prepared

pub returns-in-Kept-clause-prepared : goal.returns-in-Kept-clause-prepared
returns-in-Kept-clause-prepared c =
    progressed c.args.state.now.site c.args.state.now.broker c.args.at.remote c.args.at.index c.args.progress progress.Kept c.args.builder (handled c.args.at.remote c.args.at.index [] (change.Building (Some c.args.builder) ∷ [])) c.keep_builder.new.plan c.keep_builder.result c.in-Kept.is refl c.keep_builder.ensures.prepared

pub returns-in-Ok-clause-prepared : goal.returns-in-Ok-clause-prepared
returns-in-Ok-clause-prepared c =
    let h = c.args.state.now.site in
    let b = c.args.state.now.broker in
    let y = c.args.at.remote in
    let i = c.args.at.index in
    let u = c.args.builder in
    let e = c.in-Ok.again in
    let made : e ≡ request_marker h b (current_id u) = c.in-Ok.ensures.marker ∙ ap (λ (id : List ℕ). request_marker h b id) c.current_id.ensures in
    progressed h b y i c.args.progress progress.SecondRound u (handled y i (write.Append e ∷ []) (change.Building (Some u) ∷ [])) c.store_with_builder.new.plan c.store_with_builder.result c.in-SecondRound.is
    (ap (λ (x : Entry). handled y i (write.Append x ∷ []) (change.Building (Some u) ∷ [])) made) c.store_with_builder.ensures.prepared

pub returns-in-Ignored-clause-room : goal.returns-in-Ignored-clause-room
returns-in-Ignored-clause-room c = c.skip.ensures.room

pub returns-in-Kept-clause-room : goal.returns-in-Kept-clause-room
returns-in-Kept-clause-room c = c.keep_builder.ensures.room

pub returns-in-Ok-clause-room : goal.returns-in-Ok-clause-room
returns-in-Ok-clause-room c = c.store_with_builder.ensures.room

pub returns-in_ok-made-in-Done-clause-room : goal.returns-in_ok-made-in-Done-clause-room
returns-in_ok-made-in-Done-clause-room c = c.store_with_builder-in-Done.ensures.room

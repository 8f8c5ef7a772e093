use Rattle.std.proofs.Common.{◌∙◌, ap}
use Rattle.geo_base.specs.Broker.{Site}
use Rattle.geo_base.specs.Markers.{snapshot_marker}
use Rattle.broker_tasks.proofs.Sizes.{made_ready, snapshot_is, snapshot_ready}
use Rattle.broker_tasks.proofs.markers.snapshot.Goals as goal

pub returns-clause-marker : goal.returns-clause-marker
returns-clause-marker c =
    let mine = c.own-own.ensures.own ∙ ap (λ (g : Site). g.own) c.site.ensures.value in
    snapshot_is c.args.state.now.site c.args.state.now.broker c.args.builder.now c.own-own.result c.in_ok-text.text c.in-Some.cut.now c.in_ok-remote.remote c.marker_for.result (c.in_ok-text.ensures ∙ c.id.ensures) c.requires.made
    c.in-Some.ensures c.in_ok-remote.ensures mine c.marker_for.ensures

pub returns-clause-ready : goal.returns-clause-ready
returns-clause-ready c =
    let h = c.args.state.now.site in
    let b = c.args.state.now.broker in
    let u = c.args.builder.now in
    let mine = c.own-own.ensures.own ∙ ap (λ (g : Site). g.own) c.site.ensures.value in
    made_ready h b (snapshot_marker h b u) c.marker_for.result (λ e is. snapshot_ready h b u e c.site.ensures.known c.requires.builder is)
    (snapshot_is h b u c.own-own.result c.in_ok-text.text c.in-Some.cut.now c.in_ok-remote.remote c.marker_for.result (c.in_ok-text.ensures ∙ c.id.ensures) c.requires.made c.in-Some.ensures c.in_ok-remote.ensures mine c.marker_for.ensures)

use Rattle.std.proofs.Common.{◌∙◌, ap}
use Rattle.geo_base.specs.Broker.{Site}
use Rattle.geo_base.specs.Markers.{response_marker}
use Rattle.broker_tasks.proofs.Sizes.{made_ready, response_is, response_ready}
use Rattle.broker_tasks.proofs.markers.response.Goals as goal

pub returns-clause-marker : goal.returns-clause-marker
returns-clause-marker c =
    let store = c.store.result.now in
    let mine = c.own-own.ensures.own ∙ ap (λ (g : Site). g.own) c.site.ensures.value in
    response_is c.args.state.now.site c.args.state.now.broker c.args.remote c.own-own.result c.args.id.now c.in_ok-text.text store.ledgers store.entries c.last.result c.or_first-position.result c.marker_for.result c.in_ok-text.ensures mine
    c.or_first-position.ensures c.last.ensures c.store.ensures.ledgers c.store.ensures.entries c.marker_for.ensures

pub returns-clause-ready : goal.returns-clause-ready
returns-clause-ready c =
    let h = c.args.state.now.site in
    let b = c.args.state.now.broker in
    let y = c.args.remote in
    let id = c.args.id.now in
    let store = c.store.result.now in
    let mine = c.own-own.ensures.own ∙ ap (λ (g : Site). g.own) c.site.ensures.value in
    made_ready h b (response_marker h b y id) c.marker_for.result (λ e is. response_ready h b y id e c.site.ensures.known c.requires.short is)
    (response_is h b y c.own-own.result id c.in_ok-text.text store.ledgers store.entries c.last.result c.or_first-position.result c.marker_for.result c.in_ok-text.ensures mine c.or_first-position.ensures c.last.ensures
    c.store.ensures.ledgers c.store.ensures.entries c.marker_for.ensures)

use Rattle.std.proofs.Common.{◌∙◌, ap}
use Rattle.geo_base.specs.Broker.{Site}
use Rattle.geo_base.specs.Markers.{request_marker}
use Rattle.broker_tasks.proofs.Sizes.{made_ready, request_is, request_ready}
use Rattle.broker_tasks.proofs.markers.request.Goals as goal

pub returns-clause-marker : goal.returns-clause-marker
returns-clause-marker c =
    let mine = c.own-own.ensures.own ∙ ap (λ (g : Site). g.own) c.site.ensures.value in
    request_is c.args.state.now.site c.args.state.now.broker c.args.id.now c.in_ok-text.text c.own-own.result c.new-names.result c.own_marker.result c.in_ok-text.ensures mine c.new-names.ensures c.own_marker.ensures

pub returns-clause-ready : goal.returns-clause-ready
returns-clause-ready c =
    let h = c.args.state.now.site in
    let b = c.args.state.now.broker in
    let id = c.args.id.now in
    let mine = c.own-own.ensures.own ∙ ap (λ (g : Site). g.own) c.site.ensures.value in
    made_ready h b (request_marker h b id) c.own_marker.result (λ e is. request_ready h b id e c.site.ensures.known c.requires.short is)
    (request_is h b id c.in_ok-text.text c.own-own.result c.new-names.result c.own_marker.result c.in_ok-text.ensures mine c.new-names.ensures c.own_marker.ensures)

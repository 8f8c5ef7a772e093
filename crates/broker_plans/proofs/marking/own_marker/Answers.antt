use Rattle.std.proofs.Common.{◌≡◌, ◌∙◌, refl, ap, arith}
use Rattle.geo_base.specs.Broker.{Site}
use Rattle.geo_base.specs.Topic.{next_marker}
use Rattle.broker_plans.proofs.marking.own_marker.Goals as goal

pub returns : goal.returns
returns c =
    let origin = c.own-origin.ensures.own ∙ ap (λ (g : Site). g.own) c.site.ensures.value in
    let seq : c.next_marker-seq.result ≡ next_marker c.args.state.now.site.own c.args.state.now.broker.entries = omega (arith, c.next_marker-seq.ensures, c.requires.number) in
    rw (origin, seq, c.in_ok-producer.ensures, c.in_ok-marker.ensures, c.in_ok-meta.ensures, c.new-rest.ensures, c.new-payload.ensures) refl

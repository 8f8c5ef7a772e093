use Rattle.std.proofs.Common.{ℕ, List, ◌∙◌, ap}
use Rattle.std.specs.Prelude.{Option}
use Rattle.geo_base.specs.declared.session.AttachedProducer.{AttachedProducer}
use Rattle.geo_base.specs.Producing.{name_with}
use Rattle.broker_packets.specs.Producing.{published}
use Rattle.broker_packets.proofs.publishing.may_publish.Goals as goal

pub returns : goal.returns
returns c =
    let m = c.args.publish.now in
    let name = c.name_with-name.ensures ∙ ap (λ (xs : List AttachedProducer). name_with m.id xs) c.open_producers.ensures in
    c.is_published.ensures ∙ ap (λ (o : Option (List ℕ)). published c.args.state.now.site o m.seq m.source m.entry) name

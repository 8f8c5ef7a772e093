use Rattle.std.proofs.Common.{◌≡◌, ◌∙◌, ap}
use Rattle.broker.specs.Node.{BrokerView}
use Rattle.broker.proofs.Inputs.{prepared_here}
use Rattle.broker.proofs.Prepares.{in_range}
use Rattle.broker.proofs.broker.Broker.prepare.Goals as goal

pub prepare_or_empty-requires-clause-range : goal.prepare_or_empty-requires-clause-range
prepare_or_empty-requires-clause-range c =
    let site : c.self.inside.state.site ≡ c.args.self.now.site = ap (λ (v : BrokerView). v.site) c.self.view_is in
    let broker : c.self.inside.state.broker ≡ c.args.self.now.broker = ap (λ (v : BrokerView). v.broker) c.self.view_is in
    rw (site, broker) (in_range c.args.self.now c.args.event.now c.requires.node)

pub returns-clause-prepared : goal.returns-clause-prepared
returns-clause-prepared c v stands =
    let shown = c.args.self.now in let own = c.self.inside in
    prepared_here shown.site own.state.site shown.names c.as_slice-names.result.now shown.broker own.state.broker c.args.event.now _ v c.prepare_or_empty.new.plan c.prepare_or_empty.result
    (ap (λ (w : BrokerView). w.site) c.self.view_is) (c.as_slice-names.ensures.value ∙ ap (λ (w : BrokerView). w.names) c.self.view_is) (ap (λ (w : BrokerView). w.broker) c.self.view_is)
    c.prepare_or_empty.ensures.prepared stands

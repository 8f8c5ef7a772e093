use Rattle.std.proofs.Common.{List, ◌∙◌, ap, map}
use Rattle.geo_base.specs.Client.{Client, unconnected}
use Rattle.broker.specs.Node.{BrokerView}
use Rattle.world.specs.Saving.{behind_stop}
use Rattle.world.specs.World.{WorldView, brokers_of}
use Rattle.world.proofs.world.World.parts_behind_stop.Goals as goal

pub returns-clause-brokers : goal.returns-clause-brokers
returns-clause-brokers c =
    c.in_ok-brokers.ensures.brokers ∙ ap (λ (vs : List BrokerView). map behind_stop (brokers_of vs)) (c.as_slice.ensures.value ∙ ap (λ (b : WorldView). b.brokers) c.self.view_is)

pub returns-clause-clients : goal.returns-clause-clients
returns-clause-clients c =
    c.in_ok-clients.ensures ∙ ap (λ (ks : List Client). map unconnected ks) (c.as_slice-2.ensures.value ∙ ap (λ (b : WorldView). b.clients) c.self.view_is)

use Rattle.std.proofs.Common.{◌≡◌, ap}
use Rattle.geo_base.specs.Broker.{Site}
use Rattle.broker.specs.Node.{BrokerView}
use Rattle.broker.proofs.Ready.{committed, committed_holds}
use Rattle.broker.proofs.broker.Broker.commit.Goals as goal

pub invariant_of-self : goal.invariant_of-self
invariant_of-self c =
    let site : c.self.inside.state.site ≡ c.args.self.now.site = ap (λ (v : BrokerView). v.site) c.self.view_is in
    let broker : c.self.inside.state.broker ≡ c.args.self.now.broker = ap (λ (v : BrokerView). v.broker) c.self.view_is in
    committed_holds c.self.inside.state c.commit.new.self c.args.plan.now c.self.invariant (rw (site, broker) c.requires.stored) c.commit.ensures.broker c.commit.ensures.site

pub returns-clause-broker : goal.returns-clause-broker
returns-clause-broker c =
    let site : c.self.inside.state.site ≡ c.args.self.now.site = ap (λ (v : BrokerView). v.site) c.self.view_is in
    let broker : c.self.inside.state.broker ≡ c.args.self.now.broker = ap (λ (v : BrokerView). v.broker) c.self.view_is in
    committed c.self.inside.state.site.per_ledger c.args.self.now.site.per_ledger c.self.inside.state.broker c.args.self.now.broker c.commit.new.self.broker c.args.plan.now
    c.commit.ensures.broker (ap (λ (h : Site). h.per_ledger) site) broker

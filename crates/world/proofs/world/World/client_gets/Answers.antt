use Rattle.std.proofs.Common.{arith, ◌≡◌, ℕ, ◌<◌, List, length, ap, ◌∙◌, subst, sym, refl}
use Rattle.std.proofs.lemmas.List.{get_or_default}
use Rattle.std.proofs.lemmas.Result.{err_from_is_err_and}
use Rattle.geo_base.specs.Client.{Client}
use Rattle.std.specs.Prelude.{Option, Some}
use Rattle.links.specs.declared.name.LinkName.TheVariants as name
use Rattle.links.specs.declared.name.LinkName.{LinkName}
use Rattle.links.specs.declared.port.Port.{Port}
use Rattle.links.specs.Queues.{IsFound, WireLinks, port_at}
use Rattle.world.specs.ClientSteps.{client_in, no_client}
use Rattle.world.specs.World.{AreNodes, WorldView}
use Rattle.world.proofs.ClientEvents.{can_count, client_below}
use Rattle.world.proofs.Getting.{got_clock, got_events, got_idle, got_stamp, leads_get, leads_large, nodes_got, nodes_still}
use Rattle.world.proofs.Leading.{wants}
use Rattle.world.proofs.Places.{at_within}
use Rattle.world.proofs.world.World.client_gets.Goals as goal

-- the link is found where the links are
found : (links ls : WireLinks) (takes : Option LinkName) (port : Port) (number : ℕ) → links ≡ ls → port.link ≡ takes → port.number ≡ number → number ≡ port_at links takes → IsFound ls port
found links ls takes port number same link at is = at ∙ is ∙ ap (λ (o : Option LinkName). port_at links o) (sym link) ∙ ap (λ (l : WireLinks). port_at l port.link) same

there : (old : WorldView) (links : WireLinks) (takes : Option LinkName) (port : Port) → links ≡ old.links → port ≡ record { link = takes; number = port_at links takes } → IsFound old.links port
there old links takes port same is = found links old.links takes port (port_at links takes) same (ap (λ (p : Port). p.link) is) (ap (λ (p : Port). p.number) is) refl

pub returns-in_err-one_more-clause-leads : goal.returns-in_err-one_more-clause-leads
returns-in_err-one_more-clause-leads c w reached stands =
    let p = err_from_is_err_and c.from_residual.result c.from_residual.ensures.1 in
    rw (p.1, p.2) (leads_large c.args.scenario.now.setup c.args.self.now c.args.self.now w c.args.client c.in_err-one_more.field-0.0 c.requires.client stands c.in_err-one_more.ensures.large)

pub counts_get-requires-clause-clock : goal.counts_get-requires-clause-clock
counts_get-requires-clause-clock c =
    got_clock c.args.scenario.now.setup c.args.self.now _ _ _ c.args.client _ _ c.requires.at c.requires.client c.in_ok-took.ensures.ok

pub counts_get-requires-clause-stamp : goal.counts_get-requires-clause-stamp
counts_get-requires-clause-stamp c = got_stamp c.args.scenario.now.setup c.args.self.now _ _ _ c.args.client _ c.port-takes.result _ c.requires.at
    (there c.args.self.now c.self.inside.links _ c.port-takes.result (ap (λ (b : WorldView). b.links) c.self.view_is) c.port-takes.ensures) c.in_ok-took.ensures.ok

pub returns-clause-leads : goal.returns-clause-leads
returns-clause-leads c w reached stands =
    let s = c.args.scenario.now.setup in let old = c.args.self.now in let n : ℕ = c.args.client in
    let lt : n < length old.clients = client_below s old n c.requires.at c.requires.client in
    let clients : c.self.inside.clients.items ≡ old.clients = ap (λ (b : WorldView). b.clients) c.self.view_is in
    let within : n < length c.self.inside.clients.items = subst (λ (ms : List Client). n < length ms) (sym clients) lt in
    let here : c.index.result.now ≡ client_in old.clients n =
    c.index.ensures ∙ get_or_default c.self.inside.clients.items n _ no_client within ∙ ap (λ (ms : List Client). client_in ms n) clients in
    let seen : c.view-cluster.result.cluster ≡ c.index.result.now.cluster = ap (λ (k : Client). k.cluster) c.view-cluster.ensures in
    leads_get s old c.get_at.new.self c.counts_get.new.self w n c.site_of-site.result c.port-takes.result c.in_ok-took.took tt c.requires.at c.requires.client
    reached stands c.site_of-site.ensures.setup c.site_of-site.ensures.declared
    (there old c.self.inside.links _ c.port-takes.result (ap (λ (b : WorldView). b.links) c.self.view_is) c.port-takes.ensures)
    (ap (λ (p : Port). p.link) c.port-takes.ensures ∙ ap (λ (x : ℕ). Some (name.ToClient n x)) (seen ∙ ap (λ (k : Client). k.cluster) here)) c.in_ok-took.ensures.ok c.counts_get.ensures c.in_ok-one_more.ensures.within

pub one_more-requires : goal.one_more-requires
one_more-requires c = at_within c.args.scenario.now.setup c.args.self.now c.requires.at

pub index-requires : goal.index-requires
index-requires c =
    let old = c.args.self.now in let n : ℕ = c.args.client in
    let lt : n < length old.clients = client_below c.args.scenario.now.setup old n c.requires.at c.requires.client in
    let clients : c.self.inside.clients.items ≡ old.clients = ap (λ (b : WorldView). b.clients) c.self.view_is in
    let within : n < length c.self.inside.clients.items = subst (λ (ms : List Client). n < length ms) (sym clients) lt in
    omega (arith, within, c.self.inside.clients.ok.0)

pub get_at-requires-clause-client : goal.get_at-requires-clause-client
get_at-requires-clause-client c = client_below c.args.scenario.now.setup c.args.self.now c.args.client c.requires.at c.requires.client

pub get_at-requires-clause-counts : goal.get_at-requires-clause-counts
get_at-requires-clause-counts c = can_count c.args.scenario.now.setup c.args.self.now c.args.client c.requires.at c.requires.client

pub counts_get-requires-clause-events : goal.counts_get-requires-clause-events
counts_get-requires-clause-events c = got_events c.args.scenario.now.setup c.args.self.now _ _ _ c.args.client _ _ c.requires.at c.in_ok-took.ensures.ok

pub counts_get-requires-clause-idle : goal.counts_get-requires-clause-idle
counts_get-requires-clause-idle c = got_idle c.args.scenario.now.setup c.args.self.now _ _ _ c.args.client _ _ c.requires.at c.in_ok-took.ensures.ok

pub returns-in_err-one_more-clause-brokers : goal.returns-in_err-one_more-clause-brokers
returns-in_err-one_more-clause-brokers c = nodes_still c.args.scenario.now.setup c.args.self.now c.requires.at

pub returns-in_err-took-clause-leads : goal.returns-in_err-took-clause-leads
returns-in_err-took-clause-leads c w reached stands =
    let p = err_from_is_err_and c.from_residual-in_err-took.result c.from_residual-in_err-took.ensures.1 in
    rw (p.1, p.2) (wants c.args.scenario.now.setup c.args.self.now c.get_at.new.self _)

pub returns-in_err-took-clause-brokers : goal.returns-in_err-took-clause-brokers
returns-in_err-took-clause-brokers c =
    subst (λ (b : WorldView). AreNodes c.args.scenario.now.setup b.brokers) (sym c.in_err-took.ensures.err) (nodes_still c.args.scenario.now.setup c.args.self.now c.requires.at)

pub returns-clause-brokers : goal.returns-clause-brokers
returns-clause-brokers c = nodes_got c.args.scenario.now.setup c.args.self.now c.get_at.new.self c.counts_get.new.self _ _ c.args.client _ c.port-takes.result _ c.requires.at c.in_ok-took.ensures.ok c.counts_get.ensures

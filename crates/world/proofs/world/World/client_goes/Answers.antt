use Rattle.std.proofs.Common.{arith, ◌≡◌, ℕ, ◌<◌, List, length, refl, ap, ◌∙◌, subst, sym}
use Rattle.std.proofs.lemmas.List.{get_or_default}
use Rattle.std.proofs.lemmas.Result.{err_from_is_err_and}
use Rattle.client.specs.Changing.{ClientFits}
use Rattle.client.specs.Counted.{CanConnect}
use Rattle.client.specs.Prepared.{IsPrepared}
use Rattle.client.specs.Site.{known_setup}
use Rattle.geo_base.specs.Client.{Client}
use Rattle.geo_base.specs.Going.{go}
use Rattle.geo_base.specs.Setup.{Declared, Setup, declared_at}
use Rattle.world.specs.ClientSteps.{client_in, no_client}
use Rattle.world.specs.World.{WorldView}
use Rattle.world.proofs.ClientEvents.{can_connect, client_below, clock_below, leads_go, nodes_done, stamp_fits}
use Rattle.world.proofs.Leading.{wants}
use Rattle.world.proofs.Places.{at_within}
use Rattle.world.proofs.world.World.client_goes.Goals as goal

pub index-requires : goal.index-requires
index-requires c =
    let old = c.args.self.now in let n : ℕ = c.args.client in
    let lt : n < length old.clients = client_below c.args.scenario.now.setup old n c.requires.at c.requires.client in
    let clients : c.self.inside.clients.items ≡ old.clients = ap (λ (b : WorldView). b.clients) c.self.view_is in
    let within : n < length c.self.inside.clients.items = subst (λ (ms : List Client). n < length ms) (sym clients) lt in
    omega (arith, within, c.self.inside.clients.ok.0)

pub prepare_go-requires : goal.prepare_go-requires
prepare_go-requires c =
    let old = c.args.self.now in let n : ℕ = c.args.client in
    let lt : n < length old.clients = client_below c.args.scenario.now.setup old n c.requires.at c.requires.client in
    let clients : c.self.inside.clients.items ≡ old.clients = ap (λ (b : WorldView). b.clients) c.self.view_is in
    let within : n < length c.self.inside.clients.items = subst (λ (ms : List Client). n < length ms) (sym clients) lt in
    let here : c.index.result.now ≡ client_in old.clients n =
    c.index.ensures ∙ get_or_default c.self.inside.clients.items n _ no_client within ∙ ap (λ (ms : List Client). client_in ms n) clients in
    subst CanConnect (sym here) (can_connect c.args.scenario.now.setup old n c.requires.at c.requires.client)

pub returns-in_err-prepared : goal.returns-in_err-prepared
returns-in_err-prepared c =
    let old = c.args.self.now in
    let p = err_from_is_err_and c.from_residual.result c.from_residual.ensures.1 in
    record {
      leads = λ w reached stands. rw (p.1, p.2) (wants c.args.scenario.now.setup old old _);
      brokers = c.requires.at.brokers;
      err = rw p.1 refl;
    }

pub client_does-requires : goal.client_does-requires
client_does-requires c =
    let old = c.args.self.now in let n : ℕ = c.args.client in let s = c.args.scenario.now.setup in
    let lt : n < length old.clients = client_below s old n c.requires.at c.requires.client in
    let clients : c.self.inside.clients.items ≡ old.clients = ap (λ (b : WorldView). b.clients) c.self.view_is in
    let within : n < length c.self.inside.clients.items = subst (λ (ms : List Client). n < length ms) (sym clients) lt in
    let here : c.index.result.now ≡ client_in old.clients n =
    c.index.ensures ∙ get_or_default c.self.inside.clients.items n _ no_client within ∙ ap (λ (ms : List Client). client_in ms n) clients in
    record {
      client = lt;
      clock = clock_below s old n c.requires.at c.requires.client;
      fits = subst (λ (k : Client). ClientFits c.in_ok-prepared.prepared.change k) here c.in_ok-prepared.ensures.fits;
      within = at_within s old c.requires.at;
      stamp = stamp_fits s old n c.requires.at;
    }

pub returns : goal.returns
returns c =
    let old = c.args.self.now in let n : ℕ = c.args.client in let s = c.args.scenario.now.setup in let p = c.in_ok-prepared.prepared in
    let lt : n < length old.clients = client_below s old n c.requires.at c.requires.client in
    let clients : c.self.inside.clients.items ≡ old.clients = ap (λ (b : WorldView). b.clients) c.self.view_is in
    let within : n < length c.self.inside.clients.items = subst (λ (ms : List Client). n < length ms) (sym clients) lt in
    let here : c.index.result.now ≡ client_in old.clients n =
    c.index.ensures ∙ get_or_default c.self.inside.clients.items n _ no_client within ∙ ap (λ (ms : List Client). client_in ms n) clients in
    let site = c.site_of-site.result in
    let prepared : IsPrepared s.clusters (client_in old.clients n) p (go (known_setup s.clusters s.topics) (declared_at s n) (client_in old.clients n)) =
    subst (λ (k : Client). IsPrepared s.clusters k p (go (known_setup s.clusters s.topics) (declared_at s n) k)) here
    (subst (λ (d : Declared). IsPrepared s.clusters c.index.result.now p (go (known_setup s.clusters s.topics) d c.index.result.now)) c.site_of-site.ensures.declared
    (subst (λ (u : Setup). IsPrepared u.clusters c.index.result.now p (go u site.declared c.index.result.now)) c.site_of-site.ensures.setup c.in_ok-prepared.ensures.prepared)) in
    record {
      leads = λ w reached stands.
          leads_go s old c.client_does.new.self w n p c.client_does.result c.requires.at c.requires.client reached stands prepared c.client_does.ensures.done;
      brokers = nodes_done s old c.client_does.new.self n p c.client_does.result c.requires.at c.client_does.ensures.done c.client_does.ensures.err;
      err = c.client_does.ensures.err;
    }

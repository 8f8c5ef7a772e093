use Rattle.std.proofs.Common.{◌≡◌, ◌+◌, ◌++◌, List, ◌∙◌, ap, drop, length, map, subst, take, arith}
use Rattle.std.proofs.lemmas.List.{length-map}
use Rattle.std.proofs.lemmas.Result.{err_from_is_err_and}
use Rattle.geo_base.specs.Client.{Client, unconnected}
use Rattle.geo_base.specs.Happening.{stops}
use Rattle.broker.specs.Node.{BrokerView}
use Rattle.geo_base.proofs.Mapped.{left_whole}
use Rattle.links.specs.Each.{Each}
use Rattle.links.specs.Queues.{WireLinks, all_discarded}
use Rattle.world.specs.Restarts.{IsRestarted, IsSame}
use Rattle.world.specs.World.{WorldView}
use Rattle.world.proofs.Leading.{wants}
use Rattle.world.proofs.Places.{at_same}
use Rattle.world.proofs.Stopping.{at_stopped, behind, leads_past, leads_stopped, same_room}
use Rattle.world.proofs.world.World.stop.Goals as goal

pub returns-in_err-one_more-clause-leads : goal.returns-in_err-one_more-clause-leads
returns-in_err-one_more-clause-leads c = λ w reached stands.
    let p = err_from_is_err_and c.from_residual.result c.from_residual.ensures.1 in
    rw (p.1, p.2) (leads_past c.args.scenario.now.setup c.args.self.now c.args.self.now w c.in_err-one_more.field-0.0 stands c.in_err-one_more.ensures.large)

pub returns-in_err-restart_all : goal.returns-in_err-restart_all
returns-in_err-restart_all c =
    let p = err_from_is_err_and c.from_residual-in_err-restart_all.result c.from_residual-in_err-restart_all.ensures.1 in
    let old = c.args.self.now in let us = c.restart_all.new.brokers in let rest = drop (length us) c.self.inside.brokers.items in
    let brokers : c.as_mut_slice.result.now ≡ old.brokers = c.as_mut_slice.ensures.value ∙ ap (λ (b : WorldView). b.brokers) c.self.view_is in
    let all : Each IsSame old.brokers us = subst (λ (vs : List BrokerView). Each IsSame vs us) brokers c.in_err-restart_all.ensures.err in
    let size : length old.brokers ≡ c.self.inside.brokers.len = omega (arith, ap (λ (b : WorldView). length b.brokers) c.self.view_is, c.self.inside.brokers.ok.0) in
    let still =
    same_room old _ us all
    (ap (λ (b : WorldView). record b { brokers = take c.self.inside.brokers.len (us ++ rest) }) c.self.view_is
    ∙ ap (λ (vs : List BrokerView). record old { brokers = vs }) (behind old.brokers us rest c.self.inside.brokers.len size all)) in
    record {
      leads = λ w reached stands. rw (p.1, p.2) (wants c.args.scenario.now.setup old _ (stops c.args.scenario.now.setup w));
      at = at_same c.args.scenario.now.setup old _ c.requires.at still;
      err = rw p.1 still;
    }

pub returns : goal.returns
returns c =
    let old = c.args.self.now in let us = c.restart_all.new.brokers in let ms = c.disconnect_all.new.clients in
    let brokers : c.as_mut_slice.result.now ≡ old.brokers = c.as_mut_slice.ensures.value ∙ ap (λ (b : WorldView). b.brokers) c.self.view_is in
    let all : Each IsRestarted old.brokers us = subst (λ (vs : List BrokerView). Each IsRestarted vs us) brokers c.in_ok-restart_all.ensures.ok in
    let size : length old.brokers ≡ c.self.inside.brokers.len = omega (arith, ap (λ (b : WorldView). length b.brokers) c.self.view_is, c.self.inside.brokers.ok.0) in
    let new_nodes : List BrokerView = take c.self.inside.brokers.len (us ++ drop (length us) c.self.inside.brokers.items) in
    let new_clients : List Client = take c.self.inside.clients.len (ms ++ drop (length ms) c.self.inside.clients.items) in
    let gone : ms ≡ map unconnected old.clients =
    c.disconnect_all.ensures ∙ ap (λ (ks : List Client). map unconnected ks) (c.as_mut_slice-2.ensures.value ∙ ap (λ (b : WorldView). b.clients) c.self.view_is) in
    let many : length ms ≡ c.self.inside.clients.len =
    omega (arith, ap (λ (ks : List Client). length ks) gone, length-map old.clients unconnected, ap (λ (b : WorldView). length b.clients) c.self.view_is, c.self.inside.clients.ok.0) in
    let links : c.discard_all.new.self ≡ all_discarded old.links = c.discard_all.ensures ∙ ap (λ (b : WorldView). all_discarded b.links) c.self.view_is in
    let becomes =
    ap (λ (b : WorldView). record b { brokers = new_nodes; clients = new_clients; links = c.discard_all.new.self; events = b.events + 1 }) c.self.view_is
    ∙ ap (λ (vs : List BrokerView). record old { brokers = vs; clients = new_clients; links = c.discard_all.new.self; events = old.events + 1 })
    (behind old.brokers us (drop (length us) c.self.inside.brokers.items) c.self.inside.brokers.len size all)
    ∙ ap (λ (ks : List Client). record old { brokers = us; clients = ks; links = c.discard_all.new.self; events = old.events + 1 }) (left_whole c.self.inside.clients.len ms _ many ∙ gone)
    ∙ ap (λ (ls : WireLinks). record old { brokers = us; clients = map unconnected old.clients; links = ls; events = old.events + 1 }) links in
    record {
      leads = λ w reached stands. leads_stopped c.args.scenario.now.setup old _ us w tt c.requires.at stands all becomes c.in_ok-one_more.ensures.within;
      at = at_stopped c.args.scenario.now.setup old _ us c.requires.at all becomes c.in_ok-one_more.ensures.within;
      err = tt;
    }

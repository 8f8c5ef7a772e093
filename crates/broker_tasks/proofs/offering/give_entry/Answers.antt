use Rattle.std.proofs.Common.{rules, ◌≡◌, List, ap}
use Rattle.geo_base.specs.declared.consumer.Consumer.{Consumer}
use Rattle.geo_base.specs.Dispatcher.{consumer_at}
use Rattle.broker_tasks.specs.Offering.{given_view}
use Rattle.broker_tasks.proofs.Offers.{gives_from}
use Rattle.broker_tasks.proofs.offering.give_entry.Goals as goal

pub returns-clause-prepared : goal.returns-clause-prepared
returns-clause-prepared c =
    let g = c.args.giving in
    let consumer = ap (λ (ks : List Consumer). consumer_at ks g.to) c.consumers.ensures in
    let is : c.send.new.self ≡ given_view g.sub_index g.index g.to c.in_ok-packet.packet = search rules in
    gives_from c.args.state.now.site c.args.state.now.broker g.sub_index g.index g.to c.args.entry.now c.sub_at.result.now.sub (consumer_at c.consumers.result.now g.to) c.in_ok-packet.packet c.send.new.self
    c.requires.sub_index c.requires.next c.requires.to c.sub_at.ensures.sub consumer c.in_ok-packet.ensures is

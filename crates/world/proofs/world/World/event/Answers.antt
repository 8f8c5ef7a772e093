use Rattle.geo_base.specs.declared.event.Event.TheVariants as event
use Rattle.world.proofs.After.{after_event, err_same}
use Rattle.world.proofs.world.World.event.Goals as goal

pub returns-in-Go-clause-at : goal.returns-in-Go-clause-at
returns-in-Go-clause-at c =
    let old = c.args.self.now in let f = c.client_goes in
    after_event c.args.scenario.now.setup old f.new.self (event.Go c.in-Go.client) f.result c.requires.at f.ensures.leads f.ensures.brokers (err_same old f.new.self f.result f.ensures.err)

pub returns-in-Get-clause-at : goal.returns-in-Get-clause-at
returns-in-Get-clause-at c =
    let old = c.args.self.now in let f = c.client_gets in
    after_event c.args.scenario.now.setup old f.new.self (event.Get c.in-Get.client) f.result c.requires.at f.ensures.leads f.ensures.brokers (err_same old f.new.self f.result f.ensures.err)

pub returns-in-Reconnect-clause-at : goal.returns-in-Reconnect-clause-at
returns-in-Reconnect-clause-at c =
    let old = c.args.self.now in let f = c.client_reconnects in
    after_event c.args.scenario.now.setup old f.new.self (event.Reconnect c.in-Reconnect.client) f.result c.requires.at f.ensures.leads f.ensures.brokers (err_same old f.new.self f.result f.ensures.err)

pub returns-in_default-clause-at : goal.returns-in_default-clause-at
returns-in_default-clause-at c =
    let f = c.broker_event in
    after_event c.args.scenario.now.setup c.args.self.now f.new.self c.args.event.now f.result c.requires.at f.ensures.leads f.ensures.brokers f.ensures.err

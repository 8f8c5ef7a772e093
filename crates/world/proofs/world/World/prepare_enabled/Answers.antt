use Rattle.std.proofs.Common.{ap, sym, ◌∙◌}
use Rattle.world.specs.declared.broker_ref.BrokerRef.{BrokerRef}
use Rattle.world.proofs.Acting.{acts_idle, number_is, plans}
use Rattle.world.proofs.Places.{at_same, cluster_below, number_below, number_of, number_rises, topic_below}
use Rattle.world.proofs.Prepared.{half_done}
use Rattle.world.proofs.world.World.prepare_enabled.Goals as goal

pub node_number-number-requires-clause-topic : goal.node_number-number-requires-clause-topic
node_number-number-requires-clause-topic c =
    topic_below c.args.scenario.now.setup c.args.self.now c.args.event.now c.args.broker_ref.topic c.requires.at c.requires.broker c.requires.scripted (ap (λ (a : BrokerRef). a.topic) c.requires.broker_ref)

pub node_number-number-requires-clause-cluster : goal.node_number-number-requires-clause-cluster
node_number-number-requires-clause-cluster c =
    cluster_below c.args.scenario.now.setup c.args.event.now c.args.broker_ref.cluster c.requires.broker c.requires.scripted (ap (λ (a : BrokerRef). a.cluster) c.requires.broker_ref)

pub prepare_at-requires : goal.prepare_at-requires
prepare_at-requires c =
    let s = c.args.scenario.now.setup in let b = c.args.self.now in let e = c.args.event.now in let n = c.node_number-number.result in
    let is = number_is s b.links e c.args.broker_ref n c.requires.broker_ref c.node_number-number.ensures in
    record {
      node = number_below s b e n c.requires.at c.requires.broker c.requires.scripted is;
      of = number_of s b e n c.requires.at c.requires.broker c.requires.scripted is;
      numbers = number_rises s b e n c.requires.at c.requires.broker c.requires.scripted is;
      empty = c.requires.empty;
    }

pub returns-in_err-prepare_at-clause-at : goal.returns-in_err-prepare_at-clause-at
returns-in_err-prepare_at-clause-at c = at_same c.args.scenario.now.setup c.args.self.now c.prepare_at.new.self c.requires.at c.prepare_at.ensures.same

pub returns-then-is_idle-clause-at : goal.returns-then-is_idle-clause-at
returns-then-is_idle-clause-at c = at_same c.args.scenario.now.setup c.args.self.now c.prepare_at.new.self c.requires.at c.prepare_at.ensures.same

pub returns-then-is_idle-clause-idle : goal.returns-then-is_idle-clause-idle
returns-then-is_idle-clause-idle c =
    let s = c.args.scenario.now.setup in let old = c.args.self.now in let mid = c.prepare_at.new.self in let e = c.args.event.now in
    let same = c.prepare_at.ensures.same in let broker_ref = c.args.broker_ref in let n = c.node_number-number.result in let p = c.prepare_at.new.plan in
    let planned = plans s old mid e broker_ref n p c.requires.at same c.requires.broker c.requires.scripted c.requires.broker_ref c.node_number-number.ensures c.in_ok-prepare_at.ensures.prepared in
    λ w reached stands is. acts_idle s old mid w e broker_ref n p planned (sym c.is_idle.ensures ∙ c.if-is_idle.true) reached stands

pub returns-clause-ready : goal.returns-clause-ready
returns-clause-ready c =
    let s = c.args.scenario.now.setup in let old = c.args.self.now in let mid = c.prepare_at.new.self in let e = c.args.event.now in
    let same = c.prepare_at.ensures.same in let broker_ref = c.args.broker_ref in let n = c.node_number-number.result in let p = c.prepare_at.new.plan in
    let planned = plans s old mid e broker_ref n p c.requires.at same c.requires.broker c.requires.scripted c.requires.broker_ref c.node_number-number.ensures c.in_ok-prepare_at.ensures.prepared in
    λ is. half_done s old mid e broker_ref n p planned c.in_ok-prepare_at.ensures.ready (sym c.is_idle.ensures ∙ c.if-is_idle.false)

pub returns-clause-at : goal.returns-clause-at
returns-clause-at c = at_same c.args.scenario.now.setup c.args.self.now c.prepare_at.new.self c.requires.at c.prepare_at.ensures.same

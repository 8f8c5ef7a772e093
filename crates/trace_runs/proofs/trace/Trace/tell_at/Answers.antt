use Rattle.std.proofs.Common.{ℕ, ap, ◌∙◌}
use Rattle.broker.specs.Node.{BrokerView}
use Rattle.world.specs.World.{node_at}
use Rattle.world.proofs.Places.{cluster_below, topic_below}
use Rattle.kept_laws.specs.Events.{node_of}
use Rattle.trace_runs.specs.Tracing.{text_of}
use Rattle.trace_runs.proofs.Knowing.{knows_there, seen_there}
use Rattle.trace_runs.proofs.ItemsTold.{fits_there, foreseen_there, next_fits, on_ok, reads_there, there}
use Rattle.trace_runs.proofs.trace.Trace.tell_at.Goals as goal

pub topic-node-requires : goal.topic-node-requires
topic-node-requires c =
    let s = c.args.scenario.now.setup in let e = c.args.event.now in
    record {
      brokers = c.requires.at.brokers;
      topic = topic_below s c.args.world.now e c.args.broker_ref.topic c.requires.at c.requires.broker c.requires.scripted c.requires.broker_ref.topic;
      cluster = cluster_below s e c.args.broker_ref.cluster c.requires.broker c.requires.scripted c.requires.broker_ref.cluster;
    }

pub tell-requires-clause-count : goal.tell-requires-clause-count
tell-requires-clause-count c = rw c.events-events.ensures.events (next_fits c.args.world.now c.requires.at.within)

pub tell-requires-clause-read : goal.tell-requires-clause-read
tell-requires-clause-read c =
    let s = c.args.scenario.now.setup in let e = c.args.event.now in let brokers = c.args.world.now.brokers in let u = c.topic-node.result.now in
    let p = c.args.self.now.plan in let h = c.requires.at in
    let is = there s e brokers c.args.broker_ref u c.requires.broker_ref c.topic-node.ensures in
    reads_there s h.world e u p (foreseen_there s h.world e u (node_at brokers (node_of s e)) p is (c.requires.foreseen h.world h.reached h.stands)) c.requires.scripted

pub tell-requires-clause-fits : goal.tell-requires-clause-fits
tell-requires-clause-fits c =
    let s = c.args.scenario.now.setup in let e = c.args.event.now in let brokers = c.args.world.now.brokers in let u = c.topic-node.result.now in
    let p = c.args.self.now.plan in let h = c.requires.at in
    let is = there s e brokers c.args.broker_ref u c.requires.broker_ref c.topic-node.ensures in
    fits_there s h.world e u p (foreseen_there s h.world e u (node_at brokers (node_of s e)) p is (c.requires.foreseen h.world h.reached h.stands))

pub tell-requires-clause-known : goal.tell-requires-clause-known
tell-requires-clause-known c =
    let s = c.args.scenario.now.setup in let e = c.args.event.now in let brokers = c.args.world.now.brokers in let u = c.topic-node.result.now in
    let p = c.args.self.now.plan in let h = c.requires.at in
    let is = there s e brokers c.args.broker_ref u c.requires.broker_ref c.topic-node.ensures in
    let f = foreseen_there s h.world e u (node_at brokers (node_of s e)) p is (c.requires.foreseen h.world h.reached h.stands) in
    knows_there s c.args.self.now.telling.snapshots c.args.world.now h.world e u p h.stands f c.requires.tables

pub returns-clause-told : goal.returns-clause-told
returns-clause-told c = λ w reached stands.
    let s = c.args.scenario.now.setup in let e = c.args.event.now in let brokers = c.args.world.now.brokers in let u = c.topic-node.result.now in
    let p = c.args.self.now.plan in let old = c.args.self.now.telling.text in let k : ℕ = c.args.writes in
    let is = there s e brokers c.args.broker_ref u c.requires.broker_ref c.topic-node.ensures in
    on_ok _ _ c.tell.result
    (λ told. told ∙ (ap (λ (n : ℕ). text_of s old n u e p k) (c.events-events.ensures.events ∙ stands.events) ∙ ap (λ (v : BrokerView). text_of s old w.events v e p k) is))
    (c.tell.ensures.told s)

pub returns-clause-tables : goal.returns-clause-tables
returns-clause-tables c =
    let s = c.args.scenario.now.setup in let e = c.args.event.now in let brokers = c.args.world.now.brokers in let u = c.topic-node.result.now in
    let p = c.args.self.now.plan in let h = c.requires.at in
    let is = there s e brokers c.args.broker_ref u c.requires.broker_ref c.topic-node.ensures in
    let f = foreseen_there s h.world e u (node_at brokers (node_of s e)) p is (c.requires.foreseen h.world h.reached h.stands) in
    on_ok _ _ c.tell.result (seen_there s c.args.self.now.telling.snapshots c.tell.new.self.telling.snapshots c.args.world.now h.world e u p h.stands f c.requires.tables) c.tell.ensures.seen

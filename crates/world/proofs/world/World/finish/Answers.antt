use Rattle.std.proofs.Common.{◌<◌, ◌^◌, Option, ap, subst, sym}
use Rattle.links.proofs.Found.{next_found}
use Rattle.links.specs.Queues.{stamp_of}
use Rattle.wire_ends.specs.declared.packet.WirePacket.{WirePacket}
use Rattle.world.specs.Steps.{stamp_over}
use Rattle.world.specs.declared.broker_ref.BrokerRef.{BrokerRef}
use Rattle.world.proofs.Acting.{acts_done, acts_past, at_done, found_there, half_ready, halves, later_done, later_same, number_is}
use Rattle.world.proofs.Leading.{still_same}
use Rattle.world.proofs.Places.{at_same, cluster_below, mid_below, mid_clock, mid_stamp, mid_within, topic_below}
use Rattle.world.proofs.Waiting.{same_itself}
use Rattle.world.proofs.world.World.finish.Goals as goal

pub node_number-number-requires-clause-topic : goal.node_number-number-requires-clause-topic
node_number-number-requires-clause-topic c =
    topic_below c.args.scenario.now.setup c.args.self.now c.args.event.now c.args.broker_ref.topic c.requires.at c.requires.broker c.requires.scripted (ap (λ (a : BrokerRef). a.topic) c.requires.broker_ref)

pub node_number-number-requires-clause-cluster : goal.node_number-number-requires-clause-cluster
node_number-number-requires-clause-cluster c =
    cluster_below c.args.scenario.now.setup c.args.event.now c.args.broker_ref.cluster c.requires.broker c.requires.scripted (ap (λ (a : BrokerRef). a.cluster) c.requires.broker_ref)

pub finish_at-requires : goal.finish_at-requires
finish_at-requires c =
    let s = c.args.scenario.now.setup in let b = c.args.self.now in let e = c.args.event.now in let n = c.node_number-number.result in let same = same_itself b in
    let is = number_is s b.links e c.args.broker_ref n c.requires.broker_ref c.node_number-number.ensures in
    record {
      node = mid_below s b b e n c.requires.at same c.requires.broker c.requires.scripted is;
      clock = mid_clock s b b e n c.requires.at same c.requires.broker c.requires.scripted is;
      ready = half_ready s b e c.args.broker_ref n c.args.plan.now
          (halves s b e c.args.broker_ref n c.args.plan.now c.requires.at c.requires.broker c.requires.scripted c.requires.broker_ref c.node_number-number.ensures c.requires.ready);
      within = mid_within s b b c.requires.at same;
      stamp = subst (λ (o : Option WirePacket). stamp_over b.broker_clocks n (stamp_of o) < 2 ^ 64)
          (sym (next_found b.links c.args.broker_ref.takes (found_there s b.links e c.args.broker_ref c.requires.broker_ref))) (mid_stamp s b b n c.args.broker_ref.takes.link c.requires.at same);
    }

pub returns-in-Err : goal.returns-in-Err
returns-in-Err c =
    let s = c.args.scenario.now.setup in let b = c.args.self.now in let new = c.finish_at.new.self in let e = c.args.event.now in
    let broker_ref = c.args.broker_ref in let n = c.node_number-number.result in let p = c.args.plan.now in
    let half = halves s b e broker_ref n p c.requires.at c.requires.broker c.requires.scripted c.requires.broker_ref c.node_number-number.ensures c.requires.ready in
    let still = still_same b b new (same_itself b) c.in-Err.ensures.err in
    record {
      acts = λ w reached stands. acts_past s b new w e broker_ref n p c.in-Err.fault half c.in-Err.ensures.large reached stands;
      at = at_same s b new c.requires.at still;
      later = later_same b new still;
      err = still;
      empty = c.clear.ensures;
    }

pub returns-in-Ok : goal.returns-in-Ok
returns-in-Ok c =
    let s = c.args.scenario.now.setup in let b = c.args.self.now in let new = c.finish_at.new.self in let e = c.args.event.now in
    let broker_ref = c.args.broker_ref in let n = c.node_number-number.result in let p = c.args.plan.now in
    let half = halves s b e broker_ref n p c.requires.at c.requires.broker c.requires.scripted c.requires.broker_ref c.node_number-number.ensures c.requires.ready in
    let f = c.in-Ok.ensures in
    record {
      acts = λ w reached stands. acts_done s b new w e broker_ref n p half f.ok f.within reached stands;
      at = at_done s b new e broker_ref n p half f.ok f.within;
      later = later_done s b new e broker_ref n p half f.ok;
      err = tt;
      empty = f.empty;
    }

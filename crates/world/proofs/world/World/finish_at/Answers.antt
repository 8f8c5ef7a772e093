use Rattle.std.proofs.Common.{◌≡◌, ℕ, ◌+◌, ◌<◌, ◌≤◌, List, length, ap, subst, sym, arith, ◌∙◌}
use Rattle.broker.proofs.Ready.{ready_without}
use Rattle.broker.specs.Node.{BrokerView, IsReady}
use Rattle.links.specs.Queues.{WireLinks, packet_in, stamp_of}
use Rattle.world.specs.Steps.{stamp_over}
use Rattle.world.specs.World.{WorldView, node_at}
use Rattle.world.proofs.Finishing.{finished}
use Rattle.world.proofs.world.World.finish_at.Goals as goal

pub commit_at-requires : goal.commit_at-requires
commit_at-requires c =
    let old = c.args.self.now in let mid = c.send_at.new.self in let n : ℕ = c.args.number in let is = c.in_ok-send_at.ensures.sent in
    let brokers : mid.brokers ≡ old.brokers = ap (λ (b : WorldView). b.brokers) is in
    let clocks : mid.broker_clocks ≡ old.broker_clocks = ap (λ (b : WorldView). b.broker_clocks) is in
    let events : mid.events ≡ old.events = ap (λ (b : WorldView). b.events) is in
    let ready : IsReady (node_at mid.brokers n) c.args.plan.now = subst (λ (vs : List BrokerView). IsReady (node_at vs n) c.args.plan.now) (sym brokers) c.requires.ready in
    let few : old.events + old.idle ≤ 2000000 = c.requires.within.few in
    record {
      node = subst (λ (vs : List BrokerView). n < length vs) (sym brokers) c.requires.node;
      clock = subst (λ (cs : List ℕ). n < length cs) (sym clocks) c.requires.clock;
      ready = ready_without (node_at mid.brokers n) c.args.plan.now c.send_at.new.plan ready c.in_ok-send_at.ensures.rest;
      count = omega (arith, events, few);
    }

pub returns-clause-ok : goal.returns-clause-ok
returns-clause-ok c =
    let links : c.self.inside.links ≡ c.args.self.now.links = ap (λ (b : WorldView). b.links) c.self.view_is in
    let stamp : c.stamp.result ≡ stamp_of (packet_in c.args.self.now.links c.args.broker_ref.takes) = c.stamp.ensures ∙ ap (λ (l : WireLinks). stamp_of (packet_in l c.args.broker_ref.takes)) links in
    finished c.args.broker_ref c.sender.result c.args.number c.stamp_at-stamp.result c.args.plan.now c.send_at.new.plan c.args.self.now c.send_at.new.self c.commit_at.new.self
    c.sender.ensures (c.stamp_at-stamp.ensures ∙ ap (λ (m : ℕ). stamp_over c.args.self.now.broker_clocks c.args.number m) stamp) c.in_ok-send_at.ensures.sent c.in_ok-send_at.ensures.rest c.commit_at.ensures.brokers c.commit_at.ensures.rest

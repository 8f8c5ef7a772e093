use Rattle.std.proofs.Common.{◌≡◌, ℕ, ◌+◌, ◌<◌, ◌≤◌, List, length, ap, subst, sym, arith}
use Rattle.client.specs.Changing.{ClientFits}
use Rattle.client.specs.Prepared.{PreparedClient}
use Rattle.geo_base.specs.declared.packet.WireOut.{WireOut}
use Rattle.geo_base.specs.Client.{Client}
use Rattle.links.specs.declared.name.Node.TheVariants as wire_node
use Rattle.links.specs.Queues.{bytes_of, delivered}
use Rattle.world.specs.ClientSteps.{client_in}
use Rattle.world.specs.World.{WorldView}
use Rattle.world.proofs.Finishing.{client_finished}
use Rattle.world.proofs.world.World.client_sends.Goals as goal

pub client_commits-requires : goal.client_commits-requires
client_commits-requires c =
    let old = c.args.self.now in let mid = c.deliver.new.self in let n : ℕ = c.args.client in let is = c.in-Ok.ensures.sent in
    let clients : mid.clients ≡ old.clients = ap (λ (b : WorldView). b.clients) is in
    let clocks : mid.client_clocks ≡ old.client_clocks = ap (λ (b : WorldView). b.client_clocks) is in
    let events : mid.events ≡ old.events = ap (λ (b : WorldView). b.events) is in
    let fits = subst (λ (ks : List Client). ClientFits c.args.prepared.change (client_in ks n)) (sym clients) c.requires.fits in
    let few : old.events + old.idle ≤ 2000000 = c.requires.within.few in
    record {
      client = subst (λ (ks : List Client). n < length ks) (sym clients) c.requires.client;
      clock = subst (λ (cs : List ℕ). n < length cs) (sym clocks) c.requires.clock;
      fits = subst (λ (p : PreparedClient). ClientFits p.change (client_in mid.clients n)) (sym c.take_sent-sent.ensures.rest) fits;
      count = omega (arith, events, few);
    }

pub returns-in-Ok-clause-ok : goal.returns-in-Ok-clause-ok
returns-in-Ok-clause-ok c =
    let old = c.args.self.now in let mid = c.deliver.new.self in let n : ℕ = c.args.client in let stamp : ℕ = c.client_stamp-stamp.result in let p = c.args.prepared in
    let sent : mid ≡ record old { links = delivered (wire_node.Client n) stamp p.sent old.links; frame_bytes = old.frame_bytes + bytes_of p.sent } =
    subst (λ (os : List WireOut). mid ≡ record old { links = delivered (wire_node.Client n) stamp os old.links; frame_bytes = old.frame_bytes + bytes_of os })
    c.take_sent-sent.ensures.sent c.in-Ok.ensures.sent in
    client_finished n stamp p c.take_sent-sent.new.self old mid c.client_commits.new.self c.client_stamp-stamp.ensures sent c.take_sent-sent.ensures.rest c.client_commits.ensures

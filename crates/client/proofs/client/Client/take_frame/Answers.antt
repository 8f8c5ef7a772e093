use Rattle.std.proofs.Common.{sym, ◌∙◌, ap}
use Rattle.geo_base.specs.Client.{Client}
use Rattle.client.proofs.Wire.{discarded_stays, other_stays, read_acts, said_of}
use Rattle.client.proofs.client.Client.take_frame.Goals as goal

pub returns-then-packet-self-clause-client : goal.returns-then-packet-self-clause-client
returns-then-packet-self-clause-client c =
    let same = ap (λ (k : Client). k.connection) c.self.view_is in
    other_stays c.args.site.now.setup.clusters c.args.site.now.declared c.args.self.now c.args.packet.now (λ e. c.if-packet-self.true (e ∙ sym same))

pub returns-clause-client : goal.returns-clause-client
returns-clause-client c =
    let same = ap (λ (k : Client). k.connection) c.self.view_is in
    read_acts c.args.site.now.setup.clusters c.args.site.now.declared c.args.self.now c.get_frame.new.self c.args.packet.now c.args.frame.now
    (c.if-packet-self.false ∙ same) c.requires.value c.in_ok-get_frame.ensures.ok

pub returns-clause-discarded : goal.returns-clause-discarded
returns-clause-discarded c =
    let same = ap (λ (k : Client). k.connection) c.self.view_is in
    discarded_stays c.args.site.now.setup.clusters c.args.site.now.declared c.args.self.now c.get_frame.new.self c.args.packet.now c.args.frame.now
    (c.if-packet-self.false ∙ same) c.requires.value c.in_ok-get_frame.ensures.ok

pub returns-then-packet-self-clause-said : goal.returns-then-packet-self-clause-said
returns-then-packet-self-clause-said c = said_of c.args.site.now.setup.clusters c.args.packet.now c.args.frame.now c.requires.value

pub returns-clause-said : goal.returns-clause-said
returns-clause-said c = said_of c.args.site.now.setup.clusters c.args.packet.now c.args.frame.now c.requires.value

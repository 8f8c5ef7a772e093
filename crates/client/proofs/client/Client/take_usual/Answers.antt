use Rattle.std.proofs.Common.{sym, ◌∙◌, ap}
use Rattle.geo_base.specs.Client.{Client}
use Rattle.client.specs.Usual.{value_viewed}
use Rattle.client.proofs.Usual.{reads_viewed}
use Rattle.client.proofs.Wire.{discarded_stays, other_stays, read_acts, said_of}
use Rattle.client.proofs.client.Client.take_usual.Goals as goal

pub returns-then-packet-self-clause-client : goal.returns-then-packet-self-clause-client
returns-then-packet-self-clause-client c =
    let same = ap (λ (k : Client). k.connection) c.self.view_is in
    other_stays c.args.site.now.setup.clusters c.args.site.now.declared c.args.self.now c.args.packet.now (λ e. c.if-packet-self.true (e ∙ sym same))

pub returns-clause-client : goal.returns-clause-client
returns-clause-client c =
    let same = ap (λ (k : Client). k.connection) c.self.view_is in
    read_acts c.args.site.now.setup.clusters c.args.site.now.declared c.args.self.now c.get_usual.new.self c.args.packet.now (value_viewed c.args.site.now.setup.clusters c.args.view)
    (c.if-packet-self.false ∙ same) (reads_viewed c.args.site.now.setup.clusters c.args.packet.now.frame c.args.view c.requires.text) c.in_ok-get_usual.ensures.ok

pub returns-clause-discarded : goal.returns-clause-discarded
returns-clause-discarded c =
    let same = ap (λ (k : Client). k.connection) c.self.view_is in
    discarded_stays c.args.site.now.setup.clusters c.args.site.now.declared c.args.self.now c.get_usual.new.self c.args.packet.now (value_viewed c.args.site.now.setup.clusters c.args.view)
    (c.if-packet-self.false ∙ same) (reads_viewed c.args.site.now.setup.clusters c.args.packet.now.frame c.args.view c.requires.text) c.in_ok-get_usual.ensures.ok

pub returns-then-packet-self-clause-said : goal.returns-then-packet-self-clause-said
returns-then-packet-self-clause-said c = said_of c.args.site.now.setup.clusters c.args.packet.now (value_viewed c.args.site.now.setup.clusters c.args.view) (reads_viewed c.args.site.now.setup.clusters c.args.packet.now.frame c.args.view c.requires.text)

pub returns-clause-said : goal.returns-clause-said
returns-clause-said c = said_of c.args.site.now.setup.clusters c.args.packet.now (value_viewed c.args.site.now.setup.clusters c.args.view) (reads_viewed c.args.site.now.setup.clusters c.args.packet.now.frame c.args.view c.requires.text)

use Rattle.std.proofs.Common.{List, sym, subst, ◌∙◌, ap}
use Rattle.geo_base.specs.declared.position.Position.{Position}
use Rattle.geo_base.specs.Acknowledging.{cumulative_indexes}
use Rattle.geo_base.specs.Subscription.{Subscription}
use Rattle.dispatcher.specs.Acks.{ack_answer}
use Rattle.broker_subs.specs.Table.{sub_at}
use Rattle.broker_packets.specs.Acknowledging.{WritesAcks}
use Rattle.broker_packets.proofs.Acks.{allowed_writes, refused_writes}
use Rattle.broker_packets.proofs.acknowledging.acks.Goals as goal

pub returns-then-is_err : goal.returns-then-is_err
returns-then-is_err c =
    let b = c.args.state.now.broker in
    let a = c.args.acked.now in
    let told = c.on_ack.ensures ∙ ap (λ (t : Subscription). ack_answer c.args.client a.id a.kind t) c.sub_at.ensures.sub in
    refused_writes b.entries b.ledgers a.positions c.args.client a.id a.kind (sub_at b.subs c.args.sub_index) c.on_ack.result c.requires.consumed told (sym c.is_err.ensures.value ∙ c.if-is_err.true)

pub returns-in-Cumulative : goal.returns-in-Cumulative
returns-in-Cumulative c =
    let b = c.args.state.now.broker in
    let a = c.args.acked.now in
    let told = c.on_ack.ensures ∙ ap (λ (t : Subscription). ack_answer c.args.client a.id a.kind t) c.sub_at.ensures.sub in
    allowed_writes b.entries b.ledgers a.positions c.args.client a.id a.kind (sub_at b.subs c.args.sub_index) c.on_ack.result c.acks_to.result c.in-Cumulative.is c.requires.consumed told
    (sym c.is_err.ensures.value ∙ c.if-is_err.false)
    (subst (λ (ps : List Position). WritesAcks b.entries (sub_at b.subs c.args.sub_index) (cumulative_indexes b.ledgers ps) c.acks_to.result) c.as_slice-positions.ensures c.acks_to.ensures)

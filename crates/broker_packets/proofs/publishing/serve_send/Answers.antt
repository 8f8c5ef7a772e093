use Rattle.std.proofs.Common.{sym, ◌∙◌}
use Rattle.geo_base.specs.Producing.{name_with}
use Rattle.broker_packets.specs.Serving.{open_at}
use Rattle.broker_packets.proofs.Producers.{sound_sent, sound_storable, unsound_sent}
use Rattle.broker_packets.proofs.Shapes.{same_plan}
use Rattle.broker_packets.proofs.publishing.serve_send.Goals as goal

pub store-requires-clause-storable : goal.store-requires-clause-storable
store-requires-clause-storable c =
    let m = c.args.publish in
    sound_storable c.args.state.now.site m.seq m.source m.entry (name_with m.id (open_at c.args.state.now.broker c.args.client).producers) (sym c.may_publish.ensures ∙ c.if-may_publish.true) c.requires.read

pub returns-then-may_publish-clause-prepared : goal.returns-then-may_publish-clause-prepared
returns-then-may_publish-clause-prepared c =
    let h = c.args.state.now.site in
    let b = c.args.state.now.broker in
    let s = open_at b c.args.client in
    let m = c.args.publish in
    same_plan h b _ _ c.store.new.plan c.store.result (sym (sound_sent h b c.args.client s m.id m.seq m.source m.entry (name_with m.id s.producers) (sym c.may_publish.ensures ∙ c.if-may_publish.true))) c.store.ensures.prepared

pub returns-else-may_publish-clause-prepared : goal.returns-else-may_publish-clause-prepared
returns-else-may_publish-clause-prepared c =
    let h = c.args.state.now.site in
    let b = c.args.state.now.broker in
    let s = open_at b c.args.client in
    let m = c.args.publish in
    same_plan h b _ _ c.refuse_send.new.plan c.refuse_send.result (sym (unsound_sent h b c.args.client s m.id m.seq m.source m.entry (name_with m.id s.producers) (sym c.may_publish.ensures ∙ c.if-may_publish.false))) c.refuse_send.ensures.prepared

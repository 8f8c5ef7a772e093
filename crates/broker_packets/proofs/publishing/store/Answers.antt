use Rattle.std.proofs.Common.{◌∙◌, ℕ, ap, subst, sym}
use Rattle.geo_base.specs.Broker.{Broker, Site}
use Rattle.geo_base.specs.Entry.{with_origin}
use Rattle.broker_plans.specs.Storable.{IsStorable}
use Rattle.broker_plans.proofs.Keeping.{room_more}
use Rattle.broker_packets.specs.Serving.{IsOpen}
use Rattle.broker_packets.proofs.Producers.{stored_more}
use Rattle.broker_packets.proofs.publishing.store.Goals as goal

pub storing-requires-clause-storable : goal.storing-requires-clause-storable
storing-requires-clause-storable c = subst (λ (x : ℕ). IsStorable c.args.state.now.site (with_origin x c.args.publish.entry)) (sym (c.own-entry.ensures.own ∙ ap (λ (h : Site). h.own) c.site.ensures.value)) c.requires.storable

pub also_answer-requires-clause-open : goal.also_answer-requires-clause-open
also_answer-requires-clause-open c = subst (λ (x : Broker). IsOpen x c.args.client) (sym c.in_ok-position.ensures.kept.broker) c.requires.open

pub returns-clause-prepared : goal.returns-clause-prepared
returns-clause-prepared c =
    let m = c.args.publish in
    stored_more c.args.state.now.site c.storing.new.state.site c.args.state.now.broker c.storing.new.state.broker c.args.client m.id m.seq c.own-entry.result m.entry c.in_ok-position.position c.storing.new.plan c.also_answer.new.plan
    c.in_ok-position.ensures.kept.site c.in_ok-position.ensures.kept.broker (c.own-entry.ensures.own ∙ ap (λ (h : Site). h.own) c.site.ensures.value) c.in_ok-position.ensures.prepared c.in_ok-position.ensures.position c.in_ok-also_answer.ensures

pub returns-clause-room : goal.returns-clause-room
returns-clause-room c = room_more _ _ _ _ _ c.in_ok-position.ensures.room c.in_ok-also_answer.ensures

use Rattle.std.proofs.Common.{◌∙◌, ap}
use Rattle.geo_base.specs.Broker.{Site}
use Rattle.broker_plans.proofs.Keeping.{room_more}
use Rattle.broker_packets.proofs.UsualPublishes.{own_storable, published_more}
use Rattle.broker_packets.proofs.usual_publishes.prepare_publish.Goals as goal

pub storing_message-requires-clause-storable : goal.storing_message-requires-clause-storable
storing_message-requires-clause-storable c =
    own_storable c.args.state.now.site c.args.state.now.broker c.args.client c.own-own.result c.args.came (c.own-own.ensures.own ∙ ap (λ (h : Site). h.own) c.site.ensures.value) c.requires.publishes

pub returns-clause-prepared : goal.returns-clause-prepared
returns-clause-prepared c stamp =
    published_more c.args.state.now.site c.storing_message.new.state.site c.args.state.now.broker c.args.client stamp c.own-own.result c.args.came c.in_ok-position.position c.storing_message.new.plan c.also_receipt.new.plan
    c.in_ok-position.ensures.kept.site (c.own-own.ensures.own ∙ ap (λ (h : Site). h.own) c.site.ensures.value) c.requires.publishes c.in_ok-position.ensures.prepared c.in_ok-position.ensures.position c.in_ok-also_receipt.ensures.ok

pub returns-clause-room : goal.returns-clause-room
returns-clause-room c = room_more _ _ _ _ _ c.in_ok-position.ensures.room c.in_ok-also_receipt.ensures.ok

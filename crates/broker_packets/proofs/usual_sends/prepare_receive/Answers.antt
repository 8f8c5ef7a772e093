use Rattle.broker_plans.proofs.Keeping.{room_more}
use Rattle.broker_plans.proofs.UsualMessages.{message_storable}
use Rattle.broker_packets.proofs.UsualSends.{received_more}
use Rattle.broker_packets.proofs.usual_sends.prepare_receive.Goals as goal

pub storing_message-requires-clause-storable : goal.storing_message-requires-clause-storable
storing_message-requires-clause-storable c = message_storable c.args.state.now.site c.args.source c.args.came.message c.requires.receives.brings.small

pub returns-clause-prepared : goal.returns-clause-prepared
returns-clause-prepared c stamp =
    received_more c.args.state.now.site c.storing_message.new.state.site c.args.state.now.broker c.args.source stamp c.args.came c.in_ok-position.position c.storing_message.new.plan c.also_receipt.new.plan
    c.in_ok-position.ensures.kept.site c.requires.receives c.in_ok-position.ensures.prepared c.in_ok-position.ensures.position c.in_ok-also_receipt.ensures.ok

pub returns-clause-room : goal.returns-clause-room
returns-clause-room c = room_more _ _ _ _ _ c.in_ok-position.ensures.room c.in_ok-also_receipt.ensures.ok

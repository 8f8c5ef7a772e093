use Rattle.std.proofs.Common.{sym}
use Rattle.broker_packets.specs.Serving.{open_at}
use Rattle.broker_packets.proofs.Commands.{not_carried}
use Rattle.broker_packets.proofs.Shapes.{same_plan}
use Rattle.broker_packets.proofs.serving.serve_other.Goals as goal

pub returns-in_default-clause-prepared : goal.returns-in_default-clause-prepared
returns-in_default-clause-prepared c =
    let h = c.args.state.now.site in
    let b = c.args.state.now.broker in
    same_plan h b _ _ c.close_session.new.plan c.close_session.result
    (sym (not_carried h b c.args.client (open_at b c.args.client) c.args.frame c.requires.producers c.requires.consumers c.in_default.not-Flow c.in_default.not-Ack c.in_default.not-Ping c.in_default.not-Pong)) c.close_session.ensures.prepared

pub returns-in-Pong-clause-room : goal.returns-in-Pong-clause-room
returns-in-Pong-clause-room c = c.ignore.ensures.room c.args.state.now.room

use Rattle.std.proofs.Common.{sym}
use Rattle.broker_packets.proofs.Commands.{connect_served, in_session, unreadable_served}
use Rattle.broker_packets.proofs.Shapes.{same_plan}
use Rattle.broker_packets.proofs.serving.serve_packet.Goals as goal

pub returns-in-Connect-clause-prepared : goal.returns-in-Connect-clause-prepared
returns-in-Connect-clause-prepared c =
    let h = c.args.state.now.site in
    let b = c.args.state.now.broker in
    let p = c.args.packet in
    same_plan h b _ _ c.connect.new.plan c.connect.result (connect_served h b c.args.client p p.frame c.in-Connect.is) c.connect.ensures.prepared

pub returns-in-Unreadable-clause-prepared : goal.returns-in-Unreadable-clause-prepared
returns-in-Unreadable-clause-prepared c =
    let h = c.args.state.now.site in
    let b = c.args.state.now.broker in
    let p = c.args.packet in
    same_plan h b _ _ c.change_session.new.plan c.change_session.result (unreadable_served h b c.args.client p p.frame c.in-Unreadable.is) c.change_session.ensures.prepared

pub returns-in_default-clause-prepared : goal.returns-in_default-clause-prepared
returns-in_default-clause-prepared c =
    let h = c.args.state.now.site in
    let b = c.args.state.now.broker in
    let p = c.args.packet in
    same_plan h b _ _ c.serve_in.new.plan c.serve_in.result (sym (in_session h b c.args.client p p.frame c.in_default.not-Connect c.in_default.not-Unreadable)) c.serve_in.ensures.prepared

use Rattle.broker_packets.proofs.Resets.{opens_sent}
use Rattle.broker_packets.proofs.resetting.also_open.Goals as goal

pub also_send-sent-requires : goal.also_send-sent-requires
also_send-sent-requires c =
    let brief = c.in_ok-frame.ensures.brief in
    record { simple = brief.simple; readable = brief.readable; small = brief.small }

pub returns : goal.returns
returns c =
    opens_sent c.args.state.now.site c.args.remote c.args.session c.in_ok-frame.frame c.args.plan.now c.also_send-sent.new.plan c.in_ok-frame.ensures.frame c.in_ok-sent.ensures.ok

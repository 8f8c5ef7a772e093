use Rattle.geo_base.specs.declared.event.Fate.TheVariants as fate
use Rattle.geo_base.specs.Forwarding.{take_packet}
use Rattle.broker.proofs.Inputs.{send_prepared}
use Rattle.broker.proofs.taking.take_once.Goals as goal

pub returns-in-Some-clause-prepared : goal.returns-in-Some-clause-prepared
returns-in-Some-clause-prepared c =
    let h = c.args.state.now.site in let b = c.args.state.now.broker in
    send_prepared h b (take_packet h b c.args.source fate.Good) c.args.packet.now c.in-Some.came c.prepare_receive.new.plan c.prepare_receive.result c.in-Some.ensures c.prepare_receive.ensures.prepared

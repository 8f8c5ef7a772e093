use Rattle.geo_base.specs.Forwarding.{take_packet}
use Rattle.broker.proofs.Inputs.{read_prepared}
use Rattle.broker.proofs.taking.take_read.Goals as goal

pub returns-clause-prepared : goal.returns-clause-prepared
returns-clause-prepared c =
    let h = c.args.state.now.site in let b = c.args.state.now.broker in
    read_prepared h c.site.result.now b (take_packet h b c.args.source c.args.fate) c.args.packet.now c.in_ok-said.said c.prepare_take.new.plan c.prepare_take.result c.site.ensures.value c.in_ok-said.ensures.said c.prepare_take.ensures.prepared

use Rattle.geo_base.specs.Forwarding.{receipt}
use Rattle.broker.proofs.Inputs.{read_prepared}
use Rattle.broker.proofs.taking.receive_read.Goals as goal

pub returns-clause-prepared : goal.returns-clause-prepared
returns-clause-prepared c =
    let h = c.args.state.now.site in let b = c.args.state.now.broker in
    read_prepared h c.site.result.now b (receipt h b c.args.target c.args.fate) c.args.packet.now c.in_ok-said.said c.prepare_receipt-prepared.new.plan c.prepare_receipt-prepared.result c.site.ensures.value c.in_ok-said.ensures.said c.prepare_receipt-prepared.ensures.prepared

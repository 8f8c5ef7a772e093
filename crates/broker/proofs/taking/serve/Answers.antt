use Rattle.geo_base.specs.Serving.{serve}
use Rattle.broker.proofs.Inputs.{send_prepared}
use Rattle.broker.proofs.taking.serve.Goals as goal

pub returns-in-Some-clause-prepared : goal.returns-in-Some-clause-prepared
returns-in-Some-clause-prepared c =
    let h = c.args.state.now.site in let b = c.args.state.now.broker in
    send_prepared h b (serve h b c.args.client) c.args.packet.now c.in-Some.came c.prepare_publish.new.plan c.prepare_publish.result c.in-Some.ensures c.prepare_publish.ensures.prepared

use Rattle.geo_base.specs.Serving.{serve}
use Rattle.broker.proofs.Inputs.{read_prepared}
use Rattle.broker.proofs.taking.serve_read.Goals as goal

pub returns-clause-prepared : goal.returns-clause-prepared
returns-clause-prepared c =
    let h = c.args.state.now.site in let b = c.args.state.now.broker in
    read_prepared h c.site.result.now b (serve h b c.args.client) c.args.packet.now c.in_ok-said.said c.prepare_serve.new.plan c.prepare_serve.result c.site.ensures.value c.in_ok-said.ensures.said c.prepare_serve.ensures.prepared

use Rattle.broker_packets.proofs.Small.{success_brief, success_is}
use Rattle.broker_packets.proofs.answers.success.Goals as goal

pub returns-clause-frame : goal.returns-clause-frame
returns-clause-frame c = success_is c.args.state.now.site c.site-site.result.now c.args.source c.args.request c.in_ok-name.name c.site-site.ensures.value c.in_ok-name.ensures

pub returns-clause-brief : goal.returns-clause-brief
returns-clause-brief c =
    success_brief c.args.state.now.site c.args.source c.args.request _ c.site-site.ensures.known
    (success_is c.args.state.now.site c.site-site.result.now c.args.source c.args.request c.in_ok-name.name c.site-site.ensures.value c.in_ok-name.ensures)

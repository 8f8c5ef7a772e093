use Rattle.std.proofs.Common.{◌∙◌}
use Rattle.broker_packets.proofs.Small.{opening_brief, opening_is}
use Rattle.broker_packets.proofs.resetting.opening_frame.Goals as goal

pub returns-clause-frame : goal.returns-clause-frame
returns-clause-frame c =
    opening_is c.args.state.now.site c.site-site.result.now c.args.session c.own.result c.as_str.result.now c.in_ok-topic.topic c.in_ok-name.name
    c.site-site.ensures.value (c.as_str.ensures.text ∙ c.topic.ensures.topic) c.in_ok-topic.ensures c.own.ensures.own c.in_ok-name.ensures

pub returns-clause-brief : goal.returns-clause-brief
returns-clause-brief c =
    opening_brief c.args.state.now.site c.args.session _ c.site-site.ensures.known
    (opening_is c.args.state.now.site c.site-site.result.now c.args.session c.own.result c.as_str.result.now c.in_ok-topic.topic c.in_ok-name.name
    c.site-site.ensures.value (c.as_str.ensures.text ∙ c.topic.ensures.topic) c.in_ok-topic.ensures c.own.ensures.own c.in_ok-name.ensures)

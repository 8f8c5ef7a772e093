use Rattle.broker_plans.proofs.Packets.{message_writable}
use Rattle.broker_plans.proofs.packet.message_text.Goals as goal

pub write_message-requires : goal.write_message-requires
write_message-requires c =
    rw (c.clusters.ensures.clusters, c.source_of-source.ensures, c.own.ensures.own, c.site-site.ensures.value)
    (message_writable c.args.state.now.site c.args.id c.args.position c.args.entry.now c.site-site.ensures.known c.requires)

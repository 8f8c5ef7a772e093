use Rattle.broker_plans.proofs.Packets.{send_writable}
use Rattle.broker_plans.proofs.packet.send_text.Goals as goal

pub write_send-requires : goal.write_send-requires
write_send-requires c =
    rw (c.clusters.ensures.clusters, c.own.ensures.own, c.site-site.ensures.value)
    (send_writable c.args.state.now.site c.args.id c.args.seq c.args.entry.now c.site-site.ensures.known c.requires)

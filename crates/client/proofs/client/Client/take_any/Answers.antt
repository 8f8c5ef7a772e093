use Rattle.client.proofs.Wire.{reads_same}
use Rattle.client.proofs.client.Client.take_any.Goals as goal

pub take_frame-taken-requires-clause-value : goal.take_frame-taken-requires-clause-value
take_frame-taken-requires-clause-value c =
    reads_same c.args.site.now.setup.clusters c.clusters.result.now c.args.packet.now.frame c.as_slice.result.now c.in_ok-frame.frame c.clusters.ensures.value c.as_slice.ensures c.in_ok-frame.ensures.value

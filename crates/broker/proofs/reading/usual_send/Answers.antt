use Rattle.std.proofs.Common.{ℕ, List, refl, subst}
use Rattle.pulsar_frames.specs.Frames.{IsFrameText}
use Rattle.pulsar_frames.specs.Usual.{frame_viewed}
use Rattle.broker.proofs.UsualInputs.{send_of}
use Rattle.broker.proofs.reading.usual_send.Goals as goal

pub returns-in-Send : goal.returns-in-Send
returns-in-Send c =
    let v = c.in_ok-view.view in
    let text = subst (λ (bytes : List ℕ). IsFrameText bytes (frame_viewed v)) c.as_slice.ensures c.in_ok-view.ensures in
    send_of c.args.packet.now v c.in_ok-message.message c.in-Send.producer_id c.in-Send.sequence_id c.in-Send.num_messages _ text c.in_ok-message.was c.in-Send.is refl

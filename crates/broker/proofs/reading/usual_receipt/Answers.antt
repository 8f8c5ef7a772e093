use Rattle.std.proofs.Common.{ℕ, List, refl, subst}
use Rattle.pulsar_frames.specs.Frames.{IsFrameText}
use Rattle.pulsar_frames.specs.Usual.{frame_viewed}
use Rattle.broker.proofs.UsualInputs.{receipt_of}
use Rattle.broker.proofs.reading.usual_receipt.Goals as goal

pub returns-in-SendReceipt : goal.returns-in-SendReceipt
returns-in-SendReceipt c =
    let v = c.in_ok-view.view in
    let text = subst (λ (bytes : List ℕ). IsFrameText bytes (frame_viewed v)) c.as_slice.ensures c.in_ok-view.ensures in
    receipt_of c.args.packet.now v c.in-SendReceipt.producer_id c.in-SendReceipt.sequence_id c.in-SendReceipt.message_id _ text c.in-None.is c.in-SendReceipt.is refl

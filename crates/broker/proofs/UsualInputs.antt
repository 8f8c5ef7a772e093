-- Packets of the usual form say what they look like.
use Rattle.std.proofs.Common.{◌≡◌, ℕ, List, refl, sym, ap}
use Rattle.std.specs.Prelude.{Some, None}
use Rattle.geo_base.specs.declared.frame.Frame.TheVariants as frame
use Rattle.geo_base.specs.declared.position.Position.{Position}
use Rattle.pulsar_commands.specs.declared.view.CommandView.{CommandView}
use Rattle.pulsar_commands.specs.declared.view.CommandView.TheVariants as view
use Rattle.pulsar_commands.specs.Usual.{command_viewed}
use Rattle.pulsar_frames.specs.declared.view.FrameView.{FrameView}
use Rattle.pulsar_frames.specs.declared.view.MessageView.{MessageView}
use Rattle.pulsar_frames.specs.Frames.{IsFrameText}
use Rattle.pulsar_frames.specs.Usual.{frame_viewed}
use Rattle.frame_values.specs.Standing.{Reads, text as told}
use Rattle.frame_values.specs.Values.{carrying, simple_frame}
use Rattle.frame_values.proofs.UsualValues.{entry_is, viewed_carries, viewed_simple}
use Rattle.wire_ends.specs.declared.packet.WirePacket.{WirePacket}
use Rattle.broker_plans.specs.declared.usual.Came.{Came}
use Rattle.frame_values.specs.Usual.{entry_viewed, source_viewed}
use Rattle.broker.specs.declared.reading.Receipt.{Receipt}
use Rattle.broker.specs.Input.{IsReceiptOf, IsSendOf}

send_said : (names : List (List ℕ)) (bytes : List ℕ) (v : FrameView) (m : MessageView) (id seq n : ℕ) → IsFrameText bytes (frame_viewed v) → v.message ≡ Some m → v.command ≡ view.Send id seq n
    → Reads names bytes (frame.Send id seq (source_viewed names m) (entry_viewed 0 m))
send_said names bytes v m id seq n is message command =
    told (frame_viewed v) is
    (viewed_carries names v m (frame.Send id seq (source_viewed names m) (entry_viewed 0 m)) (source_viewed names m) (entry_viewed 0 m) message
    (ap (λ (c : CommandView). carrying (command_viewed c) (source_viewed names m) (entry_viewed 0 m)) (sym command))
    (entry_is names m (source_viewed names m) (entry_viewed 0 m) refl refl))

pub send_of : (w : WirePacket) (v : FrameView) (m : MessageView) (id seq n : ℕ) (c : Came) → IsFrameText w.frame (frame_viewed v) → v.message ≡ Some m → v.command ≡ view.Send id seq n
    → c ≡ record { session = w.session; id = id; seq = seq; message = m } → IsSendOf w c
send_of w v m id seq n c is message command came = rw came (record { session = refl; said = λ names. send_said names w.frame v m id seq n is message command })

pub receipt_of : (w : WirePacket) (v : FrameView) (id seq : ℕ) (p : Position) (r : Receipt) → IsFrameText w.frame (frame_viewed v) → v.message ≡ None → v.command ≡ view.SendReceipt id seq p
    → r ≡ record { id = id; seq = seq; position = p } → IsReceiptOf w r
receipt_of w v id seq p r is none command receipt =
    rw receipt (record { said = λ names. told (frame_viewed v) is (viewed_simple names v (frame.SendReceipt id seq (Some p)) none (ap (λ (c : CommandView). simple_frame (command_viewed c)) (sym command))) })

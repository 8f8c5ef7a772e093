-- Packets that the same bytes stand for differ at most in the origin of an entry, and so are alike.
use Rattle.std.proofs.Common.{◌≡◌, ℕ, List, refl, sym, ◌∙◌}
use Rattle.geo_base.specs.declared.frame.Frame.{Frame}
use Rattle.geo_base.specs.declared.frame.Frame.TheVariants as frame
use Rattle.geo_base.specs.declared.packet.Packet.{Packet}
use Rattle.geo_base.specs.Agreement.{AreHistories, IsAlike, without_origin}
use Rattle.geo_base.specs.History.{RecordedEvent}
use Rattle.geo_base.specs.Setup.{Setup}
use Rattle.frame_values.proofs.One.{value_one}
use Rattle.frame_values.specs.Standing.{bare}
use Rattle.wire_ends.specs.declared.packet.WirePacket.{WirePacket}
use Rattle.frame_laws.specs.BytePackets.{StandsForPacket}
use Rattle.world_laws.proofs.Merges.ByteHistories.{bytes_are_histories}
use Rattle.world_laws.proofs.Merges.Origins.{alike_without_origin}
use Rattle.world_laws.specs.ByteHistories.{AreByteHistories, ByteEvent}

-- what the wire format leaves out is what no event looks at
pub bare_is : (f : Frame) → bare f ≡ without_origin f
bare_is frame.Connect = refl
bare_is frame.Connected = refl
bare_is (frame.Subscribe topic sub kind id request consumer earliest replicated) = refl
bare_is (frame.Producer topic id request name) = refl
bare_is (frame.Send id seq source e) = refl
bare_is (frame.SendReceipt id seq position) = refl
bare_is (frame.SendError id seq code) = refl
bare_is (frame.Message id position source e) = refl
bare_is (frame.Ack id kind positions) = refl
bare_is (frame.Flow id permits) = refl
bare_is (frame.Unsubscribe id request) = refl
bare_is (frame.Success request) = refl
bare_is (frame.Error request code) = refl
bare_is (frame.CloseProducer id request) = refl
bare_is (frame.CloseConsumer id request) = refl
bare_is (frame.ProducerSuccess request name) = refl
bare_is frame.Ping = refl
bare_is frame.Pong = refl
bare_is frame.Unreadable = refl

pub alike_bytes : (s : Setup) (b : WirePacket) (p q : Packet) → StandsForPacket s.clusters b p → StandsForPacket s.clusters b q → IsAlike s p q
alike_bytes s b p q h k =
    alike_without_origin s p q (h.session ∙ sym k.session) (h.stamp ∙ sym k.stamp)
    (sym (bare_is p.frame) ∙ (value_one s.clusters b.frame (bare p.frame) (bare q.frame) h.frame k.frame ∙ bare_is q.frame))

pub byte_histories : (s : Setup) (kept : ℕ → List (ByteEvent WirePacket)) (hs : List (List RecordedEvent))
    → AreByteHistories (StandsForPacket s.clusters) s kept hs → AreHistories s hs
byte_histories s kept hs are = bytes_are_histories (StandsForPacket s.clusters) s kept hs (λ b p q h k. alike_bytes s b p q h k) are

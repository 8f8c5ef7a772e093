-- No byte is the text of no frame, and a broker does with a packet that can't be read what it does with one that is lost.
use Rattle.std.proofs.Common.{◌≡◌, ℕ, Bool, true, false, List, [], length, refl, sym, ap, ◌∙◌, arith}
use Rattle.std.specs.Prelude.{Some, if◌then◌else◌}
use Rattle.geo_base.specs.declared.event.Fate.TheVariants as fate
use Rattle.geo_base.specs.declared.frame.Frame.{Frame}
use Rattle.geo_base.specs.declared.frame.Frame.TheVariants as frame
use Rattle.geo_base.specs.declared.packet.Packet.{Packet}
use Rattle.geo_base.specs.Broker.{Broker, Site}
use Rattle.geo_base.specs.Forwarding.{receipt, take_packet}
use Rattle.pulsar_frames.proofs.Layouts.{length-sized}
use Rattle.pulsar_frames.specs.Layout.{content_text}
use Rattle.frame_values.specs.Standing.{Reads, bare, no_text, text}
use Rattle.world_laws.proofs.Merges.Origins.{packet_of}
use Rattle.frame_laws.specs.BytePackets.{StandsForPacket}
use Rattle.frame_laws.specs.CutOff.{cut_off}
use Rattle.frame_laws.proofs.Bare.{receipt_bare, take_bare}

pub no_bytes : (names : List (List ℕ)) (f : Frame) → Reads names [] f → f ≡ frame.Unreadable
no_bytes names f (text w is says) = absurd (omega (arith, ap (λ (b : List ℕ). length b) is.text, length-sized (content_text is.layout)))
no_bytes names f (no_text none is) = is

if_same : {A : Type 0} (c : Bool) (x : A) → (if c then x else x) ≡ x
if_same true x = refl
if_same false x = refl

take_unread : (h : Site) (b : Broker) (x session stamp : ℕ) (p : Packet)
    → take_packet h b x fate.Good (packet_of session stamp frame.Unreadable) ≡ take_packet h b x fate.Lost (Some p)
unfolding take_packet
take_unread h b x session stamp p = refl

receipt_unread : (h : Site) (b : Broker) (y session stamp : ℕ) (p : Packet)
    → receipt h b y fate.Good (packet_of session stamp frame.Unreadable) ≡ receipt h b y fate.Lost (Some p)
unfolding receipt
receipt_unread h b y session stamp p = if_same _ _

pub take_cut_off : (h : Site) (b : Broker) (x : ℕ) (p cut : Packet) → StandsForPacket h.clusters (cut_off p) cut
    → take_packet h b x fate.Good (Some cut) ≡ take_packet h b x fate.Lost (Some p)
take_cut_off h b x p cut stands =
    sym (take_bare h b x fate.Good cut)
    ∙ ap (λ (f : Frame). take_packet h b x fate.Good (packet_of cut.session cut.stamp f)) (no_bytes h.clusters (bare cut.frame) stands.frame)
    ∙ take_unread h b x cut.session cut.stamp p

pub receipt_cut_off : (h : Site) (b : Broker) (y : ℕ) (p cut : Packet) → StandsForPacket h.clusters (cut_off p) cut
    → receipt h b y fate.Good (Some cut) ≡ receipt h b y fate.Lost (Some p)
receipt_cut_off h b y p cut stands =
    sym (receipt_bare h b y fate.Good cut)
    ∙ ap (λ (f : Frame). receipt h b y fate.Good (packet_of cut.session cut.stamp f)) (no_bytes h.clusters (bare cut.frame) stands.frame)
    ∙ receipt_unread h b y cut.session cut.stamp p

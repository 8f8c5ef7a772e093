-- The packets of a link, and the machine's packets that they are.
use Rattle.std.specs.Prelude.{◌≡◌, ℕ, List, [], ◌∷◌, Option, Some, None}
use Rattle.geo_base.specs.declared.packet.Out.{Out}
use Rattle.geo_base.specs.declared.packet.Packet.{Packet}
use Rattle.geo_base.specs.Client.{Client}
use Rattle.pulsar_frames.specs.declared.frame.Frame.{Frame}
use Rattle.pulsar_frames.specs.Frames.{IsFrameText}
use Rattle.frame_values.specs.Coded.{IsWritten}
use Rattle.frame_values.specs.Standing.{StandFor}
use Rattle.geo_base.specs.declared.packet.WireOut.{WireOut}
use Rattle.wire_ends.specs.declared.packet.WirePacket.{WirePacket}

-- The packet stands for one of the machine: it was sent in the same session, and its bytes stand for the frame. A client looks at
-- no stamp.
pub record StandsFor (names : List (List ℕ)) (b : WirePacket) (p : Packet) : Type 0 where
  pub session : p.session ≡ b.session
  pub frame : StandFor names b.frame p.frame

-- the same of the next packet of a link, where it has one
abbrev pub StandsForNext : List (List ℕ) → Option WirePacket → Option Packet → Type 0
StandsForNext names None None = Unit {0}
StandsForNext names (Some b) (Some p) = StandsFor names b p
StandsForNext names b p = ⊥

-- and there is a packet that it stands for: its bytes have a value
pub record IsSaid (names : List (List ℕ)) (b : Option WirePacket) : Type 0 where
  pub said : Option Packet
  pub stands : StandsForNext names b said

-- It was sent on another connection than the client has now, or its bytes are a text of no frame.
pub data IsDiscarded (k : Client) (b : WirePacket) : Type 0 where
  of_another : (b.session ≡ k.connection → ⊥) → IsDiscarded k b
  unread : ((f : Frame) → IsFrameText b.frame f → ⊥) → IsDiscarded k b

-- the packet of the machine, its frame as its canonical text
pub record IsWrittenOut (names : List (List ℕ)) (o : WireOut) (m : Out) : Type 0 where
  pub to : o.to ≡ m.to
  pub session : o.session ≡ m.session
  pub frame : IsWritten names m.frame o.frame

-- one by one
abbrev pub AreWritten : List (List ℕ) → List WireOut → List Out → Type 0
AreWritten names [] [] = Unit {0}
AreWritten names (o ∷ os) (m ∷ ms) = IsWrittenOut names o m × AreWritten names os ms
AreWritten names os ms = ⊥

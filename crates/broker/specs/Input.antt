-- The packet of a link that an event takes, and what it stands for.
use Rattle.std.specs.Prelude.{◌≡◌, ℕ, List, Option, Some, None, ⊤}
use Rattle.geo_base.specs.declared.frame.Frame.TheVariants as frame
use Rattle.geo_base.specs.declared.packet.Packet.{Packet}
use Rattle.geo_base.specs.Broker.{Broker, Site}
use Rattle.geo_base.specs.Plan.{Plan}
use Rattle.broker_state.specs.Plan.{PlanView}
use Rattle.broker_plans.specs.declared.usual.Came.{Came}
use Rattle.broker_plans.specs.Prepared.{IsPrepared}
use Rattle.broker_plans.specs.Usual.{send_viewed}
use Rattle.frame_values.specs.Standing.{Reads}
use Rattle.frame_laws.specs.BytePackets.{StandsForPacket}
use Rattle.wire_ends.specs.declared.packet.WirePacket.{WirePacket}
use Rattle.broker.specs.declared.reading.Receipt.{Receipt}

-- the next packet of a link stands for the machine's: both are there, or neither
abbrev pub StandsForInput : List (List ℕ) → Option WirePacket → Option Packet → Type 0
StandsForInput names None None = ⊤
StandsForInput names (Some b) (Some p) = StandsForPacket names b p
StandsForInput names b p = ⊥

-- and there is a packet that it stands for: its bytes have a value
pub record IsSaid (names : List (List ℕ)) (i : Option WirePacket) : Type 0 where
  pub said : Option Packet
  pub stands : StandsForInput names i said

-- what was read of it: the value that its bytes say
pub record ReadsPacket (names : List (List ℕ)) (b : WirePacket) (p : Packet) : Type 0 where
  pub session : p.session ≡ b.session
  pub stamp : p.stamp ≡ b.stamp
  pub frame : Reads names b.frame p.frame

abbrev pub ReadsInput : List (List ℕ) → Option WirePacket → Option Packet → Type 0
ReadsInput names None None = ⊤
ReadsInput names (Some b) (Some p) = ReadsPacket names b p
ReadsInput names b p = ⊥

-- an event that takes the next packet of a link, or finds none, is prepared: it is the machine's plan, with what the bytes say
pub record IsInputPrepared (h : Site) (b : Broker) (plan : Option Packet → Plan) (i : Option WirePacket) (p : PlanView) : Type 0 where
  pub said : Option Packet
  pub reads : ReadsInput h.clusters i said
  pub prepared : IsPrepared h b (plan said) p

-- the packet is this SEND, whatever the clusters' names are
pub record IsSendOf (w : WirePacket) (m : Came) : Type 0 where
  pub session : m.session ≡ w.session
  pub said : (names : List (List ℕ)) → Reads names w.frame (send_viewed names m)

-- and this receipt
pub record IsReceiptOf (w : WirePacket) (r : Receipt) : Type 0 where
  pub said : (names : List (List ℕ)) → Reads names w.frame (frame.SendReceipt r.id r.seq (Some r.position))

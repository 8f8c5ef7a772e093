-- What an event sends, made ready.
use Rattle.std.specs.Prelude.{◌≡◌, ◌+◌, ◌<◌, ◌≤◌, ◌^◌, ℕ, Bool, true, false, List, map}
use Rattle.std.specs.List.{AllByRecursion}
use Rattle.log_parts.specs.declared.sending.Addressed.{Addressed}
use Rattle.log_parts.specs.declared.table.EndRow.{EndRow}
use Rattle.log_parts.specs.Rows.{has_peer}
use Rattle.log_parts.specs.Sending.{AreAddressed, HasRoom, LacksRoom}
use Rattle.geo_base.specs.declared.packet.WireOut.{WireOut}
use Rattle.node_log.specs.declared.packing.Packed.{Packed as ReadyPackets}
use Rattle.wire_ends.specs.Parcels.{Packed}
use Rattle.wire_ends.specs.declared.packet.WirePacket.{WirePacket}
use Rattle.world_laws.specs.ByteHistories.{ByteSent}

-- a packet as the history keeps it, and all of an event
abbrev pub sent_at : ℕ → WireOut → ByteSent WirePacket
sent_at stamp o = record { to = o.to; packet = record { session = o.session; stamp = stamp; frame = o.frame } }

abbrev pub all_sent_at : ℕ → List WireOut → List (ByteSent WirePacket)
all_sent_at stamp os = map (sent_at stamp) os

-- what is in parcels
abbrev pub packed_of : Addressed → ByteSent WirePacket
packed_of a = record { to = a.to; packet = a.parcel.packet }

abbrev pub packed_all : List Addressed → List (ByteSent WirePacket)
packed_all as' = map packed_of as'

-- each goes to a peer of the table
abbrev pub GoToPeers : {E : Type 0} → List (EndRow E) → List WireOut → Type 0
GoToPeers rs os = AllByRecursion (λ (o : WireOut). has_peer rs o.to ≡ true) os

-- all was packed, and each end has places for it
pub record IsPacked {E : Type 0} (free : E → ℕ) (fit : Packed → Type 0) (at : ℕ) (outs : List WireOut) (rs : List (EndRow E)) (p : ReadyPackets) : Type 0 where
  pub stamp : p.stamp ≡ at
  pub sent : p.sent.items ≡ all_sent_at at outs
  pub parcels : packed_all p.parcels.items ≡ all_sent_at at outs
  pub addressed : AreAddressed fit rs p.parcels.items
  pub room : HasRoom free rs p.parcels.items

-- all was packed, and an end has too few places for it
pub record LacksFor {E : Type 0} (free looks : E → ℕ) (fits : Packed → Type 0) (at : ℕ) (outs : List WireOut) (old new : List (EndRow E)) : Type 0 where
  pub parcels : List Addressed
  pub packed : packed_all parcels ≡ all_sent_at at outs
  pub addressed : AreAddressed fits new parcels
  pub lacks : LacksRoom free looks old new parcels

-- an event may join the history: it is not idle, its stamp has room, and what it sends is packed. last is the greater of the
-- clock and the stamp of the packet that it takes
pub record MayJoin {E : Type 0} (free : E → ℕ) (fit : Packed → Type 0) (rests : Bool) (last : ℕ) (outs : List WireOut) (rs : List (EndRow E)) (p : ReadyPackets) : Type 0 where
  pub enabled : rests ≡ false
  pub low : last < 2 ^ 63
  pub packed : IsPacked free fit (1 + last) outs rs p

-- or it may not; where no end lacks places, no end was asked
pub data MayNotJoin {E : Type 0} (free looks : E → ℕ) (fits : Packed → Type 0) (rests : Bool) (last : ℕ) (outs : List WireOut) (old new : List (EndRow E)) : Type 0 where
  Rests : rests ≡ true → new ≡ old → MayNotJoin free looks fits rests last outs old new
  Late : 2 ^ 63 ≤ last → new ≡ old → MayNotJoin free looks fits rests last outs old new
  Lacks : rests ≡ false → LacksFor free looks fits (1 + last) outs old new → MayNotJoin free looks fits rests last outs old new

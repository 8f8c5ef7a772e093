-- The last step of an event, and what became of it.
use Rattle.std.specs.Prelude.{◌≡◌, ℕ, Bool, true, false, List, [], ◌∷◌, ◌++◌, Option}
use Rattle.log_parts.specs.declared.table.EndRow.{EndRow}
use Rattle.log_parts.specs.Rows.{sent_to, taken_from}
use Rattle.log_parts.specs.Sending.{packets_to}
use Rattle.geo_base.specs.declared.event.Event.{Event}
use Rattle.geo_base.specs.declared.packet.Peer.{Peer}
use Rattle.node_log.specs.declared.packing.Packed.{Packed}
use Rattle.node_log.specs.Acts.{IsActed, IsHeld, SameLog, packet_from, shown_for}
use Rattle.node_log.specs.Logs.{NodeLogView}
use Rattle.wire_ends.specs.declared.packet.WirePacket.{WirePacket}
use Rattle.world_laws.specs.ByteHistories.{ByteEvent}
use Rattle.wire_ends.specs.Parcels.{Packed as Parcel}

-- its packet was taken, its parcels were sent, and it is written down
pub record Finished {E : Type 0} (shown : E → Option WirePacket) (sent_in taken_in : E → List WirePacket) (e : Event) (from : Option Peer) (p : Packed)
    (before : List (ByteEvent WirePacket)) (old : List (EndRow E)) (after : List (ByteEvent WirePacket)) (new : List (EndRow E)) : Type 0 where
  pub history : after ≡ before ++ record { event = e; taken = shown_for shown old from; sent = p.sent.items; stamp = p.stamp } ∷ []
  pub sent : (q : Peer) → sent_to sent_in new q ≡ sent_to sent_in old q ++ packets_to q p.parcels.items
  pub taken : (q : Peer) → taken_from taken_in new q ≡ taken_from taken_in old q ++ packet_from from (shown_for shown old from) q

-- an event was done, or it was held and nothing was done; yes says which
abbrev pub Outcome : {E : Type 0} → (E → List WirePacket) → (E → List WirePacket) → (E → Option WirePacket) → (E → ℕ) → (E → ℕ) → (Parcel → Type 0) → Event → NodeLogView E → NodeLogView E → Bool → Type 0
Outcome sent_in taken_in shown free looks fits e old new true = IsActed sent_in taken_in e old new
Outcome sent_in taken_in shown free looks fits e old new false = IsHeld shown free looks fits e old new × SameLog sent_in taken_in old new

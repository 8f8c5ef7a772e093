-- A packet put at the end of a row.
use Rattle.std.proofs.Common.{◌≡◌, ℕ, List, [], ◌∷◌, ◌++◌, refl, ap}
use Rattle.std.specs.Prelude.{Result, Ok, Err, OnOk, slice_set}
use Rattle.log_parts.specs.declared.table.EndRow.{EndRow}
use Rattle.log_parts.specs.Hand.{Put}
use Rattle.log_parts.proofs.Tables.{IsRow, set_by, set_same}
use Rattle.geo_base.specs.declared.memory.Memory.{Memory}
use Rattle.geo_base.specs.declared.packet.Peer.{Peer}
use Rattle.wire_ends.specs.declared.packet.WirePacket.{WirePacket}
use Rattle.wire_ends.specs.ListEnds.{ListState}

abbrev with_take : EndRow ListState → ListState → EndRow ListState
with_take r e = record r { take = e }

pub put_row : (q : Peer) (p : WirePacket) (rs : List (EndRow ListState)) (i : ℕ) (r : EndRow ListState) (e : ListState) (o : Result (Unit {0}) Memory) → IsRow q rs i r
    → OnOk o (e ≡ record r.take { held = r.take.held ++ p ∷ [] }) → OnOk o (Put q p rs (slice_set rs i (with_take r e)))
put_row q p rs i r e (Ok u) row is = record {
  put = λ z. set_by (λ a. a.take.held) [] q z rs i r (with_take r e) (λ ps. ps ++ p ∷ []) row refl (ap (λ (s : ListState). s.held) is);
  rest = λ z. set_same (λ a. a.send.held) [] q z rs i r (with_take r e) row refl refl;
  sent = λ z. set_same (λ a. a.send.sent) [] q z rs i r (with_take r e) row refl refl;
  taken = λ z. set_same (λ a. a.take.taken) [] q z rs i r (with_take r e) row refl (ap (λ (s : ListState). s.taken) is);
}
put_row q p rs i r e (Err m) row is = tt

-- What is taken and sent when an event is written down.
use Rattle.std.proofs.Common.{◌≡◌, ℕ, List, [], ◌++◌, Bool, true, false, refl, sym, ◌∙◌, arith}
use Rattle.std.specs.Prelude.{Option, Some, if◌then◌else◌}
use Rattle.std.specs.Option.{option_to_list}
use Rattle.std.proofs.lemmas.List.{append-nil}
use Rattle.log_parts.specs.declared.sending.Addressed.{Addressed}
use Rattle.log_parts.specs.declared.table.EndRow.{EndRow}
use Rattle.log_parts.specs.Peers.{same_peer}
use Rattle.log_parts.specs.Rows.{SameSends, TookFrom, taken_from}
use Rattle.log_parts.specs.Sending.{HasRoom}
use Rattle.geo_base.specs.declared.packet.Peer.{Peer}
use Rattle.node_log.specs.Acts.{packet_from}
use Rattle.wire_ends.specs.declared.packet.WirePacket.{WirePacket}

pub still_room : {E : Type 0} (sent_in : E → List WirePacket) (free : E → ℕ) (rs rs' : List (EndRow E)) (as' : List Addressed) → HasRoom free rs as' → SameSends sent_in free rs rs' → HasRoom free rs' as'
still_room sent_in free rs rs' as' room same q = let few = room q in let more = same.free q in omega (arith, few, more)

pub same_sends : {E : Type 0} (sent_in : E → List WirePacket) (free : E → ℕ) (rs : List (EndRow E)) → SameSends sent_in free rs rs
same_sends sent_in free rs = record { sent = λ q. refl; free = λ q. omega arith }

pub took_none : {E : Type 0} (taken_in : E → List WirePacket) (rs : List (EndRow E)) (q : Peer) → taken_from taken_in rs q ≡ taken_from taken_in rs q ++ []
took_none taken_in rs q = sym (append-nil (taken_from taken_in rs q))

pub took_one : {E : Type 0} (taken_in : E → List WirePacket) (peer : Peer) (o : Option WirePacket) (rs rs' : List (EndRow E)) → TookFrom taken_in peer o rs rs'
    → (q : Peer) → taken_from taken_in rs' q ≡ taken_from taken_in rs q ++ packet_from (Some peer) o q
took_one {E} taken_in peer o rs rs' took q = took q ∙ by (same_peer peer q)
  where
    by : (t : Bool) → (if t then taken_from taken_in rs q ++ option_to_list o else taken_from taken_in rs q) ≡ taken_from taken_in rs q ++ (if t then option_to_list o else [])
    by true = refl
    by false = sym (append-nil (taken_from taken_in rs q))

-- Histories of bytes that agree stand for histories of the law of the merge, where packets that the same bytes stand for are
-- alike.
use Rattle.std.proofs.Common.{ℕ, Bool, true, false, List, [], ◌∷◌, ◌++◌, refl, sym, ap, subst}
use Rattle.std.specs.Prelude.{Option, Some, None, if◌then◌else◌}
use Rattle.world_laws.proofs.Types.{Event, Packet, Peer}
use Rattle.geo_base.specs.Agreement.{AreHistories, BeginsAlike, IsAlike}
use Rattle.geo_base.specs.History.{RecordedEvent, SentPacket, sent_in, sent_over, state_after, taken_in, taken_over}
use Rattle.geo_base.specs.Merge.{history_of}
use Rattle.geo_base.specs.NodeState.{NodeState, opening_state, takes_from}
use Rattle.geo_base.specs.Nodes.{Node, link_from, link_to, node_of, same_link, sender_of, taker_of}
use Rattle.geo_base.specs.Setup.{Setup}
use Rattle.geo_base.specs.World.{LinkName}
use Rattle.world_laws.specs.ByteHistories.{AreByteHistories, ByteEvent, ByteSent, PacketsStand, SentStand, StandAll, TakenStands, bytes_sent_in, bytes_sent_over, bytes_taken_in, bytes_taken_over}

pub bytes_agree : {B : Type 0} (R : B → Packet → Type 0) (s : Setup) → ((b : B) (p q : Packet) → R b p → R b q → IsAlike s p q)
    → (bs rest : List B) (ps qs : List Packet) → PacketsStand R bs ps → PacketsStand R (bs ++ rest) qs → BeginsAlike s ps qs
bytes_agree R s one [] rest [] qs h k = record { front = []; rest = qs; whole = refl; alike = tt }
bytes_agree R s one [] rest (p ∷ ps) qs h k = absurd h
bytes_agree R s one (b ∷ bs) rest [] qs h k = absurd h
bytes_agree R s one (b ∷ bs) rest (p ∷ ps) [] h k = absurd k
bytes_agree R s one (b ∷ bs) rest (p ∷ ps) (q ∷ qs) h k =
    let r = bytes_agree R s one bs rest ps qs h.1 k.1 in
    record { front = q ∷ r.front; rest = r.rest; whole = ap (λ (us : List Packet). q ∷ us) r.whole; alike = (one b p q h.0 k.0, r.alike) }

stand_both : {B : Type 0} (R : B → Packet → Type 0) (bs cs : List B) (ps qs : List Packet) → PacketsStand R bs ps → PacketsStand R cs qs → PacketsStand R (bs ++ cs) (ps ++ qs)
stand_both R [] cs [] qs h k = k
stand_both R [] cs (p ∷ ps) qs h k = absurd h
stand_both R (b ∷ bs) cs [] qs h k = absurd h
stand_both R (b ∷ bs) cs (p ∷ ps) qs h k = (h.0, stand_both R bs cs ps qs h.1 k)

sent_one : {B : Type 0} (R : B → Packet → Type 0) (s : Setup) (k : LinkName) (n : Node) (bs : List (ByteSent B)) (os : List SentPacket) → SentStand R bs os
    → PacketsStand R (bytes_sent_over s k n bs) (sent_over s k n os)
sent_one R s k n [] [] h = tt
sent_one R s k n [] (o ∷ os) h = absurd h
sent_one R s k n (b ∷ bs) [] h = absurd h
sent_one {B} R s k n (b ∷ bs) (o ∷ os) h =
    subst (λ (q : Peer). PacketsStand R (bytes_sent_over s k n (b ∷ bs)) (if same_link (link_to s n q) k then o.packet ∷ sent_over s k n os else sent_over s k n os))
    (sym h.0.0) (by (same_link (link_to s n b.to) k) (sent_one R s k n bs os h.1))
  where
    by : (t : Bool) → PacketsStand R (bytes_sent_over s k n bs) (sent_over s k n os)
        → PacketsStand R (if t then b.packet ∷ bytes_sent_over s k n bs else bytes_sent_over s k n bs) (if t then o.packet ∷ sent_over s k n os else sent_over s k n os)
    by true rest = (h.0.1, rest)
    by false rest = rest

pub sent_stands : {B : Type 0} (R : B → Packet → Type 0) (s : Setup) (k : LinkName) (xs : List (ByteEvent B)) (ds : List RecordedEvent) → StandAll R xs ds
    → PacketsStand R (bytes_sent_in s k xs) (sent_in s k ds)
sent_stands R s k [] [] h = tt
sent_stands R s k [] (d ∷ ds) h = absurd h
sent_stands R s k (x ∷ xs) [] h = absurd h
sent_stands R s k (x ∷ xs) (d ∷ ds) h =
    stand_both R (bytes_sent_over s k (node_of s x.event) x.sent) (bytes_sent_in s k xs) (sent_over s k (node_of s d.event) d.sent) (sent_in s k ds)
    (subst (λ (e : Event). PacketsStand R (bytes_sent_over s k (node_of s x.event) x.sent) (sent_over s k (node_of s e) d.sent)) (sym h.0.event)
    (sent_one R s k (node_of s x.event) x.sent d.sent h.0.sent))
    (sent_stands R s k xs ds h.1)

taken_one : {B : Type 0} (R : B → Packet → Type 0) (s : Setup) (k : LinkName) (n : Node) (q : Option Peer) (b : Option B) (p : Option Packet) → TakenStands R b p
    → PacketsStand R (bytes_taken_over s k n q b) (taken_over s k n q p)
taken_one R s k n None None None h = tt
taken_one R s k n None None (Some p) h = tt
taken_one R s k n None (Some b) None h = tt
taken_one R s k n None (Some b) (Some p) h = tt
taken_one R s k n (Some q) None None h = tt
taken_one R s k n (Some q) None (Some p) h = absurd h
taken_one R s k n (Some q) (Some b) None h = absurd h
taken_one R s k n (Some q) (Some b) (Some p) h = by (same_link (link_from s n q) k)
  where
    by : (t : Bool) → PacketsStand R (if t then b ∷ [] else []) (if t then p ∷ [] else [])
    by true = (h, tt)
    by false = tt

pub taken_stands : {B : Type 0} (R : B → Packet → Type 0) (s : Setup) (k : LinkName) (st : NodeState) (xs : List (ByteEvent B)) (ds : List RecordedEvent) → StandAll R xs ds
    → PacketsStand R (bytes_taken_in s k st xs ds) (taken_in s k st ds)
taken_stands R s k st [] [] h = tt
taken_stands R s k st [] (d ∷ ds) h = absurd h
taken_stands R s k st (x ∷ xs) [] h = absurd h
taken_stands R s k st (x ∷ xs) (d ∷ ds) h =
    stand_both R (bytes_taken_over s k (node_of s x.event) (takes_from st x.event) x.taken) (bytes_taken_in s k (state_after s st d) xs ds)
    (taken_over s k (node_of s d.event) (takes_from st d.event) d.taken) (taken_in s k (state_after s st d) ds)
    (subst (λ (e : Event). PacketsStand R (bytes_taken_over s k (node_of s x.event) (takes_from st x.event) x.taken) (taken_over s k (node_of s e) (takes_from st e) d.taken))
    (sym h.0.event) (taken_one R s k (node_of s x.event) (takes_from st x.event) x.taken d.taken h.0.taken))
    (taken_stands R s k (state_after s st d) xs ds h.1)

-- so what they stand for are histories that agree
pub bytes_are_histories : {B : Type 0} (R : B → Packet → Type 0) (s : Setup) (logs : ℕ → List (ByteEvent B)) (hs : List (List RecordedEvent))
    → ((b : B) (p q : Packet) → R b p → R b q → IsAlike s p q) → AreByteHistories R s logs hs → AreHistories s hs
bytes_are_histories R s logs hs one are = record {
  nodes = are.nodes;
  replay = are.replay;
  agree = λ k has.
      let z = taker_of s k in
      let a = are.agree k has in
      let taken = taken_stands R s k (opening_state s z) (logs z) (history_of hs z) (are.stands z) in
      let sent = sent_stands R s k (logs (sender_of s k)) (history_of hs (sender_of s k)) (are.stands (sender_of s k)) in
      bytes_agree R s one (bytes_taken_in s k (opening_state s z) (logs z) (history_of hs z)) a.0 _ _ taken
      (subst (λ bs. PacketsStand R bs (sent_in s k (history_of hs (sender_of s k)))) a.1 sent);
}

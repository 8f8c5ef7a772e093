-- What is packed.
use Rattle.std.proofs.Common.{◌≡◌, ◌+◌, ◌<◌, ◌^◌, ℕ, Bool, List, [], ◌∷◌, ◌++◌, refl, sym, ap, subst, ◌∙◌, false, true, arith}
use Rattle.std.specs.Prelude.{if◌then◌else◌, Option, Some, None, Result, Ok, Err, IfNone, IfOk, IfSome, OnOk}
use Rattle.std.specs.Option.{option_to_list}
use Rattle.std.proofs.lemmas.List.{append_assoc}
use Rattle.log_parts.specs.declared.sending.Addressed.{Addressed}
use Rattle.log_parts.specs.declared.table.EndRow.{EndRow}
use Rattle.log_parts.specs.Peers.{same_peer}
use Rattle.log_parts.specs.Rows.{LooksRise, SamePeers, has_peer}
use Rattle.log_parts.specs.Sending.{AreAddressed, ArePeers, LacksRoom, packets_to}
use Rattle.geo_base.specs.declared.memory.Memory.{Memory}
use Rattle.geo_base.specs.declared.packet.Peer.{Peer}
use Rattle.geo_base.specs.declared.packet.WireOut.{WireOut}
use Rattle.node_log.specs.Acts.{packets_of}
use Rattle.node_log.specs.declared.packing.Packed.{Packed as ReadyPackets}
use Rattle.node_log.specs.Packing.{GoToPeers, IsPacked, LacksFor, MayJoin, MayNotJoin, all_sent_at, packed_all, packed_of, sent_at}
use Rattle.wire_ends.specs.declared.packet.WirePacket.{WirePacket}
use Rattle.wire_ends.specs.Parcels.{Packed}
use Rattle.world_laws.specs.ByteHistories.{ByteSent}

pub packed_last : (as' : List Addressed) (a : Addressed) → packed_all (as' ++ a ∷ []) ≡ packed_all as' ++ packed_of a ∷ []
packed_last [] a = refl
packed_last (b ∷ as') a = ap (λ (l : List (ByteSent WirePacket)). packed_of b ∷ l) (packed_last as' a)

pub addressed_last : {E : Type 0} (fits : Packed → Type 0) (rs rs' : List (EndRow E)) (as' : List Addressed) (a : Addressed) → AreAddressed fits rs as' → SamePeers rs rs' → has_peer rs a.to ≡ true → fits a.parcel
    → AreAddressed fits rs' (as' ++ a ∷ [])
addressed_last fits rs rs' [] a h same has fit = ((same a.to ∙ has, fit), tt)
addressed_last fits rs rs' (b ∷ as') a h same has fit = ((same b.to ∙ h.0.0, h.0.1), addressed_last fits rs rs' as' a h.1 same has fit)

pub still_addressed : {E : Type 0} (fits : Packed → Type 0) (rs rs' : List (EndRow E)) (as' : List Addressed) → AreAddressed fits rs as' → SamePeers rs rs' → AreAddressed fits rs' as'
still_addressed fits rs rs' [] h same = tt
still_addressed fits rs rs' (a ∷ as') h same = ((same a.to ∙ h.0.0, h.0.1), still_addressed fits rs rs' as' h.1 same)

pub are_peers : {E : Type 0} (fits : Packed → Type 0) (rs : List (EndRow E)) (as' : List Addressed) → AreAddressed fits rs as' → ArePeers rs as'
are_peers fits rs [] h = tt
are_peers fits rs (a ∷ as') h = (h.0.0, are_peers fits rs as' h.1)

pub peers_still : {E : Type 0} (rs rs' : List (EndRow E)) (os : List WireOut) → GoToPeers rs os → SamePeers rs rs' → GoToPeers rs' os
peers_still rs rs' [] h same = tt
peers_still rs rs' (o ∷ os) h same = (same o.to ∙ h.0, peers_still rs rs' os h.1 same)

pub packed_more : (l m : List (ByteSent WirePacket)) (o : ByteSent WirePacket) → (l ++ o ∷ []) ++ m ≡ l ++ o ∷ m
packed_more l m o = append_assoc l (o ∷ []) m

abbrev sent_as : Peer → WirePacket → ByteSent WirePacket
sent_as q p = record { to = q; packet = p }

-- the parcel of a packet of an event, after others
pub parcel_last : (at : ℕ) (o : WireOut) (as' : List Addressed) (a : Addressed) → a.to ≡ o.to → a.parcel.packet ≡ (sent_at at o).packet → packed_all (as' ++ a ∷ []) ≡ packed_all as' ++ sent_at at o ∷ []
parcel_last at o as' a to packet = packed_last as' a ∙ ap (λ (s : ByteSent WirePacket). packed_all as' ++ s ∷ []) is
  where
    is : packed_of a ≡ sent_at at o
    is = ap (λ (q : Peer). sent_as q a.parcel.packet) to ∙ ap (λ (p : WirePacket). sent_as o.to p) packet

-- u is what was next of an event's packets os
next_is : (u : Option WireOut) (o : WireOut) (os os' : List WireOut) → u ≡ Some o → os ≡ option_to_list u ++ os' → os ≡ o ∷ os'
next_is u o os os' some are = subst (λ (v : Option WireOut). os ≡ option_to_list v ++ os') some are

pub next_goes : {E : Type 0} (rs : List (EndRow E)) (u : Option WireOut) (o : WireOut) (os os' : List WireOut) → u ≡ Some o → os ≡ option_to_list u ++ os' → GoToPeers rs os → (has_peer rs o.to ≡ true) × GoToPeers rs os'
next_goes rs u o os os' some are goes = subst (λ (l : List WireOut). GoToPeers rs l) (next_is u o os os' some are) goes

-- the next packet, and then all others, were put after the old ones
pub sent_more : {T X : Type 0} (r : Result T X) (at at' : ℕ) (u : Option WireOut) (o : WireOut) (os os' : List WireOut) (old mid new : List (ByteSent WirePacket)) → u ≡ Some o → os ≡ option_to_list u ++ os' → at' ≡ at
    → mid ≡ old ++ sent_at at o ∷ [] → OnOk r (new ≡ mid ++ all_sent_at at' os') → OnOk r (new ≡ old ++ all_sent_at at os)
sent_more (Err e) at at' u o os os' old mid new some are same first rest = tt
sent_more (Ok x) at at' u o os os' old mid new some are same first rest =
    rest
    ∙ ap (λ (n : ℕ). mid ++ all_sent_at n os') same
    ∙ ap (λ (l : List (ByteSent WirePacket)). l ++ all_sent_at at os') first
    ∙ packed_more old (all_sent_at at os') (sent_at at o)
    ∙ ap (λ (l : List WireOut). old ++ all_sent_at at l) (sym (next_is u o os os' some are))

pub packed_first : (l : List (ByteSent WirePacket)) → [] ++ l ≡ l
packed_first l = refl

-- what was packed for a peer is what was recorded for it
pub packets_are : (q : Peer) (as' : List Addressed) (os : List (ByteSent WirePacket)) → packed_all as' ≡ os → packets_to q as' ≡ packets_of q os
packets_are q as' os is = each q as' ∙ ap (packets_of q) is
  where
    each : (q : Peer) (as' : List Addressed) → packets_to q as' ≡ packets_of q (packed_all as')
    each q [] = refl
    each q (a ∷ as') = ap (λ (ps : List WirePacket). if same_peer a.to q then a.parcel.packet ∷ ps else ps) (each q as')

-- a look of later is one since the first
pub lacks_since : {E : Type 0} (free looks : E → ℕ) (old mid new : List (EndRow E)) (as' : List Addressed) → LooksRise looks old mid → LacksRoom free looks mid new as' → LacksRoom free looks old new as'
lacks_since free looks old mid new as' rise lacks =
    let up = rise lacks.peer in let more = lacks.looked.0 in
    record {
      peer = lacks.peer;
      few = lacks.few;
      looked = (omega (arith, up, more), λ le. let top = lacks.looked.1 (omega (arith, le, up)) in omega (arith, top, le, more));
    }

-- ---- what may join the history

pub may_join : {E : Type 0} (free : E → ℕ) (fit : Packed → Type 0) (rests : Bool) (at last : ℕ) (outs : List WireOut) (rs : List (EndRow E)) (r : Result (Option ReadyPackets) Memory) → rests ≡ false → last < 2 ^ 63 → at ≡ 1 + last
    → IfOk r (λ o. IfSome o (λ p. IsPacked free fit at outs rs p)) → IfOk r (λ o. IfSome o (λ p. MayJoin free fit rests last outs rs p))
may_join free fit rests at last outs rs (Err m) on low is packed = tt
may_join free fit rests at last outs rs (Ok None) on low is packed = tt
may_join free fit rests at last outs rs (Ok (Some p)) on low is packed = record { enabled = on; low = low; packed = rw (← is) packed }

pub lacks_join : {E : Type 0} (free looks : E → ℕ) (fits : Packed → Type 0) (rests : Bool) (at last : ℕ) (outs : List WireOut) (rs rs' : List (EndRow E)) (r : Result (Option ReadyPackets) Memory) → rests ≡ false → at ≡ 1 + last
    → IfOk r (λ o. IfNone o (LacksFor free looks fits at outs rs rs')) → IfOk r (λ o. IfNone o (MayNotJoin free looks fits rests last outs rs rs'))
lacks_join free looks fits rests at last outs rs rs' (Err m) on is lacks = tt
lacks_join free looks fits rests at last outs rs rs' (Ok None) on is lacks = MayNotJoin.Lacks on (rw (← is) lacks)
lacks_join free looks fits rests at last outs rs rs' (Ok (Some p)) on is lacks = tt

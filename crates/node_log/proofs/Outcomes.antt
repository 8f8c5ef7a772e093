-- What became of an event.
use Rattle.std.proofs.Common.{◌≡◌, ℕ, ◌+◌, ◌≤◌, ◌^◌, Bool, true, false, List, max, refl, sym, subst, ◌∙◌, ◌↔◌}
use Rattle.std.specs.Prelude.{Option, Some, None, Result, Ok, Err, IfOk, IsFalse, IsTrue, OnErr}
use Rattle.log_parts.specs.declared.table.EndRow.{EndRow}
use Rattle.log_parts.specs.Rows.{LooksRise, SameTakes}
use Rattle.frame_laws.specs.Logs.{AreSentAs, StandsAs}
use Rattle.geo_base.specs.declared.event.Event.{Event}
use Rattle.geo_base.specs.declared.memory.Memory.{Memory}
use Rattle.geo_base.specs.declared.packet.Packet.{Packet}
use Rattle.geo_base.specs.declared.packet.Peer.{Peer}
use Rattle.geo_base.specs.declared.packet.WireOut.{WireOut}
use Rattle.geo_base.specs.Happening.{stamp_of}
use Rattle.geo_base.specs.NodeState.{NodeState, acts, takes_from}
use Rattle.node_log.specs.declared.state.NodeState.{NodeState as Kept}
use Rattle.node_log.specs.Acting.{Outcome}
use Rattle.node_log.specs.Acts.{IsActed, IsHeld, LookedFor, SameLog, shown_for, stamp_in}
use Rattle.node_log.specs.Logs.{LogHolds, NodeLogView, log_view, machine_state}
use Rattle.node_log.specs.Looking.{IsSeen}
use Rattle.node_log.specs.Packing.{MayNotJoin, all_sent_at}
use Rattle.node_log.proofs.Doing.{sent_as, true_false}
use Rattle.node_log.proofs.Packs.{lacks_since, packets_are}
use Rattle.script_text.specs.Script.{Script}
use Rattle.wire_ends.specs.declared.packet.WirePacket.{WirePacket}
use Rattle.world_laws.specs.ByteHistories.{ByteEvent, TakenStands}
use Rattle.wire_ends.specs.Parcels.{Packed as Parcel}

pub refused : {P : Type 0} (r : Bool) → (IsTrue r ↔ P) → r ≡ false → P → ⊥
refused r is fails p = true_false (sym (is.1 p) ∙ fails)

-- ---- for a caller of the whole log: old and new are its values, was and is those that its parts show

pub acted_of : {E : Type 0} (sent_in taken_in : E → List WirePacket) (shown : E → Option WirePacket) (free looks : E → ℕ) (fits : Parcel → Type 0) (e : Event) (old new was is : NodeLogView E) (r : Result Bool Memory)
    → IfOk r (Outcome sent_in taken_in shown free looks fits e was is) → was ≡ old → is ≡ new → IfOk r (λ so. IsTrue so → IsActed sent_in taken_in e old new)
acted_of sent_in taken_in shown free looks fits e old new was is (Ok true) h before after = λ so. rw (← before, ← after) h
acted_of sent_in taken_in shown free looks fits e old new was is (Ok false) h before after = λ so. absurd (true_false (sym so))
acted_of sent_in taken_in shown free looks fits e old new was is (Err m) h before after = tt

pub held_of : {E : Type 0} (sent_in taken_in : E → List WirePacket) (shown : E → Option WirePacket) (free looks : E → ℕ) (fits : Parcel → Type 0) (e : Event) (old new was is : NodeLogView E) (r : Result Bool Memory)
    → IfOk r (Outcome sent_in taken_in shown free looks fits e was is) → was ≡ old → is ≡ new → IfOk r (λ so. IsFalse so → IsHeld shown free looks fits e old new)
held_of sent_in taken_in shown free looks fits e old new was is (Ok true) h before after = λ fails. absurd (true_false fails)
held_of sent_in taken_in shown free looks fits e old new was is (Ok false) h before after = λ fails. rw (← before, ← after) h.0
held_of sent_in taken_in shown free looks fits e old new was is (Err m) h before after = tt

pub same_of : {E : Type 0} (sent_in taken_in : E → List WirePacket) (shown : E → Option WirePacket) (free looks : E → ℕ) (fits : Parcel → Type 0) (e : Event) (old new was is : NodeLogView E) (r : Result Bool Memory)
    → IfOk r (Outcome sent_in taken_in shown free looks fits e was is) → was ≡ old → is ≡ new → IfOk r (λ so. IsFalse so → SameLog sent_in taken_in old new)
same_of sent_in taken_in shown free looks fits e old new was is (Ok true) h before after = λ fails. absurd (true_false fails)
same_of sent_in taken_in shown free looks fits e old new was is (Ok false) h before after = λ fails. rw (← before, ← after) h.1
same_of sent_in taken_in shown free looks fits e old new was is (Err m) h before after = tt

pub err_of : {E : Type 0} (sent_in taken_in : E → List WirePacket) (old new was is : NodeLogView E) (r : Result Bool Memory)
    → OnErr r (SameLog sent_in taken_in was is) → was ≡ old → is ≡ new → OnErr r (SameLog sent_in taken_in old new)
err_of sent_in taken_in old new was is (Ok so) h before after = tt
err_of sent_in taken_in old new was is (Err m) h before after = rw (← before, ← after) h

-- what holds of a log is known by a borrow of its configuration, and by its state as it is matched; and back

pub holds_by : {E : Type 0} (sc sc' : Script) (st st' : Kept) (h : List (ByteEvent WirePacket)) (k : ℕ) (rs : List (EndRow E)) → LogHolds sc.setup st h k rs → sc' ≡ sc → st ≡ st' → LogHolds sc'.setup st' h k rs
holds_by sc sc' st st' h k rs holds borrowed matched =
    subst (λ (a : Script). LogHolds a.setup st' h k rs) (sym borrowed) (subst (λ (t : Kept). LogHolds sc.setup t h k rs) matched holds)

pub holds_back : {E : Type 0} (sc sc' : Script) (st : Kept) (h : List (ByteEvent WirePacket)) (k : ℕ) (rs : List (EndRow E)) → LogHolds sc'.setup st h k rs → sc' ≡ sc → LogHolds sc.setup st h k rs
holds_back sc sc' st h k rs holds borrowed = subst (λ (a : Script). LogHolds a.setup st h k rs) borrowed holds

-- ---- why it is held

stamp_shown : (names : List (List ℕ)) (o : Option WirePacket) (u : Option Packet) → TakenStands (StandsAs names) o u → stamp_of u ≡ stamp_in o
stamp_shown names None None stands = refl
stamp_shown names None (Some p) stands = absurd stands
stamp_shown names (Some w) None stands = absurd stands
stamp_shown names (Some w) (Some p) stands = stands.stamp

-- rs are the ends before it, rs1 after the look, rs2 after packing
pub held_is : {E : Type 0} (sc : Script) (st st' : Kept) (h h' : List (ByteEvent WirePacket)) (k k' : ℕ) (e : Event) (shown : E → Option WirePacket) (taken_in : E → List WirePacket) (free looks : E → ℕ) (fits : Parcel → Type 0)
    (from : Option Peer) (n : ℕ) (rests : Bool) (outs : List WireOut) (after : NodeState) (rs rs1 rs2 : List (EndRow E))
    → from ≡ takes_from (machine_state st) e → IsSeen sc.setup (machine_state st) e (shown_for shown rs1 from) n rests outs after
    → LookedFor looks rs rs1 from → LooksRise looks rs rs1 → SameTakes taken_in shown rs1 rs2 → MayNotJoin free looks fits rests (max k n) outs rs1 rs2
    → IsHeld shown free looks fits e (log_view sc st h k rs) (log_view sc st' h' k' rs2)
held_is {E} sc st st' h h' k k' e shown taken_in free looks fits from n rests outs after rs rs1 rs2 takes seen looked rise takes2 held = by held
  where
    still : (f : Option Peer) → shown_for shown rs1 f ≡ shown_for shown rs2 f
    still None = refl
    still (Some q) = sym (takes2.shown q)

    stands : TakenStands (StandsAs sc.setup.clusters) (shown_for shown rs2 (takes_from (machine_state st) e)) seen.said
    stands = subst (λ (f : Option Peer). TakenStands (StandsAs sc.setup.clusters) (shown_for shown rs2 f) seen.said) takes
        (subst (λ (o : Option WirePacket). TakenStands (StandsAs sc.setup.clusters) o seen.said) (still from) seen.stands)

    looked_at : rs2 ≡ rs1 → LookedFor looks rs rs2 (takes_from (machine_state st) e)
    looked_at same = subst (LookedFor looks rs rs2) takes (subst (λ (l : List (EndRow E)). LookedFor looks rs l from) (sym same) looked)

    by : MayNotJoin free looks fits rests (max k n) outs rs1 rs2 → IsHeld shown free looks fits e (log_view sc st h k rs) (log_view sc st' h' k' rs2)
    by (MayNotJoin.Rests so same) = IsHeld.Idle (record { said = seen.said; stands = stands; idle = seen.idle ∙ so }) (looked_at same)
    by (MayNotJoin.Late low same) =
        IsHeld.NoStamp (subst (λ (m : ℕ). 2 ^ 63 ≤ max k m) (seen.stamp ∙ stamp_shown sc.setup.clusters (shown_for shown rs2 (takes_from (machine_state st) e)) seen.said stands) low) (looked_at same)
    by (MayNotJoin.Lacks on lacks) = IsHeld.Full (record {
      said = seen.said;
      stands = stands;
      sends = all_sent_at (1 + max k n) outs;
      packets = subst (λ (m : ℕ). AreSentAs sc.setup.clusters (1 + max k m) (all_sent_at (1 + max k n) outs) (acts sc.setup (machine_state st) e seen.said).sent) seen.stamp
          (sent_as sc.setup.clusters (1 + max k n) (acts sc.setup (machine_state st) e seen.said).sent outs seen.sent);
      parcels = lacks.parcels;
      packed = λ q. packets_are q lacks.parcels (all_sent_at (1 + max k n) outs) lacks.packed;
      addressed = lacks.addressed;
      lacks = lacks_since free looks rs rs1 rs2 lacks.parcels rise lacks.lacks;
    })

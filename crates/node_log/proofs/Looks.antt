-- What a look shows.
use Rattle.std.proofs.Common.{◌≡◌, ℕ, List, [], ◌∷◌, Bool, true, false, refl, sym, ap, ◌∙◌, arith}
use Rattle.std.specs.Borrow.{Bor}
use Rattle.std.specs.Option.{option_copied}
use Rattle.std.specs.Prelude.{Option, Some, None, Result, Ok, Err, OnOk, if◌then◌else◌}
use Rattle.log_parts.specs.declared.table.EndRow.{EndRow}
use Rattle.log_parts.specs.Peers.{same_peer}
use Rattle.log_parts.specs.Rows.{has_peer, shown_from}
use Rattle.frame_laws.specs.Logs.{StandsAs}
use Rattle.broker.specs.Events.{plan_at_node}
use Rattle.broker.specs.Input.{IsSaid, StandsForInput}
use Rattle.broker.specs.Node.{BrokerView}
use Rattle.broker_plans.specs.Prepared.{IsPrepared}
use Rattle.broker_state.specs.Plan.{PlanView}
use Rattle.geo_base.specs.declared.event.Event.{Event}
use Rattle.geo_base.specs.declared.packet.Packet.{Packet}
use Rattle.geo_base.specs.declared.packet.Peer.{Peer}
use Rattle.geo_base.specs.Happening.{stamp_of}
use Rattle.node_log.specs.Looking.{IsLooked}
use Rattle.wire_ends.specs.declared.packet.WirePacket.{WirePacket}
use Rattle.wire_ends.specs.Looks.{Looked}
use Rattle.world_laws.specs.ByteHistories.{TakenStands}

pub looked_twice : (i j k : ℕ) → Looked i j → Looked j k → Looked i k
looked_twice i j k h g =
    let up = h.0 in let more = g.0 in
    (omega (arith, up, more), λ le. h.1 (omega (arith, le, more)))

-- an end gathered, and then showed its next packet; the six facts are those of a peek
pub looked_shown : {A B C D F : Type 0} (i j k : ℕ) → Looked i j → A × B × C × D × F × Looked j k → Looked i k
looked_shown i j k h (a, b, c, d, f, more) = looked_twice i j k h more

-- what an end shows, by what a peek gave
pub shows_none : (u : Option WirePacket) (o : Option (Bor WirePacket)) → u ≡ option_copied o → o ≡ None → u ≡ None
shows_none u o is none = is ∙ ap (λ (r : Option (Bor WirePacket)). option_copied r) none

pub shows_some : (u : Option WirePacket) (o : Option (Bor WirePacket)) (w : Bor WirePacket) → u ≡ option_copied o → o ≡ Some w → u ≡ Some w.now
shows_some u o w is some = is ∙ ap (λ (r : Option (Bor WirePacket)). option_copied r) some

as_taken : (names : List (List ℕ)) (w : WirePacket) (u : Option Packet) → StandsForInput names (Some w) u → TakenStands (StandsAs names) (Some w) u
as_taken names w None stands = absurd stands
as_taken names w (Some p) stands = stands

stamp_said : (names : List (List ℕ)) (w : WirePacket) (u : Option Packet) → StandsForInput names (Some w) u → w.stamp ≡ stamp_of u
stamp_said names w None stands = absurd stands
stamp_said names w (Some p) stands = sym stands.stamp

-- nothing came
pub looked_nothing : (v : BrokerView) (e : Event) (p : PlanView) → ((u : Option Packet) → StandsForInput v.site.clusters None u → IsPrepared v.site v.broker (plan_at_node v e u) p)
    → IsLooked v e None 0 p
looked_nothing v e p prepared = record { said = None; stands = tt; prepared = prepared None tt; stamp = refl }

-- a packet came
pub looked_packet : (v : BrokerView) (e : Event) (o : Option WirePacket) (w : WirePacket) (p : PlanView) → o ≡ Some w → IsSaid v.site.clusters (Some w)
    → ((u : Option Packet) → StandsForInput v.site.clusters (Some w) u → IsPrepared v.site v.broker (plan_at_node v e u) p)
    → IsLooked v e o w.stamp p
looked_packet v e o w p is said prepared = record {
  said = said.said;
  stands = rw is (as_taken v.site.clusters w said.said said.stands);
  prepared = prepared said.said said.stands;
  stamp = stamp_said v.site.clusters w said.said said.stands;
}

-- what is shown is of a peer of the table
pub shown_has : {E : Type 0} (shown : E → Option WirePacket) (rs : List (EndRow E)) (q : Peer) (w : WirePacket) → shown_from shown rs q ≡ Some w → has_peer rs q ≡ true
shown_has shown [] q w is = absurd (none_some w is)
  where
    none_some : (w : WirePacket) → ◌≡◌ {A = Option WirePacket} None (Some w) → ⊥
    none_some w e = cc
shown_has {E} shown (r ∷ rs) q w is = by (same_peer r.peer q) is (λ e. shown_has shown rs q w e)
  where
    by : (t : Bool) → (if t then shown r.take else shown_from shown rs q) ≡ Some w → (shown_from shown rs q ≡ Some w → has_peer rs q ≡ true) → (if t then true else has_peer rs q) ≡ true
    by true e rest = refl
    by false e rest = rest e

-- what holds of an answer, from what does
pub on_ok : {T X : Type 0} {A B : Type 0} (r : Result T X) → OnOk r A → (A → B) → OnOk r B
on_ok (Ok x) h f = f h
on_ok (Err e) h f = tt

pub any_ok : {T X : Type 0} {B : Type 0} (r : Result T X) → B → OnOk r B
any_ok (Ok x) h = h
any_ok (Err e) h = tt

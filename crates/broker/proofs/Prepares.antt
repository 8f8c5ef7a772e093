-- What was prepared for the packet that was read is prepared for each one that its bytes stand for.
use Rattle.std.proofs.Common.{◌≡◌, arith}
use Rattle.std.specs.Prelude.{Option, Result, Ok, Err, OnOk}
use Rattle.geo_base.specs.declared.event.Event.{Event}
use Rattle.geo_base.specs.declared.event.Event.TheVariants as event
use Rattle.geo_base.specs.declared.memory.Memory.{Memory}
use Rattle.geo_base.specs.declared.packet.Packet.{Packet}
use Rattle.geo_base.specs.Broker.{Broker, Site}
use Rattle.geo_base.specs.Plan.{Plan}
use Rattle.broker_state.specs.State.{StateView, SameState}
use Rattle.broker_state.specs.Plan.{PlanView}
use Rattle.broker_state.specs.Room.{HasRoom}
use Rattle.broker_plans.specs.Prepared.{CanWrite}
use Rattle.broker_plans.specs.Storable.{IsWritable}
use Rattle.broker.specs.Events.{HasNextMarker, IsInRange, IsOfNode}
use Rattle.broker.specs.Input.{IsInputPrepared}
use Rattle.wire_ends.specs.declared.packet.WirePacket.{WirePacket}
use Rattle.broker.specs.Node.{IsReady, BrokerView, NodeHolds}
use Rattle.broker.proofs.Ready.{ready_of}

-- an event of the node has its numbers in range
pub in_range : (v : BrokerView) (e : Event) → IsOfNode v e → IsInRange v.site v.broker e
in_range v (event.Serve x c) of = of.client
in_range v (event.Drop x c) of = of.client
in_range v (event.Reset t x y) of = of.other
in_range v (event.Read t x y) of = of.other
in_range v (event.Take t x y f) of = of.other
in_range v (event.Receipt t x y f) of = of.other
in_range v (event.Snap t x) of = tt
in_range v (event.Offer t x n) of = tt
in_range v (event.Seek t x n to) of = tt
in_range v (event.Restart t x) of = tt
in_range v (event.Go c) of = tt
in_range v (event.Get c) of = tt
in_range v (event.Reconnect c) of = tt

-- the node before and after only room was made
pub ready_for : (v w : BrokerView) (f : Option Packet → Plan) (i : Option WirePacket) (p : PlanView) (r : Result (Unit {0}) Memory) → w.site ≡ v.site → w.broker ≡ v.broker
    → OnOk r (IsInputPrepared v.site v.broker f i p) → OnOk r (HasRoom w.room p) → OnOk r (IsReady w p)
ready_for v w f i p (Ok u) site broker is room = ready_of w (f is.said) p (rw (site, broker) is.prepared) room
ready_for v w f i p (Err m) site broker is room = tt

pub same_holds : (old new : StateView) → NodeHolds old → SameState old new → NodeHolds new
same_holds old new holds same = record { several = rw same.site holds.several; writable = rw (same.site, same.broker) holds.writable }

-- what it writes can be written
pub can_write : (h : Site) (b : Broker) → IsWritable h b → HasNextMarker h b → CanWrite h b
can_write h b kept next = record { kept = kept; marker = omega (arith, next) }

-- A stop in the midst of an event's writes leads to the machine's world after it.
use Rattle.std.proofs.Common.{◌≡◌, ℕ, ◌+◌, List, refl, sym, ◌∙◌, ap, subst}
use Rattle.std.proofs.lemmas.List.{map-set}
use Rattle.std.specs.Prelude.{Option, Some, None, Result, Ok, Err, OnErr, OnOk, slice_index_or, slice_set}
use Rattle.geo_base.specs.declared.event.Event.{Event}
use Rattle.geo_base.specs.declared.memory.Memory.{Memory}
use Rattle.geo_base.specs.declared.packet.Packet.{Packet}
use Rattle.geo_base.specs.Broker.{Broker, Site, no_broker}
use Rattle.geo_base.specs.Happening.{halts_planned}
use Rattle.geo_base.specs.Plan.{Plan, halted}
use Rattle.geo_base.specs.Planned.{planned}
use Rattle.geo_base.specs.Setup.{Setup}
use Rattle.geo_base.specs.World.{World}
use Rattle.script_text.specs.Scenario.{IsEvent}
use Rattle.broker.specs.Input.{StandsForInput}
use Rattle.broker.specs.Node.{BrokerView, SameNode}
use Rattle.frame_laws.specs.BytePackets.{StandsForPacket}
use Rattle.links.proofs.Found.{next_found, taken_found}
use Rattle.links.specs.declared.port.Port.{Port}
use Rattle.links.specs.Each.{Both}
use Rattle.wire_ends.specs.declared.packet.WirePacket.{WirePacket}
use Rattle.links.specs.Queues.{WireLinks, packet_in, taken_in}
use Rattle.kept_laws.proofs.Keeping.{broker_halted, counts}
use Rattle.kept_laws.specs.Events.{IsBrokers, node_of, plan_in, taken_in as machine_taken, takes_of}
use Rattle.kept_laws.specs.Kept.{Kept, broker_stopped}
use Rattle.kept_laws.specs.Standing.{Stands, limit_of}
use Rattle.kept_laws.specs.Reached.{Reached}
use Rattle.world.specs.declared.fault.RunFault.{RunFault}
use Rattle.world.specs.declared.fault.RunFault.TheVariants as fault
use Rattle.world.specs.declared.broker_ref.BrokerRef.{BrokerRef}
use Rattle.world.specs.Steps.{IsHalted, IsStopped, Leads, halted_at, broker_ref_at}
use Rattle.world.specs.World.{IsAt, SameWorld, WorldView, brokers_of, kept_of, node_at}
use Rattle.world.proofs.After.{after_halt}
use Rattle.world.proofs.Leading.{failed, plan_is, takes_stands}
use Rattle.world.proofs.Nodes.{are_set, next_is, same_world}
use Rattle.world.proofs.Places.{broker_is, in_range_is, node_below, node_is}

abbrev pub IsErr : Result (Unit {0}) RunFault → Type 0
IsErr (Ok unit) = ⊥
IsErr (Err f) = Unit {0}

pub ok_err : (unit : Unit {0}) (f : RunFault) → Ok unit ≡ Err f → ⊥
ok_err unit f is = subst (λ (r : Result (Unit {0}) RunFault). IsErr r) (sym is) tt

-- ---- at the broker

pub halts : (old new : WorldView) (n : ℕ) (taken : Option WirePacket) (e : Event) (k : ℕ) (u : BrokerView) (r : Result (Unit {0}) Memory) (i : Option WirePacket)
    → i ≡ taken → SameNode (node_at old.brokers n) u → new ≡ record old { brokers = slice_set old.brokers n u }
    → ((v : Option Packet) → StandsForInput (node_at old.brokers n).site.clusters i v → OnOk r (u.broker ≡ halted_at (node_at old.brokers n) e k v))
    → OnOk r (IsHalted n taken e k old new)
halts old new n taken e k u (Err m) i there same is f = tt
halts old new n taken e k u (Ok unit) i there same is f =
    let names = (node_at old.brokers n).site.clusters in
    rw is (record {
      broker = λ v both.
          map-set (λ (c : BrokerView). c.broker) old.brokers n u
          ∙ ap (λ (c : Broker). slice_set (brokers_of old.brokers) n c)
          (f v (subst (λ (j : Option WirePacket). StandsForInput names j v) (sym there) (next_is names taken v both)));
      same = λ s h. are_set s old.brokers n u same h;
      rest = refl;
    })

pub halt_same : (old new : WorldView) (n : ℕ) (u : BrokerView) (r : Result (Unit {0}) Memory) → SameNode (node_at old.brokers n) u
    → new ≡ record old { brokers = slice_set old.brokers n u } → OnErr r (u.broker ≡ (node_at old.brokers n).broker) → OnErr r (SameWorld old new)
halt_same old new n u (Ok unit) same is broker = tt
halt_same old new n u (Err m) same is broker = same_world old new n u same broker is

pub stopped : (old mid new : WorldView) (n : ℕ) (takes : Port) (e : Event) (k : ℕ) → IsHalted n (packet_in old.links takes) e k old mid
    → new ≡ record mid { links = taken_in takes mid.links; events = mid.events + 1 } → IsStopped n takes e k old new
stopped old mid new n takes e k h is =
    let all : new ≡ record old { brokers = mid.brokers; links = taken_in takes old.links; events = old.events + 1 } =
    is ∙ ap (λ (b : WorldView). record b { links = taken_in takes b.links; events = b.events + 1 }) h.rest in
    rw all (record {
      kept = λ found v both.
          ap (λ (bs : List Broker). record (kept_of old) { brokers = bs; links = taken_in takes old.links; events = old.events + 1 })
          (h.broker v (subst (λ (o : Option WirePacket). Both (StandsForPacket (node_at old.brokers n).site.clusters) o v) (sym (next_found old.links takes found)) both))
          ∙ ap (λ (ls : WireLinks). record (kept_of old) { brokers = slice_set (brokers_of old.brokers) n (halted_at (node_at old.brokers n) e k v); links = ls; events = old.events + 1 })
          (taken_found old.links takes found);
      same = h.same;
    })

-- ---- in the world

halts_to : (s : Setup) (b : WorldView) (w : World) (e : Event) (k : ℕ) → IsAt s b → IsBrokers e → IsEvent s e → Stands s (kept_of b) w
    → halted_at (node_at b.brokers (node_of s e)) e k (machine_taken s w e) ≡ halted s.per_ledger (slice_index_or (kept_of b).brokers (node_of s e) no_broker) k (plan_in s w e)
halts_to s b w e k h brokers here stands =
    let v = node_at b.brokers (node_of s e) in
    ap (λ (q : Plan). halted v.site.per_ledger v.broker k q) (plan_is s b w e h brokers here stands)
    ∙ ap (λ (g : Site). halted g.per_ledger v.broker k (plan_in s w e)) (node_is s b e h brokers here).site
    ∙ ap (λ (c : Broker). halted s.per_ledger c k (plan_in s w e)) (sym (broker_is b.brokers (node_of s e) (node_below s b e h brokers here)))

pub leads_halted : (s : Setup) (old new : WorldView) (w : World) (e : Event) (broker_ref : BrokerRef) (n k : ℕ) (unit : Unit {0}) → IsAt s old → IsBrokers e → IsEvent s e
    → broker_ref ≡ broker_ref_at s old.links e → n ≡ node_of s e → Reached s w → Stands s (kept_of old) w → IsStopped n broker_ref.takes e k old new
    → limit_of (old.events + 1) old.idle old.frame_bytes ≡ None → Leads s old new (halts_planned s w k (planned s w e)) (Ok unit)
leads_halted s old new w e broker_ref n k unit h brokers here is number reached stands stop low =
    let next = halts_planned s w k (planned s w e) in let m : ℕ = node_of s e in
    let takes = (broker_ref_at s old.links e).takes in
    let stop_there : IsStopped m takes e k old new = subst (λ (i : ℕ). IsStopped i takes e k old new) number (subst (λ (a : BrokerRef). IsStopped n a.takes e k old new) is stop) in
    let after = broker_halted s (kept_of old) w k e brokers (in_range_is s e here) stands in
    let becomes : kept_of new ≡ broker_stopped (kept_of old) m (takes_of e) (halted s.per_ledger (slice_index_or (kept_of old).brokers m no_broker) k (plan_in s w e)) =
    stop_there.kept refl (machine_taken s w e) (takes_stands s old w e h brokers here reached stands)
    ∙ ap (λ (c : Broker). broker_stopped (kept_of old) m (takes_of e) c) (halts_to s old w e k h brokers here stands) in
    record {
      done = (subst (λ (a : Kept). Stands s a next) (sym becomes) after, counts s _ next after ∙ low);
      large = λ i past. absurd (ok_err unit (fault.TooLarge i) past);
    }

pub leads_large : (s : Setup) (old new : WorldView) (w : World) (e : Event) (k : ℕ) (f : RunFault) → IsBrokers e → IsEvent s e → Stands s (kept_of old) w
    → ((i : ℕ) → failed f ≡ failed (fault.TooLarge i) → limit_of (old.events + 1) old.idle old.frame_bytes ≡ Some i)
    → Leads s old new (halts_planned s w k (planned s w e)) (Err f)
leads_large s old new w e k f brokers here stands large = record {
  done = tt;
  large = λ i past. counts s _ (halts_planned s w k (planned s w e)) (broker_halted s (kept_of old) w k e brokers (in_range_is s e here) stands) ∙ large i past;
}

-- and the next event can begin
pub at_halted : (s : Setup) (old new : WorldView) (e : Event) (broker_ref : BrokerRef) (n k : ℕ) → IsAt s old → IsBrokers e → IsEvent s e → broker_ref ≡ broker_ref_at s old.links e → n ≡ node_of s e
    → IsStopped n broker_ref.takes e k old new → limit_of (old.events + 1) old.idle old.frame_bytes ≡ None → IsAt s new
at_halted s old new e broker_ref n k h brokers here is number stop low =
    after_halt s old new k e (Ok tt) h (λ w reached stands. leads_halted s old new w e broker_ref n k tt h brokers here is number reached stands stop low) (stop.same s h.brokers) tt

pub same_still : (b : WorldView) → SameWorld b b
same_still b = record { kept = refl; brokers = λ s h. h }

-- An event that is prepared at its broker, and not done.
use Rattle.std.proofs.Common.{◌≡◌, ℕ, false, subst}
use Rattle.geo_base.specs.declared.event.Event.{Event}
use Rattle.geo_base.specs.Setup.{Setup}
use Rattle.geo_base.specs.World.{World, node}
use Rattle.broker.specs.Node.{IsReady}
use Rattle.broker_state.specs.Plan.{PlanView}
use Rattle.links.specs.Queues.{packet_in}
use Rattle.kept_laws.specs.Events.{IsBrokers, node_of, plan_in}
use Rattle.kept_laws.specs.Kept.{Kept}
use Rattle.kept_laws.specs.Reached.{Reached}
use Rattle.kept_laws.specs.Standing.{Stands}
use Rattle.world.specs.declared.broker_ref.BrokerRef.{BrokerRef}
use Rattle.world.specs.Foreseen.{IsForeseen, IsHalfDone}
use Rattle.world.specs.World.{IsAt, SameWorld, WorldView, kept_of, node_at}
use Rattle.script_text.specs.Scenario.{IsEvent}
use Rattle.geo_base.specs.declared.memory.Memory.{Memory}
use Rattle.std.specs.Prelude.{Result, Ok, Err, OnOk}
use Rattle.world.specs.Steps.{PreparesAt, broker_ref_at}
use Rattle.world.proofs.Acting.{IsPlanned, plans, prepared_there}
use Rattle.world.proofs.Leading.{prepared_plan, prepared_same, stands_same}
use Rattle.world.proofs.Places.{at_same, node_below, node_is, stands_at}

pub foreseen : (s : Setup) (old mid : WorldView) (w : World) (e : Event) (broker_ref : BrokerRef) (n : ℕ) (p : PlanView) → IsPlanned s old mid e broker_ref n p
    → Reached s w → Stands s (kept_of old) w → IsForeseen s w e (node_at mid.brokers (node_of s e)) p
foreseen s old mid w e broker_ref n p h reached stands =
    let at = at_same s old mid h.at h.same in record {
      node = node_is s mid e at h.brokers h.scripted;
      broker = stands_at s mid w (node_of s e) (stands_same s old mid w h.same stands) (node_below s mid e at h.brokers h.scripted);
      prepared = prepared_same s old mid e (plan_in s w e) p h.at h.same h.brokers h.scripted (prepared_plan s old w e p h.at h.brokers h.scripted reached stands (prepared_there s old mid e broker_ref n p h));
    }

-- the first half of an event that is not idle
pub half_done : (s : Setup) (old mid : WorldView) (e : Event) (broker_ref : BrokerRef) (n : ℕ) (p : PlanView) → IsPlanned s old mid e broker_ref n p → IsReady (node_at mid.brokers n) p → p.idle ≡ false
    → IsHalfDone s mid e p
half_done s old mid e broker_ref n p h ready busy = record {
  foreseen = λ w reached stands. foreseen s old mid w e broker_ref n p h reached (subst (λ (k : Kept). Stands s k w) h.same.kept stands);
  ready = subst (λ (m : ℕ). IsReady (node_at mid.brokers m) p) h.number ready;
  busy = busy;
}

-- and of a stop in its midst, idle or not
pub foreseen_halt : (s : Setup) (old mid : WorldView) (e : Event) (broker_ref : BrokerRef) (n : ℕ) (p : PlanView) (r : Result (Unit {0}) Memory) → IsAt s old → SameWorld old mid → IsBrokers e → IsEvent s e
    → broker_ref ≡ broker_ref_at s old.links e → n ≡ node s broker_ref.topic broker_ref.cluster → OnOk r (PreparesAt old n (packet_in old.links broker_ref.takes) e p)
    → OnOk r ((w : World) → Reached s w → Stands s (kept_of mid) w → IsForeseen s w e (node_at mid.brokers (node_of s e)) p)
foreseen_halt s old mid e broker_ref n p (Err m) at same brokers scripted there number prepared = tt
foreseen_halt s old mid e broker_ref n p (Ok unit) at same brokers scripted there number prepared = λ w reached stands.
    foreseen s old mid w e broker_ref n p (plans s old mid e broker_ref n p at same brokers scripted there number prepared) reached (subst (λ (k : Kept). Stands s k w) same.kept stands)

-- An event of a broker that is prepared and not done.
use Rattle.std.specs.Prelude.{◌≡◌, true, false, Ok, Err, Bool, Result}
use Rattle.geo_base.specs.declared.event.Event.{Event}
use Rattle.geo_base.specs.Setup.{Setup}
use Rattle.geo_base.specs.World.{World, topic_at}
use Rattle.broker.specs.Events.{IsNodeOf}
use Rattle.broker.specs.Node.{BrokerView, IsReady}
use Rattle.broker_plans.specs.Prepared.{IsPrepared}
use Rattle.broker_state.specs.Plan.{PlanView}
use Rattle.world.specs.declared.fault.RunFault.{RunFault}
use Rattle.world.specs.World.{WorldView, kept_of, node_at}
use Rattle.kept_laws.specs.Events.{cluster_of, node_of, plan_in, topic_of}
use Rattle.kept_laws.specs.Reached.{Reached}
use Rattle.kept_laws.specs.Standing.{Stands}

-- v is the broker that the event is of, as the machine has it, and what is prepared is the machine's plan of it there
pub record IsForeseen (s : Setup) (w : World) (e : Event) (v : BrokerView) (p : PlanView) : Type 0 where
  pub node : IsNodeOf s (topic_of s e) (cluster_of e) v
  pub broker : v.broker ≡ topic_at s w (topic_of s e) (cluster_of e)
  pub prepared : IsPrepared v.site v.broker (plan_in s w e) p

-- The first half of an event is done: it is prepared at its broker, which has the room for it, and is not idle. The second half can
-- follow.
pub record IsHalfDone (s : Setup) (b : WorldView) (e : Event) (p : PlanView) : Type 0 where
  pub foreseen : (w : World) → Reached s w → Stands s (kept_of b) w → IsForeseen s w e (node_at b.brokers (node_of s e)) p
  pub ready : IsReady (node_at b.brokers (node_of s e)) p
  pub busy : p.idle ≡ false

-- the answer of an event that was enabled, by that of its second half
abbrev pub enabled : Result (Unit {0}) RunFault → Result Bool RunFault
enabled (Ok unit) = Ok true
enabled (Err f) = Err f

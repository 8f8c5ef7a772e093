-- A broker of a topic at a cluster as its callers see it.
use Rattle.std.specs.Prelude.{◌≡◌, ◌≤◌, ℕ, Bool, List, length}
use Rattle.geo_base.specs.declared.packet.WireOut.{WireOut}
use Rattle.geo_base.specs.Broker.{Broker, Site}
use Rattle.geo_base.specs.Plan.{Plan, done}
use Rattle.durable_parts.specs.declared.durable.Durable.{Durable}
use Rattle.broker_state.specs.State.{StateView}
use Rattle.broker_state.specs.Fits.{PlanFits}
use Rattle.broker_state.specs.Plan.{PlanView, plan_in}
use Rattle.broker_state.specs.Room.{HasRoom, Room}
use Rattle.broker_plans.specs.Prepared.{ArePackets}
use Rattle.broker_plans.specs.Storable.{AreStorable, IsWritable, PlanStorable}

-- The topic's number, what the broker knows of the setup, the names of the topic's subscriptions by their numbers in events, the
-- machine's state, and how many steps find memory.
pub record BrokerView : Type 0 where
  pub topic : ℕ
  pub site : Site
  pub names : List (List ℕ)
  pub broker : Broker
  pub room : Room

-- a snapshot asks other clusters, so there are at least two; and all that the broker keeps can be written again
pub record NodeHolds (b : StateView) : Type 0 where
  pub several : 2 ≤ length b.site.clusters
  pub writable : IsWritable b.site b.broker

-- the same broker of the same topic, in another state
pub record SameNode (old new : BrokerView) : Type 0 where
  pub topic : new.topic ≡ old.topic
  pub site : new.site ≡ old.site
  pub names : new.names ≡ old.names
  pub replicators : length new.broker.replicators ≡ length old.broker.replicators
  pub sessions : length new.broker.sessions ≡ length old.broker.sessions

-- A prepared event can be committed: its steps find their memory, they fit the state, and what they store can be written again.
pub record IsReady (v : BrokerView) (p : PlanView) : Type 0 where
  pub room : HasRoom v.room p
  pub fits : PlanFits v.site.per_ledger v.broker p
  pub stored : PlanStorable v.site (plan_in v.broker p)

-- An event was done: the machine's plan of it is what became of the state and what is to be sent.
pub record IsDone (old new : BrokerView) (plan : Plan) (is_idle : Bool) (packets : List WireOut) : Type 0 where
  pub broker : new.broker ≡ done old.site.per_ledger old.broker plan
  pub idle : is_idle ≡ plan.idle
  pub sent : ArePackets old.site.clusters plan.sent packets

-- What survived a stop of the broker of a site: its entries can be written again.
pub record IsDurableOf (h : Site) (d : Durable) : Type 0 where
  pub own : d.own ≡ h.own
  pub per_ledger : d.store.per_ledger ≡ h.per_ledger
  pub replicators : length d.replicators ≡ length h.clusters
  pub entries : AreStorable h d.store.entries

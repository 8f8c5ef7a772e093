-- A prepared event, and the plan that it is in the state that it was prepared for.
use Rattle.std.specs.Prelude.{◌≡◌, ℕ, Bool, true, false, List, [], ◌∷◌, ◌++◌, map, take, Option, Some, None, slice_get}
use Rattle.geo_base.specs.declared.entry.Entry.{Entry}
use Rattle.geo_base.specs.declared.packet.WireOut.{WireOut}
use Rattle.geo_base.specs.Broker.{Broker}
use Rattle.geo_base.specs.Plan.{Plan}
use Rattle.geo_base.specs.Subscription.{Subscription}
use Rattle.broker_state.specs.declared.change.StateChange.{StateChange}
use Rattle.broker_state.specs.declared.change.StateChange.TheVariants as state_change
use Rattle.broker_state.specs.declared.write.StateWrite.{StateWrite}
use Rattle.broker_state.specs.declared.write.StateWrite.TheVariants as state_write
use Rattle.broker_state.specs.Writes.{machine_change, machine_write}

-- sub is the place of the subscription that the event is about, the next free one where the event creates it; it means nothing
-- where no step is of a subscription
pub record PlanView : Type 0 where
  pub idle : Bool
  pub sub : ℕ
  pub writes : List StateWrite
  pub changes : List StateChange
  pub sent : List WireOut

-- an event that is not enabled, and one about a subscription that does nothing yet
abbrev pub idle_view : PlanView
idle_view = record { idle = true; sub = 0; writes = []; changes = []; sent = [] }

-- no event is prepared yet: as one that is not enabled
abbrev pub IsEmptyPlan : PlanView → Type 0
IsEmptyPlan p = p ≡ idle_view

abbrev pub quiet_view : ℕ → PlanView
quiet_view k = record { idle = false; sub = k; writes = []; changes = []; sent = [] }

-- the name of the subscription that the event creates: it does so first
abbrev pub created_name : List StateWrite → List ℕ
created_name [] = []
created_name (state_write.Append e stream ∷ ws) = []
created_name (state_write.Create s latest ∷ ws) = s.sub.name
created_name (state_write.Delete ∷ ws) = []
created_name (state_write.Sub w ∷ ws) = []
created_name (state_write.ReplicatorAck y i ∷ ws) = []
created_name (state_write.SessionNumber y session ∷ ws) = []
created_name (state_write.Ledger ∷ ws) = []

abbrev pub name_or : Option Subscription → List StateWrite → List ℕ
name_or None ws = created_name ws
name_or (Some s) ws = s.name

-- the name of the subscription of an event that is about the one at a place
abbrev pub name_of : List Subscription → ℕ → List StateWrite → List ℕ
name_of ss k ws = name_or (slice_get ss k) ws

abbrev pub name_in : List Subscription → PlanView → List ℕ
name_in ss p = name_of ss p.sub p.writes

abbrev pub named_plan : List ℕ → List Entry → PlanView → Plan
named_plan n es p = record { idle = p.idle; writes = map (machine_write n es) p.writes; changes = map (machine_change n) p.changes; sent = [] }

-- the plan of a prepared event, without what it sends
abbrev pub plan_in : Broker → PlanView → Plan
plan_in b p = named_plan (name_in b.subs p) b.entries p

-- a stop after the first k durable writes, as an event: a ledger opens, and what is in memory is lost
abbrev pub halted_view : ℕ → PlanView → PlanView
halted_view k p = record { idle = false; sub = p.sub; writes = take k p.writes ++ state_write.Ledger ∷ []; changes = state_change.Forget ∷ []; sent = [] }

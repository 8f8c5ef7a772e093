-- An event at a broker is a plan: its durable writes in order, then its changes in memory, then what it sends. So a stop
-- between two durable writes is a beginning of the same list (own: a broker of Pulsar, too, writes to BookKeeper or to its
-- metadata store first and answers when that is done, and may fail between any two writes).
use Rattle.std.specs.Prelude.{ℕ, Bool, true, false, if◌then◌else◌, List, [], ◌∷◌, ◌++◌, take, Option, Some, None}
use Rattle.geo_base.specs.Types.{Change, Out, Write}
use Rattle.geo_base.specs.Types.change
use Rattle.geo_base.specs.Types.write
use Rattle.geo_base.specs.Broker.{Broker, changed, written}

pub record Plan : Type 0 where
  pub idle : Bool
  pub writes : List Write
  pub changes : List Change
  pub sent : List Out

-- an event that is not enabled
abbrev pub idle_plan : Plan
idle_plan = record { idle = true; writes = []; changes = []; sent = [] }

abbrev pub plan_of : List Write → List Change → List Out → Plan
plan_of ws cs os = record { idle = false; writes = ws; changes = cs; sent = os }

-- changes in memory alone
abbrev pub quiet_plan : List Change → Plan
quiet_plan cs = plan_of [] cs []

-- what an event does with a value that it looks for; unless there is one, its plan is p
abbrev pub unless_found : {A : Type 0} → Plan → Option A → (A → Plan) → Plan
unless_found p None f = p
unless_found p (Some a) f = f a

abbrev pub all_written : ℕ → Broker → List Write → Broker
all_written per b [] = b
all_written per b (w ∷ ws) = all_written per (written per b w) ws

abbrev pub all_changed : Broker → List Change → Broker
all_changed b [] = b
all_changed b (c ∷ cs) = all_changed (changed b c) cs

-- the state after an event
abbrev pub done : ℕ → Broker → Plan → Broker
done per b p = all_changed (all_written per b p.writes) p.changes

-- the state after a stop after the first k durable writes of an event: what they wrote stays, memory is lost, nothing is
-- sent, and a new ledger opens, as at every start after the first (own, as a broker of Pulsar appends to no ledger that
-- another start of it wrote)
abbrev pub halted : ℕ → Broker → ℕ → Plan → Broker
halted per b k p = changed (all_written per b (take k p.writes ++ write.Ledger ∷ [])) change.Forget

-- an action done twice in a row, as one plan: the second time it looks at the state after the first. Writes after writes
-- and changes after changes are the two acts one after the other, since the writes of the second look at nothing that the
-- changes of the first touch (own: it lets a stop in a repeated packet be a beginning of one list, too)
abbrev pub twice : ℕ → Broker → (Broker → Plan) → Plan
twice per b f =
    let p = f b in let q = f (done per b p) in
    if p.idle then p else plan_of (p.writes ++ q.writes) (p.changes ++ q.changes) (p.sent ++ q.sent)

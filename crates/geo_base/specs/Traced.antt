-- What a trace tells of a run (own): each event that was not idle, by its number, and after it what the event wrote durably of
-- topics and of subscriptions with their cursors.
use Rattle.std.specs.Prelude.{ℕ, zero, suc, ◌+◌, ◌==◌, true, false, not, ◌&&◌, ◌||◌, if◌then◌else◌, List, [], ◌∷◌, ◌++◌, length, map, filter, take, Option, Some, None, is_some}
use Rattle.geo_base.specs.declared.planned.Planned.{Planned as PlannedWrite}
use Rattle.geo_base.specs.Types.{Cause, ClusterPosition, Content, Entry, Event, Position, Step, Write}
use Rattle.geo_base.specs.Types.cause
use Rattle.geo_base.specs.Types.content
use Rattle.geo_base.specs.Types.event
use Rattle.geo_base.specs.Types.marker
use Rattle.geo_base.specs.Types.step
use Rattle.geo_base.specs.Types.write
use Rattle.geo_base.specs.Broker.{Broker, Site, replicator_at, sub_named, written}
use Rattle.geo_base.specs.Cursor.{has, with_indexes}
use Rattle.geo_base.specs.Happening.{halts_planned}
use Rattle.geo_base.specs.Planned.{Planned, planned}
use Rattle.geo_base.specs.Position.{position_lt}
use Rattle.geo_base.specs.Run.{Limits, Ran, all_settle, budget, counting_round, is_idle, pairs, resets_of, round_of, settles, steps}
use Rattle.geo_base.specs.Replicator.{index_to_read}
use Rattle.geo_base.specs.Setup.{Setup}
use Rattle.geo_base.specs.Subscription.{Subscription}
use Rattle.geo_base.specs.Topic.{next_position, position_at}
use Rattle.geo_base.specs.TraceItems.{Act, Acks, Appends, Begins, Creates, Deletes, Item, Seeks, Writes, names_same}
use Rattle.geo_base.specs.World.{World, opening_world, site, topic_at}

-- ---- the snapshot that an own update tells: of the own snapshot markers in the topic with the update's positions of other
-- ---- clusters the one with the least local position, and the first of these

-- a snapshot marker by its local position and its index in the topic
pub record SnapshotAt : Type 0 where
  pub local : Position
  pub index : ℕ

abbrev pub snapshot_in : ℕ → ℕ → List ClusterPosition → ℕ → Entry → Content → List SnapshotAt
snapshot_in own n remote i e (content.Marked (marker.Snapshot id local named)) =
    if (e.ident.origin == own) && names_same n named remote then record { local = local; index = i } ∷ [] else []
snapshot_in own n remote i e c = []

-- i is the index of the first entry
abbrev pub snapshots_from : ℕ → ℕ → List ClusterPosition → ℕ → List Entry → List SnapshotAt
snapshots_from own n remote i [] = []
snapshots_from own n remote i (e ∷ es) = snapshot_in own n remote i e e.content ++ snapshots_from own n remote (i + 1) es

abbrev pub least_of : SnapshotAt → List SnapshotAt → SnapshotAt
least_of m [] = m
least_of m (k ∷ ks) = if position_lt k.local m.local then least_of k ks else least_of m ks

abbrev pub least_snapshot : List SnapshotAt → Option SnapshotAt
least_snapshot [] = None
least_snapshot (m ∷ ms) = Some (least_of m ms)

abbrev pub snapshot_position : List ℕ → Option SnapshotAt → Option Position
snapshot_position ledgers None = None
snapshot_position ledgers (Some m) = Some (position_at ledgers m.index)

-- of an own update alone
abbrev pub snapshot_told : Site → Broker → Entry → Content → Option Position
snapshot_told h b e (content.Marked (marker.Update n remote)) =
    if e.ident.origin == h.own
    then snapshot_position b.ledgers (least_snapshot (snapshots_from h.own (length h.clusters) remote 0 b.entries))
    else None
snapshot_told h b e c = None

-- ---- what a write tells

abbrev pub cursor_of : Option Subscription → List ℕ
cursor_of None = []
cursor_of (Some v) = v.cursor

-- the indexes that are new to a set, ascending
abbrev pub gained : List ℕ → List ℕ → List ℕ
gained set is = filter (λ i. not (has set i)) (with_indexes [] is)

-- b is the broker before the write. A new kind or flag, a replicator's cursor, a session's number and a new ledger are not told
abbrev pub act_of : Site → Cause → Broker → Write → List Act
act_of h c b (write.Append e) = Appends (next_position h.per_ledger b.ledgers) e (snapshot_told h b e e.content) ∷ []
act_of h c b (write.Create n kind replicated latest) = Creates n latest ∷ []
act_of h c b (write.Delete n) = Deletes n ∷ []
act_of h c b (write.Acks n is) = Acks n (gained (cursor_of (sub_named b.subs n)) is) c ∷ []
act_of h c b (write.Seek n i) = Seeks n i ∷ []
act_of h c b w = []

abbrev pub acts_of : Site → Cause → Broker → List Write → List Act
acts_of h c b [] = []
acts_of h c b (w ∷ ws) = act_of h c b w ++ acts_of h c (written h.per_ledger b w) ws

-- ---- why an event acknowledges

-- where the entry stands that a replicator reads; where it reads none it writes nothing
abbrev pub position_read : Broker → Option ℕ → Position
position_read b None = record { ledger = 0; entry = 0 }
position_read b (Some i) = position_at b.ledgers i

-- b is the broker before the event. An offer acknowledges a marker, a read what an update of the other cluster says, and every
-- other event only what a client's packet says
abbrev pub cause_of : Broker → Event → Cause
cause_of b (event.Offer t x n) = cause.Marker
cause_of b (event.Read t x y) = cause.Update (position_read b (index_to_read (replicator_at b y).state (replicator_at b y) (length b.entries)))
cause_of b e = cause.Client

-- the cause of one write of an event that acknowledges for c
abbrev pub cause_for : Cause → Write → Cause
cause_for c (write.Acks n is) = c
cause_for c (write.Seek n i) = cause.Seek
cause_for c w = cause.Plain

abbrev pub planned_writes : Cause → List Write → List PlannedWrite
planned_writes c ws = map (λ w. record { write = w; cause = cause_for c w }) ws

-- ---- what an event tells

abbrev pub told_at : ℕ → ℕ → List Act → List Item
told_at t x acts = map (λ a. Writes t x a) acts

-- of its first k writes; an event of a client has no plan, and tells no write
abbrev pub planned_items : Setup → World → ℕ → Event → Option Planned → List Item
planned_items s w k e None = []
planned_items s w k e (Some p) =
    let b = topic_at s w p.topic p.cluster in
    told_at p.topic p.cluster (acts_of (site s p.topic p.cluster) (cause_of b e) b (take k p.plan.writes))

abbrev pub all_writes : Option Planned → ℕ
all_writes None = 0
all_writes (Some p) = length p.plan.writes

unfoldable pub event_items : Setup → World → Event → List Item
event_items s w e = if is_idle s w e then [] else Begins (w.events + 1) ∷ planned_items s w (all_writes (planned s w e)) e (planned s w e)

-- a stop after its first k writes is one event
unfoldable pub halt_items : Setup → World → ℕ → Event → List Item
halt_items s w k e =
    if (halts_planned s w k (planned s w e)).events == w.events then [] else Begins (w.events + 1) ∷ planned_items s w k e (planned s w e)

-- ---- what a run tells: an event that would pass a limit is not done, and tells nothing

abbrev pub unless_ended : Ran → List Item → List Item
unless_ended r items = if is_some r.ended then [] else items

abbrev pub settling_items : Limits → Setup → Ran → List Event → List Item
settling_items l s r [] = []
settling_items l s r (e ∷ es) = let r' = settles l s r e in unless_ended r' (event_items s r.world e) ++ settling_items l s r' es

-- rounds as settling has them: until one does nothing
abbrev pub rounds_items : ℕ → Limits → Setup → Ran → List Item
rounds_items zero l s r = []
rounds_items (suc more) l s r =
    let r' = all_settle l s r (round_of (pairs s)) in
    settling_items l s r (round_of (pairs s))
    ++ (elim (is_some r'.ended || (r'.world.events == r.world.events)) as (λ b. List Item) [ true ↦ [] | false ↦ rounds_items more l s (counting_round r') ])

-- a stop of everything is one event without writes
unfoldable pub step_items : Limits → Setup → Ran → Step → List Item
step_items l s r (step.Plain e) = unless_ended (steps l s r (step.Plain e)) (event_items s r.world e)
step_items l s r (step.Halt k e) = unless_ended (steps l s r (step.Halt k e)) (halt_items s r.world k e)
step_items l s r step.Settle =
    settling_items l s r (resets_of (pairs s)) ++ rounds_items (budget s r.world + 1) l s (all_settle l s r (resets_of (pairs s)))
step_items l s r step.Stop = unless_ended (steps l s r step.Stop) (Begins (r.world.events + 1) ∷ [])

abbrev pub items_from : Limits → Setup → Ran → List Step → List Item
items_from l s r [] = []
items_from l s r (e ∷ es) = step_items l s r e ++ items_from l s (steps l s r e) es

abbrev pub traced : Limits → Setup → List Step → List Item
traced l s es = items_from l s (record { world = opening_world s; ended = None }) es

-- What a replicator does with the entry that it reads.
use Rattle.std.specs.Prelude.{◌≡◌, ◌≢◌, ℕ, ◌+◌, ◌<◌, ◌≤◌, ◌^◌, true, List, [], ◌∷◌, ◌++◌, length, Option, Some, None, slice_get, ⊤}
use Rattle.geo_base.specs.declared.change.Change.TheVariants as change
use Rattle.geo_base.specs.declared.entry.Content.TheVariants as content
use Rattle.geo_base.specs.declared.entry.Entry.{Entry}
use Rattle.geo_base.specs.declared.marker.Marker.{Marker}
use Rattle.geo_base.specs.declared.snapshot.SnapshotBuilder.{SnapshotBuilder}
use Rattle.geo_base.specs.Broker.{Broker, Site, replicator_at, sub_named}
use Rattle.geo_base.specs.Plan.{Plan}
use Rattle.geo_base.specs.Topic.{accepts}
use Rattle.geo_base.specs.Updating.{handled, updated_indexes, update_writes}
use Rattle.replicator.specs.declared.reading.ReadOut.{ReadOut}
use Rattle.replicator.specs.declared.reading.ReadOut.TheVariants as reads
use Rattle.replicator.specs.Reading.{IsMarkerOf}
use Rattle.broker_state.specs.Plan.{IsEmptyPlan, PlanView, quiet_view}
use Rattle.broker_state.specs.Room.{HasRoom, Room}
use Rattle.broker_state.specs.declared.change.StateChange.TheVariants as state_change
use Rattle.broker_state.specs.declared.write.StateWrite.TheVariants as state_write
use Rattle.broker_plans.specs.Prepared.{IsPrepared}
use Rattle.broker_plans.specs.Storable.{IsStorable}
use Rattle.broker_plans.specs.Updates.{appending}
use Rattle.broker_tasks.specs.declared.act.ReadAct.{ReadAct}
use Rattle.broker_tasks.specs.declared.act.ReadAct.TheVariants as act

-- the replicator to y, another cluster, may read the entry at index i
pub record IsReading (h : Site) (b : Broker) (y i : ℕ) : Type 0 where
  pub other : y ≢ h.own
  pub cluster : y < length h.clusters
  pub replicator : y < length b.replicators
  pub next : (replicator_at b y).next ≤ i
  pub fits : i + 1 < 2 ^ 64

-- what the replicator to y reads: it may, and the entry is what it says
abbrev pub IsReadOut : Site → Broker → ℕ → ReadOut → Type 0
IsReadOut h b y reads.Idle = ⊤
IsReadOut h b y (reads.Skip i) = IsReading h b y i
IsReadOut h b y (reads.Mark i) = IsReading h b y i × IsMarkerOf y (slice_get b.entries i)
IsReadOut h b y (reads.Send i number) = IsReading h b y i × (i < length b.entries) × (number ≡ (replicator_at b y).next)

-- an entry is a marker
abbrev pub HasMarker : Option Entry → Marker → Type 0
HasMarker None m = ⊥
HasMarker (Some e) m = e.content ≡ content.Marked m

-- room for a marker, and for an index that a replicator is acknowledged or sends
pub record ReadRoom (room : Room) : Type 0 where
  pub entries : 1 ≤ room.entries
  pub streams : 1 ≤ room.streams
  pub replicators : 1 ≤ room.replicators

-- an event, and what the replicator to y has read at index i acknowledged after it
abbrev pub handled_view : ℕ → ℕ → PlanView → PlanView
handled_view y i p = record p { writes = p.writes ++ state_write.ReplicatorAck y i ∷ []; changes = p.changes ++ state_change.ReadTo y (i + 1) ∷ [] }

-- an event that begins with the write of a marker
abbrev pub marker_view : Entry → PlanView
marker_view e = record (quiet_view 0) { writes = appending e ∷ [] }

-- an event after which the snapshot that is being made is another one or none
abbrev pub told_behind : Option SnapshotBuilder → PlanView → PlanView
told_behind o p = record p { changes = p.changes ++ state_change.Building o ∷ [] }

-- a marker that the broker can store now
pub record IsReady (h : Site) (b : Broker) (e : Entry) : Type 0 where
  pub new : accepts b.entries e.ident ≡ true
  pub storable : IsStorable h e

-- an update of y that has an effect: the subscription of name n acknowledges entries up to index j
pub record IsAcknowledging (h : Site) (b : Broker) (y i : ℕ) (p : Plan) (n : List ℕ) (j : ℕ) : Type 0 where
  pub plan : p ≡ handled y i (update_writes h b n (updated_indexes y 0 (j + 1) b.entries) (sub_named b.subs n)) (change.Acked n ∷ [])
  pub within : j < length b.entries

-- what is done with an entry is the plan p: it is prepared, or it is such an update, and nothing is prepared yet
abbrev pub IsRead : Site → Broker → Room → ℕ → ℕ → Plan → ReadAct → PlanView → Type 0
IsRead h b room y i p act.Ready q = IsPrepared h b p q × HasRoom room q
IsRead h b room y i p (act.Acknowledges n j) q = IsAcknowledging h b y i p n j × IsEmptyPlan q

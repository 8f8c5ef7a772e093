-- Replicators as their owner sees them: the machine's replicators, and the room beside them.
use Rattle.std.specs.Prelude.{◌≡◌, ℕ, ◌+◌, ◌≤◌, ◌<◌, ◌^◌, List, length, map, slice_index_or, ⊤}
use Rattle.geo_base.specs.declared.replicator.ReplicatorState.TheVariants as replicator_state
use Rattle.geo_base.specs.Cursor.{with_index}
use Rattle.geo_base.specs.Replicator.{Replicator, replicator_reset, replicator_restarted, replicator_sent, without_number}
use Rattle.broker_state.specs.declared.replicator_row.ReplicatorStep.{ReplicatorStep}
use Rattle.broker_state.specs.declared.replicator_row.ReplicatorStep.TheVariants as replicator_step

abbrev pub stepped : ReplicatorStep → Replicator → Replicator
stepped (replicator_step.Acknowledge i) s = record s { cursor = with_index s.cursor i }
stepped (replicator_step.Session n) s = record s { session = n }
stepped replicator_step.Begin s = replicator_reset s
stepped replicator_step.Opened s = record s { state = replicator_state.Open }
stepped (replicator_step.Pend i) s = replicator_sent i s
stepped (replicator_step.ReadTo i) s = record s { read_index = i }
stepped (replicator_step.Unpend n) s = record s { pending = without_number s.pending n }

-- a cursor can hold an index, and no more entries are sent than read
abbrev pub StepFits : ReplicatorStep → Replicator → Type 0
StepFits (replicator_step.Acknowledge i) s = i + 1 < 2 ^ 64
StepFits (replicator_step.Session n) s = ⊤
StepFits replicator_step.Begin s = ⊤
StepFits replicator_step.Opened s = ⊤
StepFits (replicator_step.Pend i) s = (s.next ≤ i) × (i + 1 < 2 ^ 64)
StepFits (replicator_step.ReadTo i) s = s.next ≤ i
StepFits (replicator_step.Unpend n) s = ⊤

-- an index that is acknowledged takes a place in the cursor, one that is sent takes one among those that await a receipt
abbrev pub room_needed : ReplicatorStep → ℕ
room_needed (replicator_step.Acknowledge i) = 1
room_needed (replicator_step.Session n) = 0
room_needed replicator_step.Begin = 0
room_needed replicator_step.Opened = 0
room_needed (replicator_step.Pend i) = 1
room_needed (replicator_step.ReadTo i) = 0
room_needed (replicator_step.Unpend n) = 0

pub record RowHolds (room spare pending : ℕ) : Type 0 where
  pub in_cursor : room ≤ spare
  pub in_pending : room ≤ pending

-- the cluster that sends, and the one that it sends to
pub record Ends : Type 0 where
  pub own : ℕ
  pub remote : ℕ

pub record ReplicatorRowView : Type 0 where
  pub replicator : Replicator
  pub ends : Ends
  pub room : ℕ

abbrev pub replicators_of : List ReplicatorRowView → List Replicator
replicators_of rs = map (λ (r : ReplicatorRowView). r.replicator) rs

abbrev pub ends_of : List ReplicatorRowView → List Ends
ends_of rs = map (λ (r : ReplicatorRowView). r.ends) rs

abbrev pub ends_to : ℕ → ℕ → Ends
ends_to own remote = record { own = own; remote = remote }

-- each is of the replicator of one cluster to the cluster whose number is its place
pub record AreOf (own : ℕ) (ends : List Ends) : Type 0 where
  pub each : (k : ℕ) (d : Ends) → k < length ends → slice_index_or ends k d ≡ ends_to own k

abbrev pub row_restarted : ReplicatorRowView → ReplicatorRowView
row_restarted r = record r { replicator = replicator_restarted r.replicator }

-- each replicator has room for so many
pub record AllHaveRoom (room : ℕ) (rs : List ReplicatorRowView) : Type 0 where
  pub each : (k : ℕ) (d : ReplicatorRowView) → k < length rs → room ≤ (slice_index_or rs k d).room

-- what was asked for is there, each replicator has room for what is spare, and is that of its place
pub record TableHolds (own room spare : ℕ) (rs : List ReplicatorRowView) : Type 0 where
  pub asked : room ≤ spare
  pub all : AllHaveRoom spare rs
  pub ends : AreOf own (ends_of rs)

pub record ReplicatorsView : Type 0 where
  pub own : ℕ
  pub replicators : List Replicator
  pub room : ℕ

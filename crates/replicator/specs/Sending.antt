-- What a replicator's replicator keeps beside its cursor: the session, where reading goes on, and what awaits a receipt.
use Rattle.std.specs.Prelude.{ℕ, ◌+◌, ◌≤◌, ◌<◌, ◌^◌, List}
use Rattle.std.specs.List.{All}
use Rattle.geo_base.specs.declared.replicator.Pending.{Pending}
use Rattle.geo_base.specs.declared.replicator.ReplicatorState.{ReplicatorState}
use Rattle.geo_base.specs.Replicator.{Replicator}

-- the session's number is durable, as the cursor is that stands beside it; the rest is in memory
pub record Sending : Type 0 where
  pub session : ℕ
  pub state : ReplicatorState
  pub read_index : ℕ
  pub next : ℕ
  pub pending : List Pending

-- the replicator of one cluster to another, and how many more entries may await a receipt without memory
pub record ReplicatorView : Type 0 where
  pub sending : Sending
  pub own : ℕ
  pub remote : ℕ
  pub room : ℕ

-- the machine's replicator that a cursor and the rest make up, and the rest of one
abbrev pub replicator_with : List ℕ → Sending → Replicator
replicator_with cursor s = record { cursor = cursor; session = s.session; state = s.state; read_index = s.read_index; next = s.next; pending = s.pending }

abbrev pub sending_of : Replicator → Sending
sending_of s = record { session = s.session; state = s.state; read_index = s.read_index; next = s.next; pending = s.pending }

-- what awaits a receipt, and how many more find room
pub record PendingEntries : Type 0 where
  pub items : List Pending
  pub spare : ℕ

abbrev pub number_of : Pending → ℕ
number_of p = p.number

-- so many more find room; what awaits a receipt was sent under a number below the next one, and no more entries were sent than
-- read; a cursor can hold each index
pub record ReplicatorHolds (room next read_index : ℕ) (pending : PendingEntries) : Type 0 where
  pub spare : room ≤ pending.spare
  pub numbers : All (λ (p : Pending). p.number < next) pending.items
  pub indexes : All (λ (p : Pending). p.index + 1 < 2 ^ 64) pending.items
  pub read : next ≤ read_index

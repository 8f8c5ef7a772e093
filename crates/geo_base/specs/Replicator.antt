-- The replicator of a cluster to another: a cursor over the own topic, and sessions in which entries are sent one by one
-- (geo-replication manual: a replicator reads the topic through a durable cursor and publishes to the remote topic;
-- numbered sessions are own: they tell packets of an earlier connection apart).
use Rattle.std.specs.Prelude.{ℕ, ◌+◌, ◌-◌, ◌==◌, if◌then◌else◌, List, [], ◌∷◌, ◌++◌, Option, Some, None}
use Rattle.geo_base.specs.Types.{Pending, ReplicatorState}
use Rattle.geo_base.specs.Types.replicator_state
use Rattle.geo_base.specs.Cursor.{next_open}

-- cursor and session are durable, the rest is in memory
pub record Replicator : Type 0 where
  pub cursor : List ℕ
  pub session : ℕ
  pub state : ReplicatorState
  pub read_index : ℕ
  pub next : ℕ
  pub pending : List Pending

abbrev pub new_replicator : Replicator
new_replicator = record { cursor = []; session = 0; state = replicator_state.Closed; read_index = 0; next = 0; pending = [] }

-- what a restart leaves of it
abbrev pub replicator_restarted : Replicator → Replicator
replicator_restarted s = record { cursor = s.cursor; session = s.session; state = replicator_state.Closed; read_index = 0; next = 0; pending = [] }

-- a new session begins: everything that the cursor lacks is to be sent again
abbrev pub replicator_reset : Replicator → Replicator
replicator_reset s = record { cursor = s.cursor; session = s.session; state = replicator_state.Opening; read_index = 0; next = 0; pending = [] }

-- the entry at an index was sent under the next number
abbrev pub replicator_sent : ℕ → Replicator → Replicator
replicator_sent i s = record s { read_index = i + 1; next = s.next + 1; pending = s.pending ++ record { number = s.next; index = i } ∷ [] }

-- the least index at or after the read index that the cursor lacks, in a topic of n entries; none is read before the session is open
abbrev pub index_to_read : ReplicatorState → Replicator → ℕ → Option ℕ
index_to_read replicator_state.Open s n = next_open s.cursor s.read_index (n - s.read_index)
index_to_read replicator_state.Opening s n = None
index_to_read replicator_state.Closed s n = None

-- the index that was sent under a number
abbrev pub pending_index : List Pending → ℕ → Option ℕ
pending_index [] n = None
pending_index (p ∷ ps) n = if p.number == n then Some p.index else pending_index ps n

abbrev pub without_number : List Pending → ℕ → List Pending
without_number [] n = []
without_number (p ∷ ps) n = if p.number == n then ps else p ∷ without_number ps n

-- What is known of the snapshots in a broker's topic.
use Rattle.std.specs.Prelude.{◌≡◌, ℕ, ◌+◌, ◌*◌, List, length}
use Rattle.broker.specs.Node.{BrokerView}
use Rattle.trace_runs.specs.SnapshotTables.{Snapshots, TellsBeginning, table_at}

-- a broker's number among all, as the machine numbers them
abbrev pub number_of : BrokerView → ℕ
number_of v = v.topic * length v.site.clusters + v.site.own

-- its table tells a beginning of its topic
abbrev pub Knows : BrokerView → List Snapshots → Type 0
Knows v ts = TellsBeginning (length v.site.clusters) (table_at ts (number_of v)) v.broker.entries

-- it tells one still, and the other brokers' tables are as they were
pub record HaveSeen (v : BrokerView) (old new : List Snapshots) : Type 0 where
  pub known : Knows v new
  pub others : (k : ℕ) → (k ≡ number_of v → ⊥) → table_at new k ≡ table_at old k

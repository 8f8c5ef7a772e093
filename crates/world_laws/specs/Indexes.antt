-- The indexes that brokers keep in their cursors are those of entries that they store.
use Rattle.std.specs.Prelude.{◌≡◌, ℕ, ◌<◌, ◌≤◌, true, List, length}
use Rattle.std.specs.List.{AllByRecursion, sum}
use Rattle.geo_base.specs.declared.replicator.Pending.{Pending}
use Rattle.geo_base.specs.Broker.{Broker, replicator_at}
use Rattle.geo_base.specs.Cursor.{has}
use Rattle.geo_base.specs.Replicator.{Replicator}
use Rattle.geo_base.specs.Subscription.{Subscription}
use Rattle.geo_base.specs.World.{World, broker_at}

-- of the first n entries
abbrev pub AreBelow : ℕ → List ℕ → Type 0
AreBelow n set = (i : ℕ) → has set i ≡ true → i < n

-- what a replicator has acknowledged, and what it waits for a receipt of
pub record KeepsIndexes (n : ℕ) (v : Replicator) : Type 0 where
  pub acked : AreBelow n v.cursor
  pub pending : AllByRecursion (λ (p : Pending). p.index < n) v.pending

-- what a broker's subscriptions and replicators keep; and its ledgers have no more entries than its topic
pub record HasIndexes (b : Broker) : Type 0 where
  pub ledgers : sum b.ledgers ≤ length b.entries
  pub subs : AllByRecursion (λ (v : Subscription). AreBelow (length b.entries) v.cursor) b.subs
  pub replicators : (y : ℕ) → KeepsIndexes (length b.entries) (replicator_at b y)

abbrev pub AllHaveIndexes : World → Type 0
AllHaveIndexes w = (z : ℕ) → HasIndexes (broker_at w z)

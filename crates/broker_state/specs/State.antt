-- A broker's state as its owner sees it.
use Rattle.std.specs.Prelude.{◌≡◌, ℕ, ◌-◌, ◌^◌, min, List, [], length}
use Rattle.topic_store.specs.Table.{Row, Tells}
use Rattle.geo_base.specs.declared.entry.Entry.{Entry}
use Rattle.geo_base.specs.Broker.{Broker, Site}
use Rattle.geo_base.specs.Topic.{next_marker}
use Rattle.broker_state.specs.Room.{Room}

-- what the broker knows of the setup, the machine's state, and the room
pub record StateView : Type 0 where
  pub site : Site
  pub broker : Broker
  pub room : Room

abbrev pub no_room : Room
no_room = record { entries = 0; streams = 0; places = 0; subs = []; replicators = 0 }

-- the sequence id of the cluster's next own marker: the greatest number where it would pass that
abbrev pub marker_number : ℕ → List Entry → ℕ
marker_number own es = min (next_marker own es) (2 ^ 64 - 1)

-- the state is that of the site's broker: its ledgers take so many entries, and there is a replicator of its own and a receiver for
-- each cluster
pub record IsBrokerOf (h : Site) (per own m n : ℕ) : Type 0 where
  pub per_ledger : per ≡ h.per_ledger
  pub sends : own ≡ h.own
  pub replicators : m ≡ length h.clusters
  pub receivers : n ≡ length h.clusters

-- and the table of duplicates tells the topic, and the next marker's sequence id is known
pub record StateHolds (h : Site) (per next own m n : ℕ) (rows : List Row) (es : List Entry) : Type 0 where
  pub told : Tells rows es
  pub marker : next ≡ marker_number h.own es
  pub of_site : IsBrokerOf h per own m n

-- the same state, with other room
pub record SameState (old new : StateView) : Type 0 where
  pub broker : new.broker ≡ old.broker
  pub site : new.site ≡ old.site

use Rattle.std.proofs.Common.{◌≡◌, ℕ, ◌<◌, [], length}
use Rattle.std.specs.Prelude.{slice_index_or}
use Rattle.geo_base.specs.World.{World, topic_at}
use Rattle.world_measures.specs.Places.{Tells}
use Rattle.world_measures.specs.Worlds.{HasBrokers}
use Rattle.world_measures.proofs.tables.TopicTables.of.Given as goal

-- those of the clusters before this one
abbrev pub invariant-loop-cluster : goal.invariant-loop-cluster
invariant-loop-cluster l = record {
  many : length l.tables.items ≡ l.cluster;
  each : (w : World) → HasBrokers w l.world → (y : ℕ) → y < l.cluster → Tells (slice_index_or l.tables.items y []) (topic_at l.scenario.setup w l.topic y).entries;
}

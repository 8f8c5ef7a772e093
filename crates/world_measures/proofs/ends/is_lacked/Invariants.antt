use Rattle.std.proofs.Common.{◌≡◌, ℕ, ◌-◌, ◌==◌, not, length}
use Rattle.std.specs.Prelude.{◌&&◌}
use Rattle.std.specs.List.{list_any, range_with_len}
use Rattle.geo_base.specs.Entry.{goes_to}
use Rattle.geo_base.specs.Setup.{Setup}
use Rattle.geo_base.specs.World.{World, topic_at}
use Rattle.loss_laws.specs.Lost.{stands}
use Rattle.world_measures.specs.Places.{TellAll}
use Rattle.world_measures.proofs.ends.is_lacked.Given as goal

abbrev pub invariant-loop-cluster : goal.invariant-loop-cluster
invariant-loop-cluster l = (s : Setup) (w : World) (t : ℕ) → TellAll s w t l.tables
    → list_any (λ y. not (l.source == y) && (goes_to y l.entry.to && not (stands (topic_at s w t y).entries l.entry.ident))) (range_with_len l.cluster (length l.tables - l.cluster))
    ≡ list_any (λ y. not (l.source == y) && (goes_to y l.entry.to && not (stands (topic_at s w t y).entries l.entry.ident))) (range_with_len 0 (length l.tables))

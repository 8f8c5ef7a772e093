use Rattle.std.proofs.Common.{ℕ, ◌≤◌, take}
use Rattle.geo_base.specs.Setup.{Setup}
use Rattle.geo_base.specs.World.{World}
use Rattle.loss_laws.specs.Lost.{chosen}
use Rattle.world_measures.specs.Ends.{is_end}
use Rattle.world_measures.specs.Named.{IsNamed}
use Rattle.world_measures.specs.Places.{TellAll}
use Rattle.world_measures.proofs.ends.ends.Given as goal

-- those among the entries before the index
abbrev pub invariant-loop-index : goal.invariant-loop-index
invariant-loop-index l = record {
  those : (s : Setup) (w : World) (t : ℕ) → TellAll s w t l.tables
      → IsNamed l.fn.gone.with_names l.broker.site.clusters (chosen (is_end s w t l.gone.cluster l.end) 0 (take l.index l.broker.broker.entries)) l.named;
  few : l.named.count ≤ l.index;
}

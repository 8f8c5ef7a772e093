use Rattle.std.proofs.Common.{◌≤◌, take}
use Rattle.loss_laws.specs.Lost.{chosen, is_missing}
use Rattle.world_measures.specs.Named.{IsNamed}
use Rattle.world_measures.specs.Places.{Tells}
use Rattle.world_measures.proofs.missing.missing.Given as goal

-- those among the entries before the index
abbrev pub invariant-loop-index : goal.invariant-loop-index
invariant-loop-index l = record {
  those : Tells l.table l.there.broker.entries
      → IsNamed l.gone.with_names l.there.site.clusters (chosen (is_missing l.gone.cluster l.there.site.own l.there.broker) 0 (take l.index l.broker.broker.entries)) l.named;
  few : l.named.count ≤ l.index;
}

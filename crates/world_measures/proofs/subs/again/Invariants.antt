use Rattle.std.proofs.Common.{◌≤◌, take}
use Rattle.geo_base.specs.Broker.{Broker}
use Rattle.loss_laws.specs.Lost.{chosen, comes_again}
use Rattle.world_measures.specs.Named.{IsNamed}
use Rattle.world_measures.specs.Places.{Tells}
use Rattle.world_measures.proofs.subs.again.Given as goal

-- those among the entries before the index
abbrev pub invariant-loop-index : goal.invariant-loop-index
invariant-loop-index l = record {
  those : (b : Broker) → Tells l.table b.entries
      → IsNamed l.fn.gone.with_names l.there.site.clusters (chosen (comes_again b l.sub.sub l.there.broker) 0 (take l.index l.there.broker.entries)) l.named;
  few : l.named.count ≤ l.index;
}

use Rattle.std.proofs.Common.{◌≡◌, drop}
use Rattle.geo_base.specs.Laws.{of_origin}
use Rattle.observe.proofs.brought.next_of.Given as goal

abbrev pub invariant-loop-index : goal.invariant-loop-index
invariant-loop-index l = of_origin l.origin (drop l.index l.entries) ≡ of_origin l.origin (drop l.from l.entries)

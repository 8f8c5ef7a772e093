use Rattle.std.proofs.Common.{◌≡◌}
use Rattle.geo_base.specs.TraceItems.{names_same}
use Rattle.audit.proofs.named.name_same.Given as goal

abbrev pub invariant-loop-left : goal.invariant-loop-left
invariant-loop-left l = names_same l.left l.remote l.other ≡ names_same l.clusters l.remote l.other

abbrev pub decreases-loop-left : goal.decreases-loop-left
decreases-loop-left l = l.left

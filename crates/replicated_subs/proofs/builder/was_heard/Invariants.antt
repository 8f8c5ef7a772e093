use Rattle.std.proofs.Common.{◌≡◌, drop}
use Rattle.geo_base.specs.Cursor.{has}
use Rattle.replicated_subs.proofs.builder.was_heard.Given as goal

abbrev pub invariant-loop-other : goal.invariant-loop-other
invariant-loop-other l = has l.heard l.cluster ≡ has (drop l.other-index l.heard) l.cluster

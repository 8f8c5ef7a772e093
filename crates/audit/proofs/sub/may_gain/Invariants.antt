use Rattle.std.proofs.Common.{◌≡◌, drop}
use Rattle.audit.specs.Sub.{may_gain}
use Rattle.audit.proofs.sub.may_gain.Given as goal

abbrev pub invariant-loop-range : goal.invariant-loop-range
invariant-loop-range l = may_gain l.cursor.indexes l.len (drop l.range-index l.ranges) ≡ may_gain l.cursor.indexes l.len l.ranges

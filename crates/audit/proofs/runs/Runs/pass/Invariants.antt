use Rattle.std.proofs.Common.{◌≡◌, drop}
use Rattle.cursor_acks.specs.Ranges.{indexes_of}
use Rattle.audit.specs.Runs.{all_acked_by}
use Rattle.audit.proofs.runs.Runs.pass.Given as goal

abbrev pub invariant-loop-range : goal.invariant-loop-range
invariant-loop-range l = all_acked_by l.self.what l.entries (indexes_of (drop l.range-index l.ranges)) ≡ all_acked_by l.self.what l.entries (indexes_of l.ranges)

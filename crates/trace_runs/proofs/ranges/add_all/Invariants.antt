use Rattle.std.proofs.Common.{◌≡◌, ◌++◌, take, length}
use Rattle.geo_base.specs.TraceText.{shown_ranges}
use Rattle.trace_runs.specs.Ranges.{as_shown}
use Rattle.trace_runs.proofs.RangeTexts.{behind_commas}
use Rattle.trace_runs.proofs.ranges.add_all.Given as goal

-- the ranges so far and the rest make the whole
abbrev pub invariant-loop-range : goal.invariant-loop-range
invariant-loop-range l = record {
  so_far : l.lines ++ behind_commas (as_shown l.range-iterator) ≡ l.fn.lines ++ shown_ranges (as_shown l.ranges.list);
  begins : take (length l.fn.lines) l.lines ≡ l.fn.lines;
}

use Rattle.std.proofs.Common.{◌≡◌, ◌++◌, length, option_map}
use Rattle.cursor_acks.specs.declared.range.IndexRange.{IndexRange}
use Rattle.script_rows.specs.NameWords.{listed}
use Rattle.trace_lines.specs.Ranges.{last_of, ranges_from}
use Rattle.std.specs.Prelude.{None, List}
use Rattle.trace_lines.proofs.lines.ranges_of.Given as goal

-- the ranges so far and those of the rest make the whole, and the last one so far is known

abbrev pub invariant-loop-part : goal.invariant-loop-part
invariant-loop-part l =
    (option_map (λ (rs : List IndexRange). l.ranges ++ rs) (ranges_from l.last l.parts) ≡ ranges_from None (listed l.word)) × (l.last ≡ last_of l.ranges)

abbrev pub decreases-loop-part : goal.decreases-loop-part
decreases-loop-part l = length l.parts

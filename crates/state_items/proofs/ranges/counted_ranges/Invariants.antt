use Rattle.std.proofs.Common.{◌≡◌, ◌-◌, []}
use Rattle.state_items.specs.Reading.{many}
use Rattle.state_items.specs.Ranges.{AreIn, range_at}
use Rattle.state_items.proofs.ranges.counted_ranges.Given as goal

abbrev pub invariant-loop : goal.invariant-loop
invariant-loop l =
    (many (range_at l.entries) (l.count - l.counter) l.ranges.items l.rest ≡ many (range_at l.entries) l.count [] l.bytes)
    × AreIn l.entries l.ranges.items

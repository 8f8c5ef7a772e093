-- What a cursor may gain.
use Rattle.std.specs.Prelude.{ℕ, nat_lt, Bool, not, ◌&&◌, List}
use Rattle.std.specs.List.{list_all}
use Rattle.cursor_acks.specs.declared.range.IndexRange.{IndexRange}
use Rattle.cursor_acks.specs.Ranges.{indexes_of}
use Rattle.geo_base.specs.Cursor.{has}

-- the indexes of some ranges are below the topic's length, and none of them is acknowledged
abbrev pub may_gain : List ℕ → ℕ → List IndexRange → Bool
may_gain set len ranges = list_all (λ i. nat_lt i len && not (has set i)) (indexes_of ranges)

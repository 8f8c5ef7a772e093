-- Ranges of a cursor as a trace shows them.
use Rattle.std.specs.Prelude.{List, map}
use Rattle.cursor_acks.specs.declared.range.IndexRange.{IndexRange as CursorRange}
use Rattle.geo_base.specs.TraceText.{IndexRange}

abbrev pub as_shown : List CursorRange → List IndexRange
as_shown rs = map (λ (r : CursorRange). record { first = r.first; last = r.last }) rs

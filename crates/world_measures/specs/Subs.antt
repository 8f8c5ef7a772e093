-- What a cursor has, where there may be none.
use Rattle.std.specs.Prelude.{ℕ, List, [], Option, Some, None}
use Rattle.cursor_acks.specs.Acks.{AckSet}

abbrev pub indexes_of : Option AckSet → List ℕ
indexes_of None = []
indexes_of (Some a) = a.indexes

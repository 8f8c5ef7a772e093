-- How many places a cursor needs for some acknowledgements.
use Rattle.std.specs.Prelude.{ℕ, zero, suc, ◌+◌, Bool, false, not, ◌||◌, ◌&&◌, if◌then◌else◌, List, [], ◌∷◌, Option, Some, None, slice_get}
use Rattle.geo_base.specs.declared.entry.Entry.{Entry}
use Rattle.geo_base.specs.Cursor.{has, with_index}
use Rattle.geo_base.specs.Updating.{is_updated}
use Rattle.cursor_acks.specs.Acks.{stands_alone}

-- how many of some indexes stand alone, each when its turn comes
abbrev pub alone : List ℕ → List ℕ → ℕ
alone set [] = 0
alone set (i ∷ is) = (if stands_alone set i then 1 else 0) + alone (with_index set i) is

abbrev pub is_some_updated : ℕ → Option Entry → Bool
is_some_updated y None = false
is_some_updated y (Some e) = is_updated y e

-- the index before this one is acknowledged, or passed over
abbrev pub joins : ℕ → List Entry → List ℕ → ℕ → Bool
joins y es set zero = false
joins y es set (suc i) = has set i || is_some_updated y (slice_get es i)

-- an index that is passed over, after all before it, reaches no other one that is acknowledged
abbrev pub reaches_none : ℕ → List Entry → List ℕ → ℕ → Bool
reaches_none y es set i = not (joins y es set i) && not (has set (i + 1))

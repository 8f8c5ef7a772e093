-- How many messages a cursor has not acknowledged, and what writes of it acknowledge.
use Rattle.std.specs.Prelude.{ℕ, ◌+◌, nat_le, Bool, true, false, ◌&&◌, List, [], ◌∷◌, map, Option, Some, None, slice_get}
use Rattle.geo_base.specs.declared.entry.Entry.{Entry}
use Rattle.geo_base.specs.Cursor.{backlog_from, below}
use Rattle.geo_base.specs.Entry.{is_data}
use Rattle.geo_base.specs.Updating.{is_updated, updated_indexes}
use Rattle.replicated_subs.specs.Alone.{is_some_updated}

-- a backlog, of entries and a set of indexes
abbrev pub open_messages : List Entry → List ℕ → ℕ
open_messages es set = backlog_from set 0 (map (λ (e : Entry). is_data e.content) es)

abbrev pub is_some_message : Option Entry → Bool
is_some_message None = false
is_some_message (Some e) = is_data e.content

abbrev pub is_message_at : List Entry → ℕ → Bool
is_message_at es i = is_some_message (slice_get es i)

-- what is passed over: all, or what an update of a cluster passes over
abbrev pub passes_entry : Option ℕ → Entry → Bool
passes_entry None e = true
passes_entry (Some y) e = is_updated y e

abbrev pub passes : Option ℕ → List Entry → ℕ → Bool
passes None es i = true
passes (Some y) es i = is_some_updated y (slice_get es i)

-- among the first n indexes
abbrev pub passed : Option ℕ → List Entry → ℕ → List ℕ
passed None es n = below n
passed (Some y) es n = updated_indexes y 0 n es

-- each index is above those before it, and none below the first number
abbrev pub ascend : ℕ → List ℕ → Bool
ascend low [] = true
ascend low (i ∷ is) = nat_le low i && ascend (i + 1) is

-- The entries of a topic so far.
use Rattle.std.specs.Prelude.{◌≡◌, ℕ, ◌+◌, ◌==◌, Bool, true, false, if◌then◌else◌, List, Option, Some, None}
use Rattle.topic_store.specs.declared.table.Verdict.{Verdict}
use Rattle.topic_store.specs.declared.table.Verdict.TheVariants as judged
use Rattle.geo_base.specs.declared.entry.Entry.{Entry}
use Rattle.geo_base.specs.Topic.{next_marker}

pub record EntryList : Type 0 where
  pub own : ℕ
  pub entries : List Entry

-- the number after the last one
abbrev pub number_behind : Option ℕ → ℕ
number_behind None = 0
number_behind (Some last) = last + 1

-- the last own marker of a topic whose own markers are numbered 0, 1, 2 and so on
abbrev pub TellsLast : ℕ → List Entry → Option ℕ → Type 0
TellsLast own es last = next_marker own es ≡ number_behind last

abbrev pub is_turn : Option ℕ → ℕ → Bool
is_turn last seq = seq == number_behind last

abbrev pub is_new : Verdict → Bool
is_new judged.New = true
is_new (judged.Seen highest) = false

-- the last own marker after one more entry
abbrev pub last_with : Bool → ℕ → Option ℕ → Option ℕ
last_with marker seq last = if marker then Some seq else last

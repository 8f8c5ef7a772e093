-- How many messages, and no markers, stand before an index.
use Rattle.std.specs.Prelude.{◌≡◌, ℕ, ◌+◌, ◌<◌, Bool, List, length, take, slice_index}
use Rattle.std.specs.List.{count_by}
use Rattle.geo_base.specs.declared.entry.Entry.{Entry}
use Rattle.geo_base.specs.Entry.{is_data}

abbrev pub is_message : Entry → Bool
is_message e = is_data e.content

-- among the first i entries
abbrev pub messages_before : List Entry → ℕ → ℕ
messages_before es i = count_by is_message (take i es)

-- a number for each entry: how many messages there are up to it, itself included
pub record CountMessages (es : List Entry) (counts : List ℕ) : Type 0 where
  pub many : length counts ≡ length es
  pub each : (k : ℕ) → k < length es → slice_index counts k ≡ messages_before es (k + 1)

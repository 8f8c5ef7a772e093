-- The compacted view of a topic (Pulsar manual, topic compaction): up to a horizon a reader gets of each key its last message alone,
-- and after it all messages.
use Rattle.std.specs.Prelude.{◌≡◌, ℕ, ◌+◌, ◌<◌, ◌≤◌, nat_lt, nat_le, Bool, true, false, not, ◌&&◌, ◌||◌, List, length, drop, take, Option, Some, None, slice_get}
use Rattle.std.specs.List.{list_any}
use Rattle.std.specs.Str.{bytes_eq}
use Rattle.geo_base.specs.declared.entry.Entry.{Entry}
use Rattle.geo_base.specs.Entry.{is_data}

-- whether a key that may be absent is this one
abbrev pub is_key : List ℕ → Option (List ℕ) → Bool
is_key k None = false
is_key k (Some j) = bytes_eq k j

-- a message of a key (partition_key); a marker has none
abbrev pub is_of_key : List ℕ → Entry → Bool
is_of_key k e = is_data e.content && is_key k e.meta.key

-- Whether a message stays, by its key and its payload, with those after it that are compacted too: one without a key does, one with
-- a key where it is the last of that key and has a payload. A last message without a payload so removes its key (Pulsar's null value)
abbrev pub stays : Option (List ℕ) → List ℕ → List Entry → Bool
stays None payload later = true
stays (Some k) payload later = nat_lt 0 (length payload) && not (list_any (is_of_key k) later)

-- whether the entry at index i is in the view at horizon h; markers never are
abbrev pub is_entry_shown : ℕ → List Entry → ℕ → Option Entry → Bool
is_entry_shown h es i None = false
is_entry_shown h es i (Some e) = is_data e.content && (nat_le h i || stays e.meta.key e.payload (drop (i + 1) (take h es)))

abbrev pub is_shown : ℕ → List Entry → ℕ → Bool
is_shown h es i = is_entry_shown h es i (slice_get es i)

-- the least index at or after one of which a test holds; None where there is none
abbrev pub IsLeast : (ℕ → Bool) → ℕ → Option ℕ → Type 0
IsLeast test from None = (j : ℕ) → from ≤ j → test j ≡ false
IsLeast test from (Some i) = (from ≤ i) × (test i ≡ true) × ((j : ℕ) → from ≤ j → j < i → test j ≡ false)

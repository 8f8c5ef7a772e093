-- Reading an entry's text from left to right. What the metadata say too is passed over.
use Rattle.std.specs.Prelude.{◌≡◌, ◌≢◌, ◌<◌, ◌⊎◌, ℕ, ◌==◌, if◌then◌else◌, List, [], Ok}
use Rattle.geo_base.specs.declared.entry.Entry.{Entry}
use Rattle.state_items.specs.Reading.{◌>>=◌, Answer, Read, byte_at, number_at, text_at, word_at}

-- an entry was read, and these bytes are after it
abbrev pub entry_read : Entry → List ℕ → Read Entry
entry_read e more = Ok (e, more)

-- the bytes after a number, and after a byte
abbrev pub behind_number : List ℕ → Answer (List ℕ)
behind_number bytes = number_at bytes >>= λ n. Ok n.1

abbrev pub behind_byte : List ℕ → Answer (List ℕ)
behind_byte bytes = byte_at bytes >>= λ b. Ok b.1

-- a byte 0, or another and a number
unfoldable pub behind_kind : List ℕ → Answer (List ℕ)
behind_kind bytes = byte_at bytes >>= λ b. if b.0 == 0 then Ok b.1 else behind_number b.1

-- a byte 0, or another and a byte
unfoldable pub behind_targets : List ℕ → Answer (List ℕ)
behind_targets bytes = byte_at bytes >>= λ b. if b.0 == 0 then Ok b.1 else behind_byte b.1

-- a producer, a sequence id, a kind and targets
unfoldable pub behind_heading : List ℕ → Answer (List ℕ)
behind_heading bytes = do
  producer ← text_at bytes
  seq ← number_at producer.1
  kind ← behind_kind seq.1
  behind_targets kind

-- an origin, metadata and a payload
unfoldable pub item_at : List ℕ → Read (ℕ × (List ℕ × List ℕ))
item_at bytes = do
  origin ← word_at bytes
  heading ← behind_heading origin.1
  metadata ← text_at heading
  payload ← text_at metadata.1
  Ok ((origin.0, (metadata.0, payload.0)), payload.1)

-- of n entries with these bytes after them fewer are read, or all and not the bytes, or more are read where nothing is left
abbrev pub IsMiscounted : ℕ → ℕ → List ℕ → Type 0
IsMiscounted n count more = (count < n) ⊎ (((count ≡ n) × (more ≢ [])) ⊎ ((n < count) × (more ≡ [])))

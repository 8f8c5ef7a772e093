-- A topic at one cluster: its entries in order, the lengths of its ledgers, and what it accepts.
-- A position is found from the ledgers' lengths alone.
use Rattle.std.specs.Prelude.{ℕ, ◌+◌, ◌-◌, max, nat_lt, ◌==◌, Bool, true, not, ◌&&◌, ◌||◌, if◌then◌else◌, List, [], ◌∷◌, ◌++◌, length, Option, Some, None, slice_set, slice_index}
use Rattle.geo_base.specs.Types.{Entry, Ident, Position}
use Rattle.geo_base.specs.Entry.{is_own_marker, same_stream}

-- deduplication, on for every topic (own): an entry is accepted where no entry of its origin and producer has
-- its sequence id or a greater one (Pulsar manual, message deduplication)
abbrev pub accepts : List Entry → Ident → Bool
accepts [] i = true
accepts (e ∷ es) i = (not (same_stream e.ident i) || nat_lt e.ident.seq i.seq) && accepts es i

-- how many entries the last ledger has
abbrev pub last_length : List ℕ → ℕ
last_length ledgers = slice_index ledgers (length ledgers - 1)

-- where the next entry goes; a ledger takes per entries, and the next one then opens the next ledger
abbrev pub next_position : ℕ → List ℕ → Position
next_position per ledgers =
    if nat_lt (last_length ledgers) per
    then record { ledger = length ledgers - 1; entry = last_length ledgers }
    else record { ledger = length ledgers; entry = 0 }

-- the ledgers' lengths after one more entry
abbrev pub grown : ℕ → List ℕ → List ℕ
grown per ledgers =
    if nat_lt (last_length ledgers) per
    then slice_set ledgers (length ledgers - 1) (last_length ledgers + 1)
    else ledgers ++ 1 ∷ []

-- the position of the entry at an index, counted from the first entry of ledger k, the first of the list
abbrev pub position_from : List ℕ → ℕ → ℕ → Option Position
position_from [] k i = None
position_from (l ∷ ls) k i = if nat_lt i l then Some (record { ledger = k; entry = i }) else position_from ls (k + 1) (i - l)

abbrev pub position_of : List ℕ → ℕ → Option Position
position_of ledgers i = position_from ledgers 0 i

-- the index that a position counts to; before entries stand before ledger k, the first of the list
abbrev pub index_from : List ℕ → ℕ → ℕ → Position → Option ℕ
index_from [] k before p = None
index_from (l ∷ ls) k before p =
    if p.ledger == k
    then (if nat_lt p.entry l then Some (before + p.entry) else None)
    else index_from ls (k + 1) (before + l) p

-- None where nothing stands there
abbrev pub index_of : List ℕ → Position → Option ℕ
index_of ledgers p = index_from ledgers 0 0 p

abbrev pub or_first : Option Position → Position
or_first None = record { ledger = 0; entry = 0 }
or_first (Some p) = p

-- the position of an index that is stored
abbrev pub position_at : List ℕ → ℕ → Position
position_at ledgers i = or_first (position_of ledgers i)

-- the sequence id of a cluster's next own marker: they are 0, 1, 2 and so on (own)
abbrev pub next_marker : ℕ → List Entry → ℕ
next_marker own [] = 0
next_marker own (e ∷ es) = if is_own_marker own e then max (e.ident.seq + 1) (next_marker own es) else next_marker own es

-- The entries of a topic, ledger by ledger.
use Rattle.std.specs.Prelude.{ℕ, ◌<◌, zero, suc, List, [], ◌∷◌, drop, length, take}
use Rattle.geo_base.specs.declared.entry.Entry.{Entry}
use Rattle.topic_store.specs.Firsts.{AreFirsts}

-- the entries of ledger k, where the ledgers have these lengths
abbrev pub entries_in : List ℕ → List Entry → ℕ → List Entry
entries_in [] es k = []
entries_in (l ∷ ls) es zero = take l es
entries_in (l ∷ ls) es (suc k) = entries_in ls (drop l es) k

-- first indexes of the ledgers of a topic of n entries. A store may have no ledger yet
abbrev pub AreFirstsIfAny : List ℕ → ℕ → Type 0
AreFirstsIfAny fs n = 0 < length fs → AreFirsts fs n

-- The first index of each ledger, from which the ledgers' lengths and every position are read.
use Rattle.std.specs.Prelude.{◌≡◌, ℕ, ◌-◌, ◌<◌, ◌≤◌, List, [], ◌∷◌, length, slice_index, slice_index_or}

-- the ledgers' lengths in a topic of n entries: a ledger ends where the next one begins, the last at the topic's end
abbrev pub lengths_of : List ℕ → ℕ → List ℕ
lengths_of [] n = []
lengths_of (f ∷ fs) n = (slice_index_or fs 0 n - f) ∷ lengths_of fs n

-- no ledger begins before an earlier one
abbrev pub NeverFall : List ℕ → Type 0
NeverFall fs = (i j : ℕ) → i ≤ j → j < length fs → slice_index fs i ≤ slice_index fs j

-- nor after the topic's end
pub record Rising (fs : List ℕ) (n : ℕ) : Type 0 where
  pub rise : NeverFall fs
  pub within : (i : ℕ) → i < length fs → slice_index fs i ≤ n

-- first indexes of the ledgers of a topic of n entries: ledger 0 begins at 0
pub record AreFirsts (fs : List ℕ) (n : ℕ) : Type 0 where
  pub opened : 0 < length fs
  pub begun : slice_index fs 0 ≡ 0
  pub rising : Rising fs n

-- the ledger that an index stands in: the last one that begins at it or before it
pub record IsLedgerOf (fs : List ℕ) (index ledger : ℕ) : Type 0 where
  pub one : ledger < length fs
  pub begun : slice_index fs ledger ≤ index
  pub last : (k : ℕ) → ledger < k → k < length fs → index < slice_index fs k

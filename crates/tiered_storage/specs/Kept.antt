-- What a tier keeps: bytes for some ledgers.
use Rattle.std.specs.Prelude.{◌≡◌, ◌≢◌, ◌⊎◌, ℕ, List, ◌++◌, Option, Some, None}
use Rattle.std.specs.Map.{lookup}
use Rattle.std.specs.BTreeMap.{is_at}
use Rattle.std.specs.Ordering.{nat_cmp}
use Rattle.tiered_storage.specs.declared.tier.Held.{Held}
use Rattle.tiered_storage.specs.declared.tier.Held.TheVariants as held

-- the bytes of each ledger; None where nothing is kept of it
abbrev pub Kept : Type 0
Kept = ℕ → Option (List ℕ)

-- all other ledgers' bytes stay
abbrev pub KeepsOthers : Kept → Kept → ℕ → Type 0
KeepsOthers old new ledger = (k : ℕ) → k ≢ ledger → new k ≡ old k

abbrev pub KeepsAll : Kept → Kept → Type 0
KeepsAll old new = (k : ℕ) → new k ≡ old k

-- just these bytes are kept there now
abbrev pub Puts : Kept → Kept → ℕ → List ℕ → Type 0
Puts old new ledger bytes = (new ledger ≡ Some bytes) × KeepsOthers old new ledger

-- after a call that failed the old bytes are kept there, or these
abbrev pub MayPut : Kept → Kept → ℕ → List ℕ → Type 0
MayPut old new ledger bytes = ((new ledger ≡ old ledger) ⊎ (new ledger ≡ Some bytes)) × KeepsOthers old new ledger

-- what is kept goes after a buffer's bytes; No comes exactly where nothing is kept
abbrev pub IsRead : Option (List ℕ) → List ℕ → List ℕ → Held → Type 0
IsRead None old new h = (h ≡ held.No) × (new ≡ old)
IsRead (Some bytes) old new h = (h ≡ held.Yes) × (new ≡ old ++ bytes)

-- A tier in memory: the bytes of each ledger, the numbers of the calls that fail, counted from 1, and how many calls were made and
-- failed so far.
pub record TierState : Type 0 where
  pub rows : List (ℕ × List ℕ)
  pub fails : List ℕ
  pub calls : ℕ
  pub faults : ℕ

abbrev pub kept_of : List (ℕ × List ℕ) → Kept
kept_of rows k = lookup (is_at (nat_cmp k)) rows

abbrev pub kept_in : TierState → Kept
kept_in t k = kept_of t.rows k

-- Which calls reach the tier.
use Rattle.std.specs.Prelude.{◌≡◌, ◌⊎◌, ℕ, ◌==◌, nat_lt, Bool, true, false, not, ◌&&◌, if◌then◌else◌, List, Option, Some, None, Result, Ok, Err, slice_get, ⊤}
use Rattle.std.specs.List.{count_by}
use Rattle.geo_base.specs.declared.entry.Entry.{Entry}
use Rattle.geo_base.specs.declared.position.Position.{Position}
use Rattle.geo_base.specs.Topic.{position_of}
use Rattle.geo_io.specs.Faults.{one_more}
use Rattle.tiered_storage.specs.declared.tier.TierGet.{TierGet}
use Rattle.tiered_storage.specs.declared.tier.TierGet.TheVariants as get
use Rattle.tiered_storage.specs.declared.offload_fault.TierFault.{TierFault}
use Rattle.tiered_storage.specs.declared.offload_fault.TierFault.TheVariants as tier_fault
use Rattle.tiered_storage.specs.declared.offload_fault.OffloadFault.{OffloadFault}
use Rattle.tiered_storage.specs.declared.offload_fault.OffloadFault.TheVariants as fault
use Rattle.tiered_storage.specs.declared.part.Part.{Part}
use Rattle.tiered_storage.specs.declared.part.Part.TheVariants as part
use Rattle.tiered_storage.specs.declared.part.Recalled.{Recalled}
use Rattle.tiered_storage.specs.Ledgers.{entries_in}
use Rattle.tiered_storage.specs.Tiered.{Tiered}

abbrev pub is_away : Part → Bool
is_away (part.Here xs) = false
is_away part.Away = true

abbrev pub is_part_away : Option Part → Bool
is_part_away None = false
is_part_away (Some p) = is_away p

-- a ledger stands in the tier
abbrev pub is_offloaded : {T : Type 0} → Tiered T → ℕ → Bool
is_offloaded t k = is_part_away (slice_get t.parts k)

-- how many do
abbrev pub offloaded : {T : Type 0} → Tiered T → ℕ
offloaded t = count_by is_away t.parts

abbrev pub is_ledger : ℕ → Option Recalled → Bool
is_ledger k None = false
is_ledger k (Some r) = r.ledger == k

-- a ledger is read from the tier where it stands there and was not the last one that was
abbrev pub asks_for : {T : Type 0} → Tiered T → ℕ → Bool
asks_for t k = is_offloaded t k && not (is_ledger k t.recalled)

abbrev pub asks_at : {T : Type 0} → Tiered T → Option Position → Bool
asks_at t None = false
asks_at t (Some p) = asks_for t p.ledger

-- reading an index is one call of the tier, or none
abbrev pub asks : {T : Type 0} → Tiered T → ℕ → Bool
asks t i = asks_at t (position_of t.ledgers i)

-- the ledger that was read last once an index is read: the one that was asked for, or else the one before
abbrev pub recalled_at : {T : Type 0} → Tiered T → List Entry → Option Position → Option Recalled
recalled_at t es None = t.recalled
recalled_at t es (Some p) = if asks_for t p.ledger then Some (record { ledger = p.ledger; entries = entries_in t.ledgers es p.ledger }) else t.recalled

abbrev pub recalled_after : {T : Type 0} → Tiered T → List Entry → ℕ → Option Recalled
recalled_after t es i = recalled_at t es (position_of t.ledgers i)

-- an entry of the ledger that was read last
abbrev pub recalled_entry : Option Recalled → ℕ → Option Entry
recalled_entry None e = None
recalled_entry (Some r) e = slice_get r.entries e

abbrev pub calls_if : Bool → ℕ → ℕ
calls_if b calls = if b then one_more calls else calls

abbrev pub AtMostOne : ℕ → ℕ → Type 0
AtMostOne old new = (new ≡ old) ⊎ (new ≡ one_more old)

-- a ledger that is not closed is refused: the open one, or one that was never opened
abbrev pub fault_of : ℕ → ℕ → Option OffloadFault
fault_of unclosed ledger =
    if nat_lt unclosed ledger then Some (fault.Unknown ledger)
    else if ledger == unclosed then Some (fault.Open ledger)
    else None

-- it comes where it is due, and no such refusal else
abbrev pub IsOther : OffloadFault → Type 0
IsOther (fault.Unknown ledger) = ⊥
IsOther (fault.Open ledger) = ⊥
IsOther f = ⊤

abbrev pub Comes : Option OffloadFault → Result (Unit {0}) OffloadFault → Type 0
Comes None (Ok x) = ⊤
Comes None (Err f) = IsOther f
Comes (Some d) r = r ≡ Err d

-- why a ledger was not read from the tier
abbrev pub of_get : TierGet → TierFault
of_get get.Failed = tier_fault.Failed
of_get get.Memory = tier_fault.Memory

-- A topic whose closed ledgers move to a tier, line by line (own): how many moved, and its entries.
use Rattle.std.specs.Prelude.{ℕ, zero, suc, ◌-◌, List, [], ◌∷◌, codes, decimal}
use Rattle.geo_base.specs.declared.entry.Entry.{Entry}
use Rattle.geo_base.specs.Report.{entry_lines, words}
use Rattle.geo_base.specs.Topic.{next_position}
use Rattle.tiered_storage.specs.declared.part.Part.{Part}
use Rattle.tiered_storage.specs.declared.part.Part.TheVariants as part

-- how many of a topic's closed ledgers move, where the last ones, so many, stay: those are closed that stand before the one that the
-- next entry goes to; a ledger takes per entries
abbrev pub moved_ledgers : ℕ → ℕ → List ℕ → ℕ
moved_ledgers per keep ledgers = (next_position per ledgers).ledger - keep

-- the first ledgers of a topic, so many, stand in the tier
abbrev pub first_away : ℕ → List Part → List Part
first_away zero ps = ps
first_away (suc n) [] = []
first_away (suc n) (p ∷ ps) = part.Away ∷ first_away n ps

-- a topic at a cluster, by their names, and how many of its ledgers moved
abbrev pub moved_line : List ℕ → List ℕ → ℕ → List ℕ
moved_line topic cluster moved = words (codes "tiered" ∷ topic ∷ codes "at" ∷ cluster ∷ codes "offloaded" ∷ decimal moved ∷ [])

-- that line, and the entries as a report shows them
abbrev pub tier_lines : List (List ℕ) → List ℕ → List ℕ → ℕ → ℕ → List ℕ → List Entry → List (List ℕ)
tier_lines names topic cluster per keep ledgers es = moved_line topic cluster (moved_ledgers per keep ledgers) ∷ entry_lines names ledgers 0 es

-- The lengths of a topic's ledgers, each of which takes per entries.
use Rattle.std.specs.Prelude.{ℕ, ◌==◌, nat_lt, List, [], Ok}
use Rattle.std.specs.List.{sum}
use Rattle.state_items.specs.declared.rule.Rule.TheVariants as rule
use Rattle.state_items.specs.Reading.{◌>>=◌, Read, judge, many, number_at, number_within}
use Rattle.state_items.specs.Texts.{list, number}

abbrev pub ledgers_text : List ℕ → List ℕ
ledgers_text ls = list number ls

abbrev pub length_at : ℕ → List ℕ → List ℕ → Read ℕ
length_at per before bytes = number_within per rule.Ledgers bytes

unfoldable pub ledgers_at : ℕ → List ℕ → Read (List ℕ)
ledgers_at per bytes = do
  count ← number_at bytes
  opened ← judge (nat_lt 0 count.0) bytes rule.Ledgers
  many (length_at per) count.0 [] count.1

-- how many entries there are: as many as the ledgers have together
unfoldable pub entry_count : List ℕ → List ℕ → Read ℕ
entry_count ls bytes = do
  count ← number_at bytes
  all_ ← judge (sum ls == count.0) bytes rule.Ledgers
  Ok count

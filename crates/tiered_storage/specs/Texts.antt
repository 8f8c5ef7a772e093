-- The text of a closed ledger (own). Numbers and texts are those of a state file.
use Rattle.std.specs.Prelude.{ℕ, List, [], ◌∷◌, ◌++◌, Option, Some, None}
use Rattle.geo_base.specs.declared.entry.Entry.{Entry}
use Rattle.geo_base.specs.declared.entry.Targets.{Targets}
use Rattle.geo_base.specs.declared.entry.Targets.TheVariants as targets
use Rattle.state_items.specs.EntryTexts.{entry_text}
use Rattle.state_items.specs.Texts.{list, number, text, word}
use Rattle.frame_values.specs.Texts.{marker_number}

-- a byte 1 and the number of a marker's type; a byte 0 of a message
abbrev pub kind_text : Option ℕ → List ℕ
kind_text None = 0 ∷ []
kind_text (Some k) = 1 ∷ number k

-- a byte 0 for all clusters; a byte 1 and a byte with a bit for each cluster
abbrev pub targets_text : Targets → List ℕ
targets_text targets.All = 0 ∷ []
targets_text (targets.Only bits) = 1 ∷ bits ∷ []

-- an entry of the topic of cluster own: what names it, what it is and whom it is for, then its metadata and its payload
abbrev pub item_text : List (List ℕ) → ℕ → Entry → List ℕ
item_text names own e =
    word e.ident.origin ++ (text e.ident.producer ++ (number e.ident.seq
    ++ (kind_text (marker_number e.content) ++ (targets_text e.to ++ entry_text names own e))))

-- how many entries, and the entries
unfoldable pub ledger_text : List (List ℕ) → ℕ → List Entry → List ℕ
ledger_text names own es = list (item_text names own) es

-- The words of an entry.
use Rattle.std.specs.Prelude.{ℕ, List, ◌∷◌, ◌++◌}
use Rattle.geo_base.specs.declared.entry.Entry.{Entry}
use Rattle.geo_base.specs.declared.position.Position.{Position}
use Rattle.geo_base.specs.Report.{shown_content, shown_ident, shown_position, shown_targets}

-- all of its line but the first word
abbrev pub entry_words : List (List ℕ) → Position → Entry → List (List ℕ)
entry_words names p e = shown_position p ∷ shown_ident names e.ident ++ shown_targets names e.to ∷ shown_content names e e.content

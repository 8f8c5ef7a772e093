-- Messages that are counted, and named where that is wanted.
use Rattle.std.specs.Prelude.{◌≡◌, ℕ, Bool, if◌then◌else◌, List, [], ◌∷◌, length}
use Rattle.geo_base.specs.declared.entry.Entry.{Entry}
use Rattle.geo_base.specs.Report.{with_line_feeds}
use Rattle.loss_laws.specs.LostLines.{name_lines}

pub record NamedBook : Type 0 where
  pub count : ℕ
  pub names : Bool
  pub lines : List ℕ

-- so many as some entries, and their lines
pub record IsNamed (names : Bool) (clusters : List (List ℕ)) (es : List Entry) (v : NamedBook) : Type 0 where
  pub count : v.count ≡ length es
  pub names_too : v.names ≡ names
  pub lines : v.lines ≡ with_line_feeds (name_lines names clusters es)

-- an entry, where it is chosen
abbrev pub picked : Bool → Entry → List Entry
picked b e = if b then e ∷ [] else []

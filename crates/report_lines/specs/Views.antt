-- The compacted view of a topic, line by line (own): the horizon, and of the entries those of the view.
use Rattle.std.specs.Prelude.{ℕ, ◌+◌, min, Bool, true, false, List, [], ◌∷◌, length, codes, decimal}
use Rattle.topic_compaction.specs.View.{is_shown}
use Rattle.geo_base.specs.declared.entry.Entry.{Entry}
use Rattle.geo_base.specs.Report.{entry_line, words}
use Rattle.geo_base.specs.Topic.{position_at}

-- a line, where it is shown
abbrev pub if_shown : Bool → List ℕ → List (List ℕ) → List (List ℕ)
if_shown true line rest = line ∷ rest
if_shown false line rest = rest

-- of a topic's entries those of its view at horizon h, i being the index of the first one of the list
abbrev pub shown_lines : List (List ℕ) → List ℕ → ℕ → List Entry → ℕ → List Entry → List (List ℕ)
shown_lines names ledgers h all i [] = []
shown_lines names ledgers h all i (e ∷ es) =
    if_shown (is_shown h all i) (entry_line names (position_at ledgers i) e) (shown_lines names ledgers h all (i + 1) es)

-- the messages of a topic's view; its length stands for a horizon that is greater
abbrev pub view_messages : List (List ℕ) → ℕ → List ℕ → List Entry → List (List ℕ)
view_messages names horizon ledgers es = shown_lines names ledgers (min horizon (length es)) es 0 es

-- a topic at a cluster, by their names, and its horizon
abbrev pub horizon_line : List ℕ → List ℕ → ℕ → List ℕ
horizon_line topic cluster h = words (codes "compacted" ∷ topic ∷ codes "at" ∷ cluster ∷ codes "horizon" ∷ decimal h ∷ [])

-- a view, its horizon first
abbrev pub view_lines : List (List ℕ) → List ℕ → List ℕ → ℕ → List ℕ → List Entry → List (List ℕ)
view_lines names topic cluster horizon ledgers es = horizon_line topic cluster (min horizon (length es)) ∷ view_messages names horizon ledgers es

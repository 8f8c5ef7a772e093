-- Lines that stand to the right, under a step or under an event of settling; and what was noted of a node.
use Rattle.std.specs.Prelude.{ℕ, List, [], ◌∷◌, ◌++◌, map, codes}
use Rattle.geo_base.specs.Report.{with_line_feeds, words}
use Rattle.step_laws.specs.Steps.{ReportChange, change_line}
use Rattle.step_lines.specs.declared.heads.Indent.{Indent}
use Rattle.step_lines.specs.declared.heads.Indent.TheVariants as indent

abbrev pub spaces : Indent → List ℕ
spaces indent.Step = 32 ∷ 32 ∷ []
spaces indent.Event = 32 ∷ 32 ∷ 32 ∷ 32 ∷ []

abbrev pub stood : Indent → List ℕ → List ℕ
stood i line = spaces i ++ line

-- lines, each after its spaces
abbrev pub stood_lines : Indent → List (List ℕ) → List ℕ
stood_lines i ls = with_line_feeds (map (stood i) ls)

-- the line of a topic at a cluster, by their names
abbrev pub place_line : List ℕ → List ℕ → List ℕ
place_line topic cluster = words (codes "topic" ∷ topic ∷ codes "at" ∷ cluster ∷ [])

-- changes under the line of their place, which stands only where there are some
abbrev pub placed : List ℕ → List ReportChange → List (List ℕ)
placed place [] = []
placed place (c ∷ cs) = place ∷ map change_line (c ∷ cs)

-- The compacted views of a world, line by line (own): of each topic at each cluster the messages of its view.
use Rattle.std.specs.Prelude.{ℕ, ◌+◌, List, [], ◌∷◌, ◌++◌}
use Rattle.geo_base.specs.Report.{with_line_feeds}
use Rattle.geo_base.specs.Setup.{Setup}
use Rattle.geo_base.specs.World.{World, topic_at}
use Rattle.report_lines.specs.Views.{view_lines}

-- of topic t, whose name is topic, at each cluster from x on
abbrev pub views_at : Setup → World → ℕ → ℕ → List ℕ → ℕ → List (List ℕ) → List (List ℕ)
views_at s w horizon t topic x [] = []
views_at s w horizon t topic x (n ∷ ns) = (let b = topic_at s w t x in view_lines s.clusters topic n horizon b.ledgers b.entries) ++ views_at s w horizon t topic (x + 1) ns

-- of the topics from t on
abbrev pub views_of : Setup → World → ℕ → ℕ → List (List ℕ) → List (List ℕ)
views_of s w horizon t [] = []
views_of s w horizon t (n ∷ ns) = views_at s w horizon t n 0 s.clusters ++ views_of s w horizon (t + 1) ns

-- the bytes of all of them
abbrev pub compacted : ℕ → Setup → World → List ℕ
compacted horizon s w = with_line_feeds (views_of s w horizon 0 s.topics)

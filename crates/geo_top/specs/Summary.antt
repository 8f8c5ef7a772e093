-- The summary of a generated run, line by line (own): its number and what every such run has, how many messages each cluster stored,
-- that all is quiet, and the counts.
use Rattle.std.specs.Prelude.{ℕ, ◌+◌, List, [], ◌∷◌, ◌++◌, codes, decimal}
use Rattle.std.specs.List.{count_by}
use Rattle.geo_base.specs.declared.entry.Entry.{Entry}
use Rattle.geo_base.specs.Report.{head_line, with_line_feeds, words}
use Rattle.geo_base.specs.Setup.{Setup}
use Rattle.geo_base.specs.World.{World, topic_at}
use Rattle.topic_store.specs.Messages.{is_message}

-- three clusters, and the 2,000 messages that the producers publish
abbrev pub big_line : ℕ → List ℕ
big_line number = words (codes "big" ∷ decimal number ∷ codes "clusters 3 messages 2000" ∷ [])

-- the messages of a topic at the cluster of a name: its entries that are no markers
abbrev pub stored_line : List ℕ → List Entry → List ℕ
stored_line name es = words (codes "stored" ∷ name ∷ decimal (count_by is_message es) ∷ [])

-- of the one topic at each cluster from x on
abbrev pub stored_lines : Setup → World → ℕ → List (List ℕ) → List (List ℕ)
stored_lines s w x [] = []
stored_lines s w x (n ∷ ns) = stored_line n (topic_at s w 0 x).entries ∷ stored_lines s w (x + 1) ns

-- its lines, without their line feeds
unfoldable pub summary_lines : ℕ → Setup → World → List (List ℕ)
summary_lines number s w = big_line number ∷ stored_lines s w 0 s.clusters ++ (codes "quiet" ∷ head_line w ∷ [])

-- its bytes
abbrev pub summary : ℕ → Setup → World → List ℕ
summary number s w = with_line_feeds (summary_lines number s w)

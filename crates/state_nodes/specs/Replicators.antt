-- The replicators of a broker to the other clusters, over a topic of n entries. Own is the broker's cluster.
use Rattle.std.specs.Prelude.{ℕ, ◌+◌, ◌==◌, if◌then◌else◌, List, [], ◌∷◌, ◌++◌, length, Ok}
use Rattle.geo_base.specs.Replicator.{Replicator, new_replicator}
use Rattle.state_items.specs.declared.rule.Rule.TheVariants as rule
use Rattle.state_items.specs.Ranges.{cursor_at}
use Rattle.state_items.specs.Reading.{◌>>=◌, Read, many, number_within}
use Rattle.state_items.specs.Texts.{cursor, number}
use Rattle.state_items.specs.Limits.{most_count}

abbrev pub replicator_text : ℕ → Replicator → List ℕ
replicator_text n s = number s.session ++ cursor n s.cursor

-- from cluster y on; the own one has none
abbrev pub replicators_from : ℕ → ℕ → ℕ → List Replicator → List ℕ
replicators_from n own y [] = []
replicators_from n own y (s ∷ ss) = (if y == own then [] else replicator_text n s) ++ replicators_from n own (y + 1) ss

abbrev pub replicators_text : ℕ → ℕ → List Replicator → List ℕ
replicators_text n own ss = replicators_from n own 0 ss

-- ---- reading

unfoldable pub replicator_at : ℕ → List ℕ → Read Replicator
replicator_at n bytes = do
  session ← number_within most_count rule.Count bytes
  acked ← cursor_at n session.1
  Ok (record new_replicator { cursor = acked.0; session = session.0 }, acked.1)

-- the place of the own cluster is unused
abbrev pub place_at : ℕ → ℕ → List Replicator → List ℕ → Read Replicator
place_at n own before bytes = if length before == own then Ok (new_replicator, bytes) else replicator_at n bytes

abbrev pub replicators_at : ℕ → ℕ → ℕ → List ℕ → Read (List Replicator)
replicators_at n own clusters bytes = many (place_at n own) clusters [] bytes

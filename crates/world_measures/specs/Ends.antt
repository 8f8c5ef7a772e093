-- What is told of a cluster's messages if it never comes back, by one of three words.
use Rattle.std.specs.Prelude.{ℕ, Bool, not, ◌&&◌, List, codes}
use Rattle.geo_base.specs.declared.entry.Entry.{Entry}
use Rattle.geo_base.specs.Setup.{Setup}
use Rattle.geo_base.specs.World.{World}
use Rattle.loss_laws.specs.Lost.{chosen, differs, is_alone, is_lost}
use Rattle.world_measures.specs.declared.ends.End.{End}
use Rattle.world_measures.specs.declared.ends.End.TheVariants as end

abbrev pub end_label : End → List ℕ
end_label end.Lost = codes "lost"
end_label end.Alone = codes "alone"
end_label end.Differ = codes "differ"

abbrev pub is_end : Setup → World → ℕ → ℕ → End → ℕ → Entry → Bool
is_end s w t x end.Lost i e = is_lost s w t x i e
is_end s w t x end.Alone i e = is_alone s x i e
is_end s w t x end.Differ i e = differs s w t x i e

abbrev pub ends_of : Setup → World → ℕ → ℕ → End → List Entry → List Entry
ends_of s w t x d es = chosen (is_end s w t x d) 0 es

-- which of the three an own message is: whether it is meant for another cluster, stands at one, and is lacked by one that it is meant for
abbrev pub is_of : End → Bool → Bool → Bool → Bool
is_of end.Lost others elsewhere lacked = others && not elsewhere
is_of end.Alone others elsewhere lacked = not others
is_of end.Differ others elsewhere lacked = elsewhere && lacked

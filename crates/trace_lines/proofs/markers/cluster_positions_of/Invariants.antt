use Rattle.std.proofs.Common.{◌≡◌, ◌++◌, length, option_map, List}
use Rattle.geo_base.specs.declared.marker.ClusterPosition.{ClusterPosition}
use Rattle.trace_lines.specs.Entries.{cluster_positions_of}
use Rattle.trace_lines.proofs.markers.cluster_positions_of.Given as goal

-- the positions so far and those of the rest make the whole
abbrev pub invariant-loop-word : goal.invariant-loop-word
invariant-loop-word l =
    option_map (λ (rs : List ClusterPosition). l.remote ++ rs) (cluster_positions_of l.clusters l.words) ≡ cluster_positions_of l.clusters l.initial.words

abbrev pub decreases-loop-word : goal.decreases-loop-word
decreases-loop-word l = length l.words

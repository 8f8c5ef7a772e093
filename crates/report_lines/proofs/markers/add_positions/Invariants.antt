use Rattle.std.proofs.Common.{◌≡◌, ◌++◌, drop, map, take, length}
use Rattle.geo_base.specs.Report.{shown_cluster_position}
use Rattle.report_lines.specs.Spaced.{spaced}
use Rattle.report_lines.proofs.markers.add_positions.Given as goal

-- the lines so far and the rest make the whole
abbrev pub invariant-loop-position : goal.invariant-loop-position
invariant-loop-position l = record {
  so_far : l.lines ++ spaced (map (shown_cluster_position l.clusters) (drop l.position-index l.remote)) ≡ l.initial.lines ++ spaced (map (shown_cluster_position l.clusters) l.remote);
  begins : take (length l.initial.lines) l.lines ≡ l.initial.lines;
}

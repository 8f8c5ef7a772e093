use Rattle.std.proofs.Common.{◌≡◌, length, option_map}
use Rattle.trace_lines.specs.Entries.{told_positions_of}
use Rattle.trace_lines.proofs.Told.{behind}
use Rattle.trace_lines.proofs.markers.add_told.Given as goal

-- the positions so far and those of the rest make the whole
abbrev pub invariant-loop-word : goal.invariant-loop-word
invariant-loop-word l =
    option_map (behind l.remote) (told_positions_of l.clusters l.words) ≡ told_positions_of l.clusters l.initial.words

abbrev pub decreases-loop-word : goal.decreases-loop-word
decreases-loop-word l = length l.words

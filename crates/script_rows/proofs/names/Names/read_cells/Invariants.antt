use Rattle.std.proofs.Common.{◌≡◌, ◌+◌, ◌≤◌, ◌++◌, None, length, find, option_map}
use Rattle.script_rows.specs.Judging.{cells_break, values_of, word_rules}
use Rattle.script_rows.specs.Names.{nothing_seen}
use Rattle.script_rows.specs.Reading.{lower}
use Rattle.script_rows.proofs.names.Names.read_cells.Given as goal

abbrev pub invariant-loop-column : goal.invariant-loop-column
invariant-loop-column l = record {
  room : length l.row + length l.left_columns ≤ 5;
  lowest : lower l.broken (find (λ r. cells_break l.self r l.seen l.left_columns l.left) word_rules) ≡ find (λ r. cells_break l.self r nothing_seen l.fn.columns l.fn.cells) word_rules;
  said : l.broken ≡ None → option_map (λ vs. l.row ++ vs) (values_of l.self l.seen l.left_columns l.left) ≡ values_of l.self nothing_seen l.fn.columns l.fn.cells;
}

abbrev pub decreases-loop-column : goal.decreases-loop-column
decreases-loop-column l = length l.left_columns

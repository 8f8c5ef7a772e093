use Rattle.std.proofs.Common.{◌≡◌, ◌++◌, drop, length, take}
use Rattle.script_rows.specs.Names.{nothing_seen}
use Rattle.script_rows.specs.Written.{spaced, words_in}
use Rattle.script_rows.proofs.names.Names.write_row.Given as goal

abbrev pub invariant-loop-value : goal.invariant-loop-value
invariant-loop-value l = record {
  so_far : l.out ++ spaced (words_in l.self l.seen l.left (drop l.value-index l.values)) ≡ l.initial.out ++ spaced (words_in l.self nothing_seen l.columns l.values);
  begins : take (length l.initial.out) l.out ≡ l.initial.out;
}

use Rattle.std.proofs.Common.{◌≡◌, ◌++◌, drop, take, length}
use Rattle.geo_base.specs.declared.entry.Targets.TheVariants as targets
use Rattle.geo_base.specs.Client.{target_names}
use Rattle.geo_base.specs.Report.{commas}
use Rattle.report_lines.proofs.Names.{commas_after}
use Rattle.report_lines.proofs.words.add_names.Given as goal

-- the lines so far and the rest make the whole
abbrev pub invariant-loop-number : goal.invariant-loop-number
invariant-loop-number l = record {
  so_far : l.lines ++ commas_after l.is_first (target_names l.number (targets.Only l.bits) (drop l.number l.clusters)) ≡ l.initial.lines ++ commas (target_names 0 (targets.Only l.bits) l.clusters);
  begins : take (length l.initial.lines) l.lines ≡ l.initial.lines;
}

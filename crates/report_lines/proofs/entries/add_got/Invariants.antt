use Rattle.std.proofs.Common.{◌≡◌, ◌++◌, drop, map, take, length}
use Rattle.geo_base.specs.Report.{got_line, with_line_feeds}
use Rattle.report_lines.proofs.entries.add_got.Given as goal

-- the lines so far and the rest make the whole
abbrev pub invariant-loop-ident : goal.invariant-loop-ident
invariant-loop-ident l = record {
  so_far : l.lines ++ with_line_feeds (map (got_line l.clusters) (drop l.ident-index l.got)) ≡ l.initial.lines ++ with_line_feeds (map (got_line l.clusters) l.got);
  begins : take (length l.initial.lines) l.lines ≡ l.initial.lines;
}

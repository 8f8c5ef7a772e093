use Rattle.std.proofs.Common.{◌≡◌, ◌++◌, drop, map, take, length}
use Rattle.geo_base.specs.Report.{sub_line, with_line_feeds}
use Rattle.report_lines.proofs.broker_lines.add_subs.Given as goal

-- the lines so far and the rest make the whole
abbrev pub invariant-loop-place : goal.invariant-loop-place
invariant-loop-place l = record {
  so_far : l.lines ++ with_line_feeds (map (sub_line l.broker.broker) (drop l.place l.broker.broker.subs)) ≡ l.initial.lines ++ with_line_feeds (map (sub_line l.broker.broker) l.broker.broker.subs);
  begins : take (length l.initial.lines) l.lines ≡ l.initial.lines;
}

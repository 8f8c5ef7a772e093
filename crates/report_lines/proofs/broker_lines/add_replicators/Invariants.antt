use Rattle.std.proofs.Common.{◌≡◌, ◌++◌, drop, take, length}
use Rattle.geo_base.specs.Report.{replicator_lines, with_line_feeds}
use Rattle.report_lines.proofs.broker_lines.add_replicators.Given as goal

-- the lines so far and the rest make the whole
abbrev pub invariant-loop-number : goal.invariant-loop-number
invariant-loop-number l = record {
  so_far : l.lines ++ with_line_feeds (replicator_lines l.broker.site.own l.number (drop l.number l.broker.site.clusters) (drop l.number l.broker.broker.replicators))
      ≡ l.initial.lines ++ with_line_feeds (replicator_lines l.broker.site.own 0 l.broker.site.clusters l.broker.broker.replicators);
  begins : take (length l.initial.lines) l.lines ≡ l.initial.lines;
}

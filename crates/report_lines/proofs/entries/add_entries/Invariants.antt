use Rattle.std.proofs.Common.{◌≡◌, ◌++◌, drop, take, length}
use Rattle.geo_base.specs.Report.{entry_lines, with_line_feeds}
use Rattle.report_lines.proofs.entries.add_entries.Given as goal

-- the lines so far and the rest make the whole
abbrev pub invariant-loop-index : goal.invariant-loop-index
invariant-loop-index g l = record {
  so_far : l.lines ++ with_line_feeds (entry_lines l.clusters (g.S.EntryStore.ledgers l.store) l.index (drop l.index (g.S.EntryStore.entries l.store)))
      ≡ l.initial.lines ++ with_line_feeds (entry_lines l.clusters (g.S.EntryStore.ledgers l.store) 0 (g.S.EntryStore.entries l.store));
  begins : take (length l.initial.lines) l.lines ≡ l.initial.lines;
}

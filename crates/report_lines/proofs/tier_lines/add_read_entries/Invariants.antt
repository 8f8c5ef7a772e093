use Rattle.std.proofs.Common.{◌≡◌, ◌++◌, drop, take, length}
use Rattle.geo_base.specs.Report.{entry_lines, with_line_feeds}
use Rattle.tiered_storage.specs.Kept.{kept_in}
use Rattle.tiered_storage.specs.Tiered.{Holds}
use Rattle.report_lines.proofs.tier_lines.add_read_entries.Given as goal

-- the lines so far and the rest make the whole
abbrev pub invariant-loop-index : goal.invariant-loop-index
invariant-loop-index g l = record {
  holds : Holds l.clusters kept_in (g.S.EntryStore.entries l.store) l.topic;
  lines : l.lines ++ with_line_feeds (entry_lines l.clusters (g.S.EntryStore.ledgers l.store) l.index (drop l.index (g.S.EntryStore.entries l.store)))
      ≡ l.initial.lines ++ with_line_feeds (entry_lines l.clusters (g.S.EntryStore.ledgers l.store) 0 (g.S.EntryStore.entries l.store));
  begins : take (length l.initial.lines) l.lines ≡ l.initial.lines;
}

abbrev pub ghost-add_read_entry : goal.ghost-add_read_entry
ghost-add_read_entry g a = g.S.EntryStore.entries a.store.now

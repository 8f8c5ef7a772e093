use Rattle.std.proofs.Common.{◌<◌, ◌++◌, length, arith}
use Rattle.geo_base.specs.Report.{entry_lines, with_line_feeds}
use Rattle.report_lines.proofs.Added.{next_added, next_stands}
use Rattle.report_lines.proofs.entries.add_entries.Goals as goal

pub loop-index-preserved : goal.loop-index-preserved
loop-index-preserved g c =
    let entries = g.S.EntryStore.entries c.args.store.now in let ledgers = g.S.EntryStore.ledgers c.args.store.now in let names = c.args.clusters.now in
    let within : c.loop-index.index < length entries = omega arith in
    record {
      so_far =
          next_added names ledgers entries c.loop-index.index c.loop-index.lines c.add_entry.new.lines (c.args.lines.now ++ with_line_feeds (entry_lines names ledgers 0 entries))
          within c.in_ok-add_entry.ensures.ok c.loop-index.invariant.so_far;
      begins = next_stands names ledgers entries c.loop-index.index c.args.lines.now c.loop-index.lines c.add_entry.new.lines within c.in_ok-add_entry.ensures.ok c.loop-index.invariant.begins;
    }

use Rattle.std.proofs.Common.{◌<◌, ◌++◌, length, arith}
use Rattle.geo_base.specs.Report.{entry_lines, with_line_feeds}
use Rattle.report_lines.proofs.Added.{next_added, next_stands}
use Rattle.report_lines.proofs.tier_lines.add_read_entries.Goals as goal

pub loop-index-preserved : goal.loop-index-preserved
loop-index-preserved g c =
    let es = g.S.EntryStore.entries c.args.store.now in let ls = g.S.EntryStore.ledgers c.args.store.now in let names = c.args.clusters.now in
    let within : c.loop-index.index < length es = (let test = c.loop-index-test.true in let len = c.len-index-end.ensures.len in omega (arith, test, len)) in
    record {
      holds = c.add_read_entry.ensures.holds;
      lines =
          next_added names ls es c.loop-index.index c.loop-index.lines c.add_read_entry.new.lines (c.args.lines.now ++ with_line_feeds (entry_lines names ls 0 es))
          within c.in_ok-add_read_entry.ensures.line c.loop-index.invariant.lines;
      begins = next_stands names ls es c.loop-index.index c.args.lines.now c.loop-index.lines c.add_read_entry.new.lines within c.in_ok-add_read_entry.ensures.line c.loop-index.invariant.begins;
    }

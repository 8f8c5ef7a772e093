use Rattle.std.proofs.Common.{◌≡◌, ◌-◌, ◌++◌, drop, length, take}
use Rattle.geo_base.specs.Report.{with_line_feeds}
use Rattle.report_lines.specs.Views.{shown_lines}
use Rattle.report_lines.proofs.view_lines.add_view.Given as goal

-- the lines so far and the rest make the whole
abbrev pub invariant-loop-index : goal.invariant-loop-index
invariant-loop-index g l =
    let es = g.S.EntryStore.entries l.store in let ledgers = g.S.EntryStore.ledgers l.store in let h = l.compacted.horizon in
    record {
      so_far : l.lines ++ with_line_feeds (shown_lines l.clusters ledgers h es l.from (drop l.from es)) ≡ l.initial.lines ++ with_line_feeds (shown_lines l.clusters ledgers h es 0 es);
      begins : take (length l.initial.lines) l.lines ≡ l.initial.lines;
    }

-- the next message stands after those shown
abbrev pub decreases-loop-index : goal.decreases-loop-index
decreases-loop-index g l = length (g.S.EntryStore.entries l.store) - l.from

use Rattle.std.proofs.Common.{◌≡◌, ℕ, ◌++◌, length, arith, subst}
use Rattle.std.specs.Prelude.{OnOk}
use Rattle.geo_base.specs.Report.{with_line_feeds}
use Rattle.report_lines.specs.Views.{shown_lines}
use Rattle.report_lines.proofs.Views.{same_horizon}
use Rattle.report_lines.proofs.view_lines.add_messages.Goals as goal

pub add_view-added-requires : goal.add_view-added-requires
add_view-added-requires g c = record {
  few = c.requires;
  of = c.in_ok-compacted.ensures.of;
  indexes = omega (arith, c.len.ensures.len, c.len.type_inv);
}

pub returns-clause-ok : goal.returns-clause-ok
returns-clause-ok g c =
    let es = g.S.EntryStore.entries c.args.store.now in let ledgers = g.S.EntryStore.ledgers c.args.store.now in
    let h = c.in_ok-compacted.compacted.horizon in
    subst (λ (k : ℕ). OnOk c.add_view-added.result (c.add_view-added.new.lines ≡ c.args.lines.now ++ with_line_feeds (shown_lines c.args.clusters.now ledgers k es 0 es)))
    (same_horizon h c.min.result c.args.horizon c.len.result (length es) c.in_ok-compacted.ensures.at c.min.ensures c.len.ensures.len) c.add_view-added.ensures.ok

use Rattle.std.proofs.Common.{ℕ, ◌<◌, ◌++◌, length, arith, subst}
use Rattle.std.specs.Prelude.{Option}
use Rattle.topic_compaction.specs.View.{IsLeast, is_shown}
use Rattle.geo_base.specs.Report.{with_line_feeds}
use Rattle.report_lines.specs.Views.{shown_lines}
use Rattle.report_lines.proofs.Added.{next_stands}
use Rattle.report_lines.proofs.Views.{all_shown, message_added, none_left, within}
use Rattle.report_lines.proofs.view_lines.add_view.Goals as goal

-- the message that was found stands in the topic
there : (g : _) (c : goal.In_ok-add_entry g) → c.in-Some.index < length (g.S.EntryStore.entries c.args.store.now)
there g c =
    within c.args.clusters.now (g.S.EntryStore.ledgers c.args.store.now) c.args.compacted.now.horizon (g.S.EntryStore.entries c.args.store.now) c.loop-index.from
    c.in-Some.index c.in-Some.ensures

pub add_entry-requires : goal.add_entry-requires
add_entry-requires g c =
    record {
      few = c.requires.few;
      within =
          within c.args.clusters.now (g.S.EntryStore.ledgers c.args.store.now) c.args.compacted.now.horizon (g.S.EntryStore.entries c.args.store.now) c.loop-index.from
          c.in-Some.index c.in-Some.ensures;
    }

pub overflow_add-from : goal.overflow_add-from
overflow_add-from g c = omega (arith, there g c, c.requires.indexes)

pub loop-index-smaller : goal.loop-index-smaller
loop-index-smaller g c = let least = c.in-Some.ensures.0 in omega (arith, there g c, least)

pub loop-index-preserved : goal.loop-index-preserved
loop-index-preserved g c =
    let es = g.S.EntryStore.entries c.args.store.now in let ledgers = g.S.EntryStore.ledgers c.args.store.now in
    let names = c.args.clusters.now in let h = c.args.compacted.now.horizon in
    record {
      so_far =
          message_added names ledgers h es c.loop-index.from c.in-Some.index c.loop-index.lines c.add_entry.new.lines
          (c.args.lines.now ++ with_line_feeds (shown_lines names ledgers h es 0 es)) c.in-Some.ensures c.in_ok-add_entry.ensures.ok c.loop-index.invariant.so_far;
      begins =
          next_stands names ledgers es c.in-Some.index c.args.lines.now c.loop-index.lines c.add_entry.new.lines (there g c)
          c.in_ok-add_entry.ensures.ok c.loop-index.invariant.begins;
    }

pub returns-clause-ok : goal.returns-clause-ok
returns-clause-ok g c =
    let es = g.S.EntryStore.entries c.args.store.now in let ledgers = g.S.EntryStore.ledgers c.args.store.now in
    let names = c.args.clusters.now in let h = c.args.compacted.now.horizon in
    all_shown names ledgers h es c.loop-index.from c.loop-index.lines (c.args.lines.now ++ with_line_feeds (shown_lines names ledgers h es 0 es))
    (subst (λ (o : Option ℕ). IsLeast (is_shown h es) c.loop-index.from o) (none_left c.next.result c.in_default.not-Some) c.next.ensures) c.loop-index.invariant.so_far

use Rattle.std.proofs.Common.{◌≡◌, ◌+◌, ◌≤◌, length, min, arith}
use Rattle.std.specs.Prelude.{◌&&◌, slice_get}
use Rattle.replicated_subs.specs.Alone.{is_some_updated, reaches_none}
use Rattle.replicated_subs.proofs.Walk.{at_most_one, count_start, count_step}
use Rattle.replicated_subs.proofs.update_writes.runs.Goals as goal

pub loop-at-init : goal.loop-at-init
loop-at-init g c =
    let es = g.S.EntryStore.entries c.args.store.now in
    let first = c.next_open-at.ensures.least in
    let end : c.min-end.result ≡ min (c.args.index + 1) (length es) =
    omega (arith, c.min-end.ensures, c.saturating_add.ensures, c.len.ensures.len, c.len.type_inv) in
    record {
      rest = count_start c.args.from es c.args.cursor.now.indexes (c.args.index + 1) c.next_open-at.result c.min-end.result end first;
      outside = first.outside;
      few = omega arith;
    }

pub loop-at-preserved : goal.loop-at-preserved
loop-at-preserved g c =
    let es = g.S.EntryStore.entries c.args.store.now in
    let set = c.args.cursor.now.indexes in
    let k = c.loop-at.at in
    let inv = c.loop-at.invariant in
    let first = c.next_open-at-in-loop-at.ensures.least in
    let places = c.places_at-count.ensures in
    let one : c.places_at-count.result ≤ 1 = at_most_one (is_some_updated c.args.from (slice_get es k) && reaches_none c.args.from es set k) c.places_at-count.result places in
    record {
      rest = rw places (count_step c.args.from es set c.loop-at.count k c.next_open-at-in-loop-at.result c.min-end.result _ c.loop-at-test.true inv.outside first inv.rest);
      outside = first.outside;
      few = omega (arith, inv.few, first.reached, one);
    }

use Rattle.std.proofs.Common.{◌+◌, ◌<◌, arith}
use Rattle.geo_base.specs.Traced.{gained}
use Rattle.geo_base.specs.Updating.{updated_indexes}
use Rattle.replicated_subs.proofs.Walk.{is_passed, passed_walk}
use Rattle.trace_runs.proofs.Gains.{gain_end, gain_start, gain_step}
use Rattle.trace_runs.proofs.gained.gained_by_update.Goals as goal

pub loop-at-init : goal.loop-at-init
loop-at-init g c =
    let es = g.S.EntryStore.entries c.args.store.now in
    let set = c.args.cursor.now.indexes in let first = c.next_open-at.ensures.least in
    record {
      lacks = first.outside;
      rest =
          gain_start (is_passed c.args.from es) set c.none-gained.result.indexes (updated_indexes c.args.from 0 (c.args.index + 1) es) c.next_open-at.result (c.args.index + 1) c.none-gained.ensures
          (passed_walk c.args.from (c.args.index + 1) es) first;
    }

pub loop-at-preserved : goal.loop-at-preserved
loop-at-preserved g c =
    let es = g.S.EntryStore.entries c.args.store.now in
    let set = c.args.cursor.now.indexes in let first = c.next_open-at-in-loop-at.ensures.least in
    let within : c.loop-at.at < c.args.index + 1 = omega (arith, c.loop-at-test.true) in
    record {
      lacks = first.outside;
      rest =
          gain_step (is_passed c.args.from es) set c.loop-at.gained.indexes c.add_updated.new.gained.indexes c.loop-at.at c.next_open-at-in-loop-at.result (c.args.index + 1)
          (gained set (updated_indexes c.args.from 0 (c.args.index + 1) es)) within
          c.loop-at.invariant.lacks c.in_ok-add_updated.ensures first c.loop-at.invariant.rest;
    }

pub returns : goal.returns
returns g c =
    let es = g.S.EntryStore.entries c.args.store.now in
    gain_end (is_passed c.args.from es) c.args.cursor.now.indexes c.loop-at.gained.indexes c.loop-at.at (c.args.index + 1) _ (omega (arith, c.loop-at-test.false)) c.loop-at.invariant.rest

pub overflow_add-at : goal.overflow_add-at
overflow_add-at g c = omega (arith, c.requires, c.len-len.ensures.len, c.len-len.type_inv, c.loop-at-test.true)

use Rattle.std.proofs.Common.{◌+◌, ◌<◌, arith}
use Rattle.replicated_subs.proofs.Walk.{acked_start, acked_step, is_passed, room_start, room_step}
use Rattle.replicated_subs.proofs.update_writes.update_to.Goals as goal

pub loop-at-init : goal.loop-at-init
loop-at-init g c =
    let es = g.S.EntryStore.entries c.args.store.now in
    let set = c.args.cursor.now.indexes in
    let still = c.next_open-at.ensures.again in
    let first = c.next_open-at.ensures.least in
    record {
      acked = acked_start c.args.from es set c.next_open-at.result (c.args.index + 1) still first;
      room = room_start c.args.from es set c.next_open-at.result (c.args.index + 1) c.args.cursor.now.spare still first c.requires.room;
    }

pub loop-at-preserved : goal.loop-at-preserved
loop-at-preserved g c =
    let p = is_passed c.args.from (g.S.EntryStore.entries c.args.store.now) in
    let set = c.loop-at.cursor.indexes in
    let after = c.update_one.new.cursor.indexes in
    let k = c.loop-at.at in
    let end = c.args.index + 1 in
    let next = c.next_open-at-in-loop-at.result in
    let still = c.next_open-at-in-loop-at.ensures.again in
    let first = c.next_open-at-in-loop-at.ensures.least in
    let within : k < end = omega (arith, c.loop-at-test.true) in
    let one = c.update_one.ensures in
    record {
      acked = acked_step p set after k next end _ within one.indexes still first c.loop-at.invariant.acked;
      room = room_step p set after k next end c.loop-at.cursor.spare c.update_one.new.cursor.spare within one.indexes still first c.loop-at.invariant.room one.spare;
    }

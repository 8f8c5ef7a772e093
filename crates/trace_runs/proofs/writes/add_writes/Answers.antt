use Rattle.std.proofs.Common.{◌<◌, arith, refl}
use Rattle.std.proofs.Math.Seq.{take-length}
use Rattle.report_lines.proofs.Standing.{on_err, stands_on, still_stands}
use Rattle.broker_state.specs.Plan.{name_in}
use Rattle.broker_state.specs.Writes.{machine_write}
use Rattle.geo_base.specs.Traced.{cause_of}
use Rattle.trace_runs.proofs.Seen.{seen_both, seen_same}
use Rattle.trace_runs.proofs.Steps.{all_added, within_at, write_added}
use Rattle.trace_runs.proofs.writes.add_writes.Goals as goal

pub add_write-requires : goal.add_write-requires
add_write-requires c =
    let v = c.args.node.now in let p = c.args.plan.now in
    record {
      within = within_at v.site.per_ledger (name_in v.broker.subs p) v.broker.entries p.sub v.broker p.writes c.loop-number.number c.write_at.result.now c.requires.fits.writes c.write_at.ensures;
      known = c.loop-number.invariant.seen.known;
    }

pub loop-number-init : goal.loop-number-init
loop-number-init c = record { told = refl; begins = take-length c.args.telling.now.text; seen = seen_same c.args.node.now c.args.telling.now.snapshots c.requires.known }

pub loop-number-preserved : goal.loop-number-preserved
loop-number-preserved c =
    let v = c.args.node.now in let p = c.args.plan.now in
    let within : c.loop-number.number < c.args.count = omega (arith, c.loop-number-test.true, c.min-number-end.ensures) in
    record {
      told =
          write_added v.site (cause_of v.broker c.args.event.now) c.cause_of-cause.result v.broker c.name_of-sub.result.now (name_in v.broker.subs p) c.args.count c.loop-number.number p.writes
          c.write_at.result.now c.loop-number.telling.text c.add_write.new.telling.text _ c.write_at.ensures within c.cause_of-cause.ensures c.name_of-sub.ensures c.in_ok-add_write.ensures.told
          c.loop-number.invariant.told;
      begins = still_stands c.args.telling.now.text c.loop-number.telling.text c.add_write.new.telling.text _ c.in_ok-add_write.ensures.told c.loop-number.invariant.begins;
      seen = seen_both v c.args.telling.now.snapshots c.loop-number.telling.snapshots c.add_write.new.telling.snapshots c.loop-number.invariant.seen c.in_ok-add_write.ensures.seen;
    }

pub returns-clause-told : goal.returns-clause-told
returns-clause-told c =
    let v = c.args.node.now in let p = c.args.plan.now in
    all_added v.site (cause_of v.broker c.args.event.now) v.broker (machine_write (name_in v.broker.subs p) v.broker.entries) c.args.count c.loop-number.number p.writes c.loop-number.telling.text _
    (omega (arith, c.loop-number-test.false, c.min-number-end.ensures, c.write_count.ensures)) c.loop-number.invariant.told

pub returns-clause-seen : goal.returns-clause-seen
returns-clause-seen c = c.loop-number.invariant.seen

pub returns-in_err-add_write-clause-seen : goal.returns-in_err-add_write-clause-seen
returns-in_err-add_write-clause-seen c =
    seen_both c.args.node.now c.args.telling.now.snapshots c.loop-number.telling.snapshots c.add_write.new.telling.snapshots c.loop-number.invariant.seen c.add_write.ensures.seen

pub returns-in_err-add_write-clause-err : goal.returns-in_err-add_write-clause-err
returns-in_err-add_write-clause-err c =
    on_err c.from_residual.result
    (stands_on c.args.telling.now.text c.loop-number.telling.text c.add_write.new.telling.text c.loop-number.invariant.begins c.in_err-add_write.ensures.err)

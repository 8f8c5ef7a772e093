use Rattle.std.proofs.Common.{◌<◌, length, arith, refl}
use Rattle.live_run.proofs.Forming.{one_more}
use Rattle.live_run.proofs.crew.Crew.new.Goals as goal

pub loop-number-preserved : goal.loop-number-preserved
loop-number-preserved c =
    let within : c.loop-number.number < length c.args.roles.now = (let test = c.loop-number-test.true in let end = c.min-number-end.ensures in omega (arith, test, end)) in
    one_more c.args.scenario.now c.args.roles.now c.args.worker c.args.workers c.loop-number.number _ _ _ _ within refl c.loop-number.invariant c.in_ok-add_where.ensures

use Rattle.std.proofs.Common.{subst, sym}
use Rattle.std.specs.Prelude.{OnOk}
use Rattle.geo_base.specs.Plan.{Plan}
use Rattle.broker_plans.specs.Prepared.{IsPrepared}
use Rattle.broker_packets.proofs.Twice.{taken_twice}
use Rattle.broker_packets.proofs.taking.take_twice.Goals as goal

pub returns-clause-prepared : goal.returns-clause-prepared
returns-clause-prepared c =
    let h = c.args.state.now.site in
    let b = c.args.state.now.broker in
    subst (λ (q : Plan). OnOk c.take_times.result (IsPrepared h b q c.take_times.new.plan)) (sym (taken_twice h b c.args.source c.args.packet)) c.take_times.ensures.prepared

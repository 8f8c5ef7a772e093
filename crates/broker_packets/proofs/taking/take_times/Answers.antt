use Rattle.std.proofs.Common.{subst}
use Rattle.std.specs.Prelude.{OnOk}
use Rattle.broker_plans.specs.Prepared.{IsPrepared}
use Rattle.broker_packets.specs.Acts.{acted}
use Rattle.broker_packets.specs.declared.act.TakeAct.{TakeAct}
use Rattle.broker_packets.proofs.taking.take_times.Goals as goal

pub returns-clause-prepared : goal.returns-clause-prepared
returns-clause-prepared c =
    let h = c.args.state.now.site in
    let b = c.args.state.now.broker in
    subst (λ (a : TakeAct). OnOk c.act.result (IsPrepared h b (acted h b c.args.source c.args.packet.session c.args.again a) c.act.new.plan)) c.act_of-todo.ensures.act c.act.ensures.prepared

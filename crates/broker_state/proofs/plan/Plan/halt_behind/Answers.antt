use Rattle.std.proofs.Common.{◌≡◌, ℕ, ◌∙◌, ap}
use Rattle.std.proofs.lemmas.Result.{on_ok_weaker}
use Rattle.geo_base.specs.Broker.{Broker}
use Rattle.geo_base.specs.Plan.{done, halted}
use Rattle.broker_state.specs.Plan.{PlanView, halted_view, plan_in}
use Rattle.broker_state.proofs.Halts.{halted_done}
use Rattle.broker_state.proofs.plan.Plan.halt_behind.Goals as goal

pub returns-clause-halted : goal.returns-clause-halted
returns-clause-halted c =
    let p = c.args.self.now in
    let q = c.stop_behind.new.self in
    on_ok_weaker {P = q ≡ halted_view c.args.k p} {Q = (per : ℕ) (b : Broker) → done per b (plan_in b q) ≡ halted per b c.args.k (plan_in b p)} c.stop_behind.result
    (λ is per b. ap (λ (q : PlanView). done per b (plan_in b q)) is ∙ halted_done per c.args.k b p) c.stop_behind.ensures.ok

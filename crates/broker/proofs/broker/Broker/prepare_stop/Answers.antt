use Rattle.std.proofs.Common.{◌≡◌, ℕ, ◌+◌, min, ap, ◌∙◌, subst, sym}
use Rattle.std.proofs.lemmas.Result.{on_ok_weaker}
use Rattle.geo_base.specs.Broker.{Broker}
use Rattle.geo_base.specs.Plan.{done, halted}
use Rattle.broker_state.specs.Plan.{PlanView, halted_view, plan_in}
use Rattle.broker_state.specs.Room.{Room}
use Rattle.broker.specs.Node.{IsReady, BrokerView}
use Rattle.broker.proofs.Halting.{halted_ready}
use Rattle.broker.proofs.broker.Broker.prepare_stop.Goals as goal

pub returns-clause-halted : goal.returns-clause-halted
returns-clause-halted c =
    let v = c.args.self.now in
    let p = c.args.plan.now in
    let q = c.halt_behind.new.self in
    on_ok_weaker
    {P = (per : ℕ) (b : Broker) → done per b (plan_in b q) ≡ halted per b c.args.writes (plan_in b p)}
    {Q = done v.site.per_ledger v.broker (plan_in v.broker q) ≡ halted v.site.per_ledger v.broker c.args.writes (plan_in v.broker p)}
    c.halt_behind.result (λ stops. stops v.site.per_ledger v.broker) c.halt_behind.ensures.halted

pub returns-clause-ready : goal.returns-clause-ready
returns-clause-ready c =
    let p = c.args.plan.now in
    let q = c.halt_behind.new.self in
    let new = c.reserve_entries.new.self in
    let w : BrokerView = record { topic = c.self.inside.topic; site = new.site; names = c.self.inside.names.items; broker = new.broker; room = new.room } in
    let room : c.self.inside.state.room ≡ c.args.self.now.room = ap (λ (v : BrokerView). v.room) c.self.view_is in
    let ready : IsReady w (halted_view c.args.writes p) =
    halted_ready c.args.self.now w c.args.writes (c.min-room.result + 1) p c.requires (ap (λ (n : ℕ). n + 1) (c.min-room.ensures ∙ ap (λ (n : ℕ). min n c.args.writes) c.write_count.ensures))
    c.in_ok-reserve_entries.ensures.entries c.in_ok-reserve_entries.ensures.streams
    (c.reserve_entries.ensures.rest ∙ ap (λ (r : Room). record r { entries = new.room.entries; streams = new.room.streams }) room)
    (c.reserve_entries.ensures.broker ∙ ap (λ (v : BrokerView). v.broker) c.self.view_is)
    (c.reserve_entries.ensures.site ∙ ap (λ (v : BrokerView). v.site) c.self.view_is) in
    on_ok_weaker {P = q ≡ halted_view c.args.writes p} {Q = IsReady w q} c.halt_behind.result (λ is. subst (λ (p : PlanView). IsReady w p) (sym is) ready) c.halt_behind.ensures.made

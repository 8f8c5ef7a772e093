-- When a prepared event can be committed, and what becomes of the state.
use Rattle.std.proofs.Common.{◌≡◌, ℕ, [], refl, sym, ◌∙◌, ap, subst, arith}
use Rattle.geo_base.specs.Broker.{Broker, Site}
use Rattle.geo_base.specs.Plan.{Plan, done, halted, idle_plan}
use Rattle.broker_state.specs.State.{StateView}
use Rattle.broker_state.specs.Plan.{PlanView, idle_view, plan_in}
use Rattle.broker_state.specs.Room.{HasRoom, Room}
use Rattle.broker_plans.specs.Prepared.{IsPrepared, unsent}
use Rattle.broker_plans.specs.Storable.{PlanStorable}
use Rattle.broker.specs.Node.{IsReady, BrokerView, NodeHolds}
use Rattle.broker.proofs.Keeps.{done_keeps}

stored_unsent : (h : Site) (plan : Plan) → PlanStorable h plan → PlanStorable h (unsent plan)
stored_unsent h plan is = record { writes = is.writes; changes = is.changes }

-- a prepared event that finds its room
pub ready_of : (v : BrokerView) (plan : Plan) (p : PlanView) → IsPrepared v.site v.broker plan p → HasRoom v.room p → IsReady v p
ready_of v plan p is room = record {
  room = room;
  fits = is.fits;
  stored = subst (PlanStorable v.site) (sym is.steps) (stored_unsent v.site plan is.stored);
}

-- also when its packets are taken out
pub still_ready : (v : BrokerView) (p : PlanView) → IsReady v p → IsReady v (record p { sent = [] })
still_ready v p is = record {
  room = record { writes = is.room.writes; given = is.room.given; replicators = is.room.replicators };
  fits = record { writes_named = is.fits.writes_named; changes_named = is.fits.changes_named; writes = is.fits.writes; changes = is.fits.changes };
  stored = record { writes = is.stored.writes; changes = is.stored.changes };
}

pub ready_without : (v : BrokerView) (p q : PlanView) → IsReady v p → q ≡ record p { sent = [] } → IsReady v q
ready_without v p q is without = rw without (still_ready v p is)

-- its steps are the plan's
pub done_is : (h : Site) (b : Broker) (plan : Plan) (p : PlanView) → IsPrepared h b plan p → done h.per_ledger b (plan_in b p) ≡ done h.per_ledger b plan
done_is h b plan p is = ap (λ (q : Plan). done h.per_ledger b q) is.steps

pub halted_is : (h : Site) (b : Broker) (k : ℕ) (plan : Plan) (p : PlanView) → IsPrepared h b plan p → halted h.per_ledger b k (plan_in b p) ≡ halted h.per_ledger b k plan
halted_is h b k plan p is = ap (λ (q : Plan). halted h.per_ledger b k q) is.steps

pub idle_is : (h : Site) (b : Broker) (plan : Plan) (p : PlanView) → IsPrepared h b plan p → p.idle ≡ plan.idle
idle_is h b plan p is = ap (λ (q : Plan). q.idle) is.steps

-- the state after it
pub committed_holds : (old new : StateView) (p : PlanView) → NodeHolds old → PlanStorable old.site (plan_in old.broker p)
    → new.broker ≡ done old.site.per_ledger old.broker (plan_in old.broker p) → new.site ≡ old.site → NodeHolds new
committed_holds old new p holds stored is site = record {
  several = rw site holds.several;
  writable = rw (site, is) (done_keeps old.site old.site.per_ledger old.broker (plan_in old.broker p) stored holds.writable);
}

pub committed : (per per_now : ℕ) (b now new : Broker) (p : PlanView) → new ≡ done per b (plan_in b p) → per ≡ per_now → b ≡ now → new ≡ done per_now now (plan_in now p)
committed per per_now b now new p is same_per same = is ∙ rw (same_per, same) refl

-- an event that is not enabled
pub idle_prepared : (h : Site) (b : Broker) (p : PlanView) → p ≡ idle_view → IsPrepared h b idle_plan p
idle_prepared h b p is =
    rw is (record {
      steps = refl;
      sent = tt;
      fits = record { writes_named = tt; changes_named = tt; writes = tt; changes = tt };
      stored = record { writes = tt; changes = tt };
    })

pub idle_room : (room : Room) (p : PlanView) → p ≡ idle_view → HasRoom room p
idle_room room p is =
    rw is (record { writes = record { entries = omega arith; streams = omega arith; places = omega arith; acks = tt; replicators = omega arith }; given = omega arith; replicators = omega arith })

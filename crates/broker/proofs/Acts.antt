-- An event that was prepared and committed was done.
use Rattle.std.proofs.Common.{◌≡◌, ℕ, Bool, List, [], refl, ◌∙◌, ap}
use Rattle.geo_base.specs.declared.packet.WireOut.{WireOut}
use Rattle.geo_base.specs.Plan.{Plan, done, halted}
use Rattle.geo_base.specs.Broker.{Broker, Site}
use Rattle.broker_state.specs.Plan.{PlanView, plan_in}
use Rattle.broker_plans.specs.Prepared.{IsPrepared}
use Rattle.broker.specs.Node.{IsDone, BrokerView}
use Rattle.broker.proofs.Ready.{done_is, halted_is, idle_is}

-- from the node where the event was prepared to the node before, which differ in room alone
done_there : (v w : BrokerView) (q : PlanView) → w.broker ≡ v.broker → w.site ≡ v.site → done w.site.per_ledger w.broker (plan_in w.broker q) ≡ done v.site.per_ledger v.broker (plan_in v.broker q)
done_there v w q broker site =
    ap (λ (h : Site). done h.per_ledger w.broker (plan_in w.broker q)) site ∙ ap (λ (b : Broker). done v.site.per_ledger b (plan_in b q)) broker

halted_there : (v w : BrokerView) (k : ℕ) (q : PlanView) → w.broker ≡ v.broker → w.site ≡ v.site → halted w.site.per_ledger w.broker k (plan_in w.broker q) ≡ halted v.site.per_ledger v.broker k (plan_in v.broker q)
halted_there v w k q broker site =
    ap (λ (h : Site). halted h.per_ledger w.broker k (plan_in w.broker q)) site ∙ ap (λ (b : Broker). halted v.site.per_ledger b k (plan_in b q)) broker

without_sent : (per : ℕ) (b : Broker) (p q : PlanView) → q ≡ record p { sent = [] } → done per b (plan_in b q) ≡ done per b (plan_in b p)
without_sent per b p q is = rw is refl

-- v is the node before, w where p was prepared, y when q, which is p without its packets, was committed
pub act_done : (v w y : BrokerView) (plan : Plan) (p q : PlanView) (idle : Bool) (sent : List WireOut) → IsPrepared v.site v.broker plan p → w.broker ≡ v.broker → w.site ≡ v.site
    → q ≡ record p { sent = [] } → y.broker ≡ done w.site.per_ledger w.broker (plan_in w.broker q) → idle ≡ p.idle → sent ≡ p.sent → IsDone v y plan idle sent
act_done v w y plan p q idle sent is broker site without committed idles packets = record {
  broker = committed ∙ done_there v w q broker site ∙ without_sent v.site.per_ledger v.broker p q without ∙ done_is v.site v.broker plan p is;
  idle = idles ∙ idle_is v.site v.broker plan p is;
  sent = rw packets is.sent;
}

-- v is the node before, w where p was prepared, x where its stop q was, y when that was committed
pub halt_done : (v w x y : BrokerView) (k : ℕ) (plan : Plan) (p q : PlanView) → IsPrepared v.site v.broker plan p → w.broker ≡ v.broker → w.site ≡ v.site → x.broker ≡ w.broker → x.site ≡ w.site
    → done w.site.per_ledger w.broker (plan_in w.broker q) ≡ halted w.site.per_ledger w.broker k (plan_in w.broker p) → y.broker ≡ done x.site.per_ledger x.broker (plan_in x.broker q)
    → y.broker ≡ halted v.site.per_ledger v.broker k plan
halt_done v w x y k plan p q is broker site broker_then site_then stops committed =
    committed ∙ done_there w x q broker_then site_then ∙ stops ∙ halted_there v w k p broker site ∙ halted_is v.site v.broker k plan p is

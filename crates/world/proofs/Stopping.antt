-- A stop of everything leads to the machine's world after it.
use Rattle.std.proofs.Common.{◌≡◌, ℕ, zero, suc, ◌+◌, ◌*◌, ◌/◌, ◌%◌, ◌<◌, List, [], ◌∷◌, ◌++◌, length, map, take, refl, sym, ◌∙◌, ap, subst, arith}
use Rattle.std.proofs.lemmas.List.{get_or_default}
use Rattle.std.proofs.lemmas.Nat.{div-add-mod'}
use Rattle.std.proofs.Math.Nat.{div-lt_iff_lt-mul, mod-lt}
use Rattle.std.specs.Prelude.{All, Some, None, Result, Ok, Err, OnOk, slice_index_or}
use Rattle.geo_base.specs.declared.memory.Memory.{Memory}
use Rattle.geo_base.specs.Broker.{Broker, Site}
use Rattle.geo_base.specs.Client.{unconnected}
use Rattle.geo_base.specs.Happening.{stops}
use Rattle.geo_base.specs.Plan.{done}
use Rattle.geo_base.specs.Scripted.{IsScripted}
use Rattle.geo_base.specs.Seeking.{restart}
use Rattle.geo_base.specs.Setup.{Setup}
use Rattle.geo_base.specs.World.{World, node}
use Rattle.broker_state.specs.Plan.{PlanView, plan_in}
use Rattle.broker_plans.specs.Prepared.{IsPrepared}
use Rattle.broker.proofs.Ready.{done_is}
use Rattle.broker.specs.Events.{IsNodeOf}
use Rattle.broker.specs.Node.{BrokerView, SameNode}
use Rattle.geo_base.proofs.Mapped.{left_whole}
use Rattle.links.specs.Each.{Each, more, none}
use Rattle.links.specs.Queues.{all_discarded}
use Rattle.kept_laws.proofs.Keeping.{stop}
use Rattle.kept_laws.specs.Kept.{Kept, all_stopped}
use Rattle.kept_laws.specs.Standing.{Stands, limit_of}
use Rattle.world_laws.proofs.Replicating.Sizes.{node_lt}
use Rattle.kept_laws.proofs.Reaching.{stop_reached}
use Rattle.world.specs.declared.fault.RunFault.{RunFault}
use Rattle.world.specs.declared.fault.RunFault.TheVariants as fault
use Rattle.world.specs.Restarts.{IsRestarted, IsSame}
use Rattle.world.specs.Steps.{Leads}
use Rattle.world.specs.World.{AreNodes, IsAt, SameWorld, WorldView, brokers_of, kept_of, no_node, node_at}
use Rattle.world.proofs.After.{after}
use Rattle.world.proofs.Leading.{Answer, failed, leads_by}

-- ---- one after another

each_at : {A B : Type 0} (R : A → B → Type 0) (xs : List A) (ys : List B) (k : ℕ) (d : A) (e : B) → Each R xs ys → k < length xs → R (slice_index_or xs k d) (slice_index_or ys k e)
each_at R _ _ k d e none lt = absurd (omega (arith, lt))
each_at R (x ∷ xs) (y ∷ ys) zero d e (more r rs) lt = r
each_at R (x ∷ xs) (y ∷ ys) (suc k) d e (more r rs) lt = each_at R xs ys k d e rs (omega (arith, lt))

each_length : {A B : Type 0} (R : A → B → Type 0) (xs : List A) (ys : List B) → Each R xs ys → length xs ≡ length ys
each_length R _ _ none = refl
each_length R (x ∷ xs) (y ∷ ys) (more r rs) = ap suc (each_length R xs ys rs)

each_map : {A B : Type 0} (R S : A → B → Type 0) (xs : List A) (ys : List B) → ((x : A) (y : B) → R x y → S x y) → Each R xs ys → Each S xs ys
each_map R S _ _ f none = none
each_map R S (x ∷ xs) (y ∷ ys) f (more r rs) = more (f x y r) (each_map R S xs ys f rs)

-- the first broker of some, and the others
pub none_left : {R : BrokerView → BrokerView → Type 0} (vs : List BrokerView) → length vs ≡ 0 → Each R vs vs
none_left [] size = none
none_left (v ∷ vs) size = absurd (omega (arith, size))

same_self : (v : BrokerView) → IsSame v v
same_self v = record { node = record { topic = refl; site = refl; names = refl; replicators = refl; sessions = refl }; broker = refl }

all_same : (vs : List BrokerView) → Each IsSame vs vs
all_same [] = none
all_same (v ∷ vs) = more (same_self v) (all_same vs)

pub first_same : (vs ws : List BrokerView) (v u : BrokerView) → vs ≡ v ∷ ws → IsSame v u → Each IsSame vs (u ∷ ws)
first_same vs ws v u is same = rw is (more same (all_same ws))

pub more_same : (vs ws us : List BrokerView) (v u : BrokerView) → vs ≡ v ∷ ws → IsSame v u → Each IsSame ws us → Each IsSame vs (u ∷ us)
more_same vs ws us v u is same rest = rw is (more same rest)

both_same : (v u w : BrokerView) → SameNode v u → SameNode u w → SameNode v w
both_same v u w p q = record {
  topic = q.topic ∙ p.topic;
  site = q.site ∙ p.site;
  names = q.names ∙ p.names;
  replicators = q.replicators ∙ p.replicators;
  sessions = q.sessions ∙ p.sessions;
}

started : (v u w : BrokerView) (p : PlanView) → IsSame v u → done v.site.per_ledger v.broker (plan_in v.broker p) ≡ done v.site.per_ledger v.broker restart
    → w.broker ≡ done u.site.per_ledger u.broker (plan_in u.broker p) → SameNode u w → IsRestarted v w
started v u w p same restarts broker node = record {
  node = both_same v u w same.node node;
  broker =
      broker ∙ ap (λ (h : Site). done h.per_ledger u.broker (plan_in u.broker p)) same.node.site
      ∙ ap (λ (b : Broker). done v.site.per_ledger b (plan_in b p)) same.broker ∙ restarts;
}

pub more_restarted : (vs ws us : List BrokerView) (v u w : BrokerView) (p : PlanView) → vs ≡ v ∷ ws → IsSame v u
    → done v.site.per_ledger v.broker (plan_in v.broker p) ≡ done v.site.per_ledger v.broker restart
    → w.broker ≡ done u.site.per_ledger u.broker (plan_in u.broker p) → SameNode u w → Each IsRestarted ws us → Each IsRestarted vs (w ∷ us)
more_restarted vs ws us v u w p is same restarts broker node rest = rw is (more (started v u w p same restarts broker node) rest)

pub restart_done : (v : BrokerView) (p : PlanView) (r : Result (Unit {0}) Memory) → OnOk r (IsPrepared v.site v.broker restart p)
    → OnOk r (done v.site.per_ledger v.broker (plan_in v.broker p) ≡ done v.site.per_ledger v.broker restart)
restart_done v p (Ok u) is = done_is v.site v.broker restart p is
restart_done v p (Err m) is = tt

-- ---- all brokers of a setup

all_of : (s : Setup) (P : BrokerView → Type 0) (vs : List BrokerView) → IsScripted s → AreNodes s vs
    → ((t x : ℕ) → t < length s.topics → x < length s.clusters → P (node_at vs (node s t x))) → All P vs
all_of s P vs scripted h each k d lt =
    let c : ℕ = length s.clusters in let size : length vs ≡ length s.topics * c = h.count in
    let some : 0 < c = omega (arith, scripted.clusters.0) in
    let topic : k / c < length s.topics = (div-lt_iff_lt-mul {k = c} {x = k} {y = length s.topics} some).1 (subst (λ (m : ℕ). k < m) size lt) in
    let there : node s (k / c) (k % c) ≡ k = div-add-mod' k c in
    subst P (ap (λ (m : ℕ). node_at vs m) there ∙ get_or_default vs k no_node d lt) (each (k / c) (k % c) topic (mod-lt k some))

per_ledger_is : (s : Setup) (vs : List BrokerView) → IsScripted s → AreNodes s vs → All (λ (v : BrokerView). v.site.per_ledger ≡ s.per_ledger) vs
per_ledger_is s vs scripted h =
    all_of s (λ (v : BrokerView). v.site.per_ledger ≡ s.per_ledger) vs scripted h (λ t x topic cluster. ap (λ (g : Site). g.per_ledger) (h.each t x topic cluster).site)

restarted_brokers : (per : ℕ) (vs us : List BrokerView) → Each IsRestarted vs us → All (λ (v : BrokerView). v.site.per_ledger ≡ per) vs
    → brokers_of us ≡ map (λ (b : Broker). done per b restart) (brokers_of vs)
restarted_brokers per _ _ none all = refl
restarted_brokers per (v ∷ vs) (u ∷ us) (more r rs) all =
    let first : u.broker ≡ done per v.broker restart = r.broker ∙ ap (λ (n : ℕ). done n v.broker restart) (all 0 v (omega arith)) in
    ap (λ (b : Broker). b ∷ brokers_of us) first
    ∙ ap (λ (bs : List Broker). done per v.broker restart ∷ bs) (restarted_brokers per vs us rs (λ k d lt. all (suc k) d (omega (arith, lt))))

same_brokers : (vs us : List BrokerView) → Each IsSame vs us → brokers_of us ≡ brokers_of vs
same_brokers _ _ none = refl
same_brokers (v ∷ vs) (u ∷ us) (more r rs) =
    ap (λ (b : Broker). b ∷ brokers_of us) r.broker ∙ ap (λ (bs : List Broker). v.broker ∷ bs) (same_brokers vs us rs)

node_same : (s : Setup) (t x : ℕ) (v u : BrokerView) → SameNode v u → IsNodeOf s t x v → IsNodeOf s t x u
node_same s t x v u same is = record { topic = same.topic ∙ is.topic; site = same.site ∙ is.site; names = same.names ∙ is.names }

same_nodes : (s : Setup) (vs us : List BrokerView) → Each SameNode vs us → AreNodes s vs → AreNodes s us
same_nodes s vs us same h = record {
  count = sym (each_length SameNode vs us same) ∙ h.count;
  each = λ t x topic cluster.
      let lt : node s t x < length vs = subst (λ (m : ℕ). node s t x < m) (sym h.count) (node_lt s t x (topic, cluster)) in
      node_same s t x (node_at vs (node s t x)) (node_at us (node s t x)) (each_at SameNode vs us (node s t x) no_node no_node same lt) (h.each t x topic cluster);
}

-- ---- the world

-- the brokers behind their vector
pub behind : {R : BrokerView → BrokerView → Type 0} (vs us rest : List BrokerView) (n : ℕ) → length vs ≡ n → Each R vs us → take n (us ++ rest) ≡ us
behind {R = R} vs us rest n size all = left_whole n us rest (sym (each_length R vs us all) ∙ size)

-- nothing but room has changed
pub same_room : (old new : WorldView) (us : List BrokerView) → Each IsSame old.brokers us → new ≡ record old { brokers = us } → SameWorld old new
same_room old new us all is = rw is (record {
  kept = ap (λ (bs : List Broker). record (kept_of old) { brokers = bs }) (same_brokers old.brokers us all);
  brokers = λ s h. same_nodes s old.brokers us (each_map IsSame SameNode old.brokers us (λ v u r. r.node) all) h;
})

abbrev stopped : Setup → WorldView → Kept
stopped s b = all_stopped (kept_of b) (map (λ (c : Broker). done s.per_ledger c restart) (brokers_of b.brokers)) (map unconnected b.clients)

stopped_kept : (s : Setup) (old new : WorldView) (us : List BrokerView) → IsAt s old → Each IsRestarted old.brokers us
    → new ≡ record old { brokers = us; clients = map unconnected old.clients; links = all_discarded old.links; events = old.events + 1 } → kept_of new ≡ stopped s old
stopped_kept s old new us h all is =
    ap kept_of is
    ∙ ap (λ (bs : List Broker). all_stopped (kept_of old) bs (map unconnected old.clients))
    (restarted_brokers s.per_ledger old.brokers us all (per_ledger_is s old.brokers h.setup h.brokers))

abbrev IsFault : Answer → Type 0
IsFault (Ok unit) = ⊥
IsFault (Err f) = Unit {0}

no_fault : (unit : Unit {0}) (f : RunFault) → Ok unit ≡ failed f → ⊥
no_fault unit f is = subst (λ (r : Answer). IsFault r) (sym is) tt

pub leads_stopped : (s : Setup) (old new : WorldView) (us : List BrokerView) (w : World) (unit : Unit {0}) → IsAt s old → Stands s (kept_of old) w → Each IsRestarted old.brokers us
    → new ≡ record old { brokers = us; clients = map unconnected old.clients; links = all_discarded old.links; events = old.events + 1 }
    → limit_of (old.events + 1) old.idle old.frame_bytes ≡ None → Leads s old new (stops s w) (Ok unit)
leads_stopped s old new us w unit h stands all is low =
    leads_by s old new (stopped s old) (stops s w) (Ok unit) (stop s (kept_of old) w stands) (stopped_kept s old new us h all is) low
    (λ n past. absurd (no_fault unit (fault.TooLarge n) past))

pub leads_past : (s : Setup) (old new : WorldView) (w : World) (f : RunFault) → Stands s (kept_of old) w
    → ((n : ℕ) → failed f ≡ failed (fault.TooLarge n) → limit_of (old.events + 1) old.idle old.frame_bytes ≡ Some n) → Leads s old new (stops s w) (Err f)
leads_past s old new w f stands large = leads_by s old new (stopped s old) (stops s w) (Err f) (stop s (kept_of old) w stands) tt tt large

-- and the next event can begin
pub at_stopped : (s : Setup) (old new : WorldView) (us : List BrokerView) → IsAt s old → Each IsRestarted old.brokers us
    → new ≡ record old { brokers = us; clients = map unconnected old.clients; links = all_discarded old.links; events = old.events + 1 }
    → limit_of (old.events + 1) old.idle old.frame_bytes ≡ None → IsAt s new
at_stopped s old new us h all is low =
    let brokers : AreNodes s us = same_nodes s old.brokers us (each_map IsRestarted SameNode old.brokers us (λ v u r. r.node) all) h.brokers in
    after s old new (λ w. stops s w) (Ok tt) h (λ w reached stands. leads_stopped s old new us w tt h stands all is low) (λ w reached. stop_reached s w reached)
    (subst (λ (b : WorldView). AreNodes s b.brokers) (sym is) brokers) tt

-- A session to another cluster begins, or none.
use Rattle.std.proofs.Common.{◌≡◌, ℕ, ◌<◌, Bool, true, false, [], ◌∷◌, length, sym, ◌∙◌, ap, subst}
use Rattle.std.specs.Prelude.{◌==◌, ◌+◌, nat_lt, not, if◌then◌else◌}
use Rattle.std.proofs.lemmas.Bool.{and_parts, ltb-true}
use Rattle.geo_base.specs.declared.change.Change.TheVariants as change
use Rattle.geo_base.specs.declared.frame.Frame.{Frame}
use Rattle.geo_base.specs.declared.packet.Peer.TheVariants as peer
use Rattle.geo_base.specs.declared.write.Write.TheVariants as write
use Rattle.geo_base.specs.Broker.{Broker, Site, replicator_at}
use Rattle.geo_base.specs.Forwarding.{is_remote, reset, resets}
use Rattle.geo_base.specs.Plan.{Plan, idle_plan, plan_of}
use Rattle.broker_state.specs.Plan.{PlanView, idle_view}
use Rattle.broker_plans.specs.Prepared.{AlsoSends, IsPrepared}
use Rattle.broker_plans.proofs.Keeping.{sends_more}
use Rattle.broker_packets.specs.Answers.{opening, opening_out}
use Rattle.broker_packets.proofs.Plans.{idle}

-- ---- a session to a cluster begins

pub opens_sent : (h : Site) (y session : ℕ) (f : Frame) (p q : PlanView) → f ≡ opening h session → AlsoSends h.clusters (record { to = peer.Forward y; session = session; frame = f }) p q
    → AlsoSends h.clusters (opening_out h y session) p q
opens_sent h y session f p q frame more =
    subst (λ (g : Frame). AlsoSends h.clusters (record { to = peer.Forward y; session = session; frame = g }) p q) frame more

pub begins_sent : (h : Site) (b : Broker) (y session : ℕ) (p q : PlanView) → IsPrepared h b (plan_of (write.SessionNumber y session ∷ []) (change.Opening y ∷ []) []) p
    → AlsoSends h.clusters (opening_out h y session) p q → IsPrepared h b (resets h y session) q
begins_sent h b y session p q is more = sends_more h b _ _ (opening_out h y session) p q is more

-- ---- reset

-- by whether y is another cluster
abbrev reset_if : Site → Broker → ℕ → Bool → Plan
reset_if h b y remote = if remote then resets h y ((replicator_at b y).session + 1) else idle_plan

reset_is : (h : Site) (b : Broker) (y : ℕ) (t : Bool) → t ≡ is_remote h y → reset_if h b y t ≡ reset h b y
unfolding reset
reset_is h b y t told = ap (λ (u : Bool). reset_if h b y u) told

pub reset_idle : (h : Site) (b : Broker) (y : ℕ) (t : Bool) (p : PlanView) → t ≡ is_remote h y → t ≡ false → p ≡ idle_view → IsPrepared h b (reset h b y) p
reset_idle h b y t p told other is =
    subst (λ (q : Plan). IsPrepared h b q p) (reset_is h b y false (sym other ∙ told)) (idle h b p is)

pub reset_begins : (h : Site) (b : Broker) (y session : ℕ) (t : Bool) → t ≡ is_remote h y → t ≡ true → session ≡ (replicator_at b y).session + 1 → resets h y session ≡ reset h b y
reset_begins h b y session t told remote next = ap (λ (n : ℕ). resets h y n) next ∙ reset_is h b y true (sym remote ∙ told)

-- g is the site as it was read, and there is a replicator for each cluster
pub remote_within : (h g : Site) (b : Broker) (y : ℕ) (t : Bool) → length b.replicators ≡ length h.clusters → g ≡ h → t ≡ is_remote g y → t ≡ true → y < length b.replicators
remote_within h g b y t replicators same told remote =
    let is : t ≡ is_remote h y = told ∙ ap (λ (k : Site). is_remote k y) same in
    let within : nat_lt y (length h.clusters) ≡ true = (and_parts (nat_lt y (length h.clusters)) (not (y == h.own)) (sym is ∙ remote)).0 in
    subst (λ (n : ℕ). y < n) (sym replicators) (ltb-true y (length h.clusters) within)

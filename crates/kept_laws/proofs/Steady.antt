-- Facts of one broker at a time that each event keeps, whatever it writes before it stops.
use Rattle.std.proofs.Common.{ℕ, zero, suc, ◌*◌, List, [], ◌∷◌, ◌++◌, length, sym, subst}
use Rattle.std.specs.Prelude.{Option, Some, None, take}
use Rattle.std.proofs.lemmas.List.{get_or-replicate}
use Rattle.world_laws.proofs.Types.{Change, Write}
use Rattle.world_laws.proofs.Types.change
use Rattle.world_laws.proofs.Types.write
use Rattle.geo_base.specs.Broker.{Broker, changed, new_broker, no_broker, written}
use Rattle.geo_base.specs.Client.{Acted}
use Rattle.geo_base.specs.Happening.{broker_does, broker_halts, client_does, stops}
use Rattle.geo_base.specs.Plan.{all_changed, all_written, done, halted}
use Rattle.geo_base.specs.Planned.{Planned}
use Rattle.geo_base.specs.Seeking.{restart}
use Rattle.geo_base.specs.Setup.{Setup}
use Rattle.geo_base.specs.World.{LinkName, ToClient, World, node, opening_world, topic_at}
use Rattle.world_laws.proofs.Induction.Layers.{Both, Everywhere, KeptWith, both_kept, one_node}
use Rattle.world_laws.proofs.Replicating.PairRoles.{shape_within}
use Rattle.world_laws.proofs.Induction.Runs.{IsKept}
use Rattle.world_laws.proofs.Walks.Shapes.{Shape}
use Rattle.world_laws.proofs.Replicating.Sizes.{Sized, node_lt, node_there, sized_kept, stopped_at}
use Rattle.world_laws.proofs.Walks.Walk.{on_if}

-- after each of some writes
abbrev pub Along : (Broker → Type 0) → ℕ → Broker → List Write → Type 0
Along P per b [] = Unit {0}
Along P per b (w ∷ ws) = P (written per b w) × Along P per (written per b w) ws

-- of a broker of cluster x
pub record IsSteady (s : Setup) (P : ℕ → Broker → Type 0) : Type 0 where
  pub opening : (x : ℕ) → P x (new_broker (length s.clusters) (length s.clients))
  pub ledger : (x : ℕ) (b : Broker) → P x b → P x (written s.per_ledger b write.Ledger)
  pub forgets : (x : ℕ) (b : Broker) → P x b → P x (changed b change.Forget)
  pub writes : (w : World) (p : Planned) → Shape s w p → P p.cluster (topic_at s w p.topic p.cluster) → Along (P p.cluster) s.per_ledger (topic_at s w p.topic p.cluster) p.plan.writes
  pub changes : (w : World) (p : Planned) → Shape s w p → P p.cluster (topic_at s w p.topic p.cluster) → (b : Broker) → P p.cluster b → P p.cluster (all_changed b p.plan.changes)

pub along_all : (P : Broker → Type 0) (per : ℕ) → ((b : Broker) (w : Write) → P b → P (written per b w)) → (b : Broker) (ws : List Write) → P b → Along P per b ws
along_all P per k b [] h = tt
along_all P per k b (w ∷ ws) h = (k b w h, along_all P per k (written per b w) ws (k b w h))

pub changes_all : (P : Broker → Type 0) → ((b : Broker) (c : Change) → P b → P (changed b c)) → (b : Broker) (cs : List Change) → P b → P (all_changed b cs)
changes_all P k b [] h = h
changes_all P k b (c ∷ cs) h = changes_all P k (changed b c) cs (k b c h)

-- a fact that every write and every change keeps
pub always_steady : (s : Setup) (P : Broker → Type 0) → P (new_broker (length s.clusters) (length s.clients))
    → ((b : Broker) (w : Write) → P b → P (written s.per_ledger b w)) → ((b : Broker) (c : Change) → P b → P (changed b c)) → IsSteady s (λ x b. P b)
always_steady s P opening k l = record {
  opening = λ x. opening;
  ledger = λ x b h. k b write.Ledger h;
  forgets = λ x b h. l b change.Forget h;
  writes = λ w p shape h. along_all P s.per_ledger k (topic_at s w p.topic p.cluster) p.plan.writes h;
  changes = λ w p shape h b g. changes_all P l b p.plan.changes g;
}

along_end : (P : Broker → Type 0) (per : ℕ) (b : Broker) (ws : List Write) → P b → Along P per b ws → P (all_written per b ws)
along_end P per b [] h a = h
along_end P per b (w ∷ ws) h a = along_end P per (written per b w) ws a.0 a.1

along_halt : (P : Broker → Type 0) (per k : ℕ) → ((b : Broker) → P b → P (written per b write.Ledger)) → (b : Broker) (ws : List Write) → P b → Along P per b ws
    → P (all_written per b (take k ws ++ write.Ledger ∷ []))
along_halt P per zero l b ws h a = l b h
along_halt P per (suc k) l b [] h a = l b h
along_halt P per (suc k) l b (w ∷ ws) h a = along_halt P per k l (written per b w) ws a.0 a.1

steady_does : (s : Setup) (P : ℕ → Broker → Type 0) → IsSteady s P → (w : World) (p : Planned) → Shape s w p → Everywhere s P w → Everywhere s P (broker_does s w p)
unfolding broker_does
steady_does s P k w p shape all =
    let b = topic_at s w p.topic p.cluster in
    on_if (Everywhere s P) p.plan.idle _ _ all
    (one_node s P w p.topic p.cluster (done s.per_ledger b p.plan) (shape_within s w p shape)
    (λ here. let h = all p.topic p.cluster here in
    k.changes w p shape h (all_written s.per_ledger b p.plan.writes) (along_end (P p.cluster) s.per_ledger b p.plan.writes h (k.writes w p shape h))) all)

steady_halts : (s : Setup) (P : ℕ → Broker → Type 0) → IsSteady s P → (w : World) (n : ℕ) (p : Planned) → Shape s w p → Everywhere s P w → Everywhere s P (broker_halts s w n p)
unfolding broker_halts
steady_halts s P k w n p shape all =
    let b = topic_at s w p.topic p.cluster in
    one_node s P w p.topic p.cluster (halted s.per_ledger b n p.plan) (shape_within s w p shape)
    (λ here. let h = all p.topic p.cluster here in
    k.forgets p.cluster (all_written s.per_ledger b (take n p.plan.writes ++ write.Ledger ∷ []))
    (along_halt (P p.cluster) s.per_ledger n (k.ledger p.cluster) b p.plan.writes h (k.writes w p shape h))) all

steady_client : (s : Setup) (P : ℕ → Broker → Type 0) (w : World) (c : ℕ) (o : Option LinkName) (a : Acted) → Everywhere s P w → Everywhere s P (client_does s w c o a)
unfolding client_does
steady_client s P w c o a all = on_if (Everywhere s P) a.idle _ _ all all

steady_stops : (s : Setup) (P : ℕ → Broker → Type 0) → IsSteady s P → (w : World) → Sized s w → Everywhere s P w → Everywhere s P (stops s w)
unfolding stops restart
steady_stops s P k w z all t x there =
    let b = topic_at s w t x in
    subst (P x) (sym (stopped_at w.brokers (λ c. done s.per_ledger c restart) (node s t x) (node_there s w t x z there)))
    (k.forgets x (written s.per_ledger b write.Ledger) (k.ledger x b (all t x there)))

steady_opening : (s : Setup) (P : ℕ → Broker → Type 0) → IsSteady s P → Everywhere s P (opening_world s)
steady_opening s P k t x there =
    let n = length s.clusters in
    subst (P x) (sym (get_or-replicate (length s.topics * n) (node s t x) (new_broker n (length s.clients)) no_broker (node_lt s t x there))) (k.opening x)

steady_with : (s : Setup) (P : ℕ → Broker → Type 0) → IsSteady s P → KeptWith s (Sized s) (Everywhere s P)
steady_with s P k = record {
  opening = steady_opening s P k;
  idle = λ w n z all. all;
  round = λ w n z all. all;
  does = λ w p shape z z' all. steady_does s P k w p shape all;
  halts = λ w n p shape z z' all. steady_halts s P k w n p shape all;
  goes = λ w c a z z' all. steady_client s P w c None a all;
  gets = λ w c x a z z' all. steady_client s P w c (Some (ToClient c x)) a all;
  stop = λ w z z' all. steady_stops s P k w z all;
}

-- so it holds of each broker in each world of a run
pub steady_kept : (s : Setup) (P : ℕ → Broker → Type 0) → IsSteady s P → IsKept s (Both (Sized s) (Everywhere s P))
steady_kept s P k = both_kept s (Sized s) (Everywhere s P) (sized_kept s) (steady_with s P k)

-- Facts in layers: a fact that every event keeps where another one holds before and after it; and the facts of one broker's
-- durable state, which a list of writes keeps, whether it is that of an event, of one that stopped, or of one under way.
use Rattle.std.proofs.Common.{ℕ, ◌*◌, ◌<◌, List, [], ◌∷◌, ◌++◌, length, sym, subst}
use Rattle.std.specs.Prelude.{Option, Some, None, take, slice_index_or, slice_set}
use Rattle.std.proofs.lemmas.List.{get_or-replicate}
use Rattle.world_laws.proofs.Types.{Change, Write}
use Rattle.world_laws.proofs.Types.change
use Rattle.world_laws.proofs.Types.write
use Rattle.geo_base.specs.Broker.{Broker, changed, new_broker, no_broker}
use Rattle.geo_base.specs.Client.{Acted}
use Rattle.geo_base.specs.Happening.{broker_does, broker_halts, client_does, stops}
use Rattle.geo_base.specs.Plan.{all_changed, all_written, done, halted}
use Rattle.geo_base.specs.Planned.{Planned}
use Rattle.geo_base.specs.Seeking.{restart}
use Rattle.geo_base.specs.Setup.{Setup}
use Rattle.geo_base.specs.World.{LinkName, ToClient, World, node, opening_world, site, topic_at}
use Rattle.geo_base.specs.Moments.{partly_written}
use Rattle.world_laws.proofs.TopicOrder.Added.{Adds, adds_halt, adds_take, appended, shape_adds}
use Rattle.world_laws.proofs.Induction.Frames.{at_set}
use Rattle.world_laws.proofs.Replicating.LinkFrames.{same_node}
use Rattle.world_laws.proofs.TopicOrder.NoSelf.{NoSelf, no_self_kept}
use Rattle.world_laws.proofs.Replicating.PairRoles.{shape_within}
use Rattle.world_laws.proofs.Replicating.Pairs.{Replicates, replication_kept}
use Rattle.world_laws.proofs.Induction.Runs.{IsKept}
use Rattle.world_laws.proofs.Walks.Shapes.{Shape}
use Rattle.world_laws.proofs.Replicating.Sizes.{IsThere, Sized, node_lt, node_there, stopped_at}
use Rattle.world_laws.proofs.Walks.Walk.{on_if}

-- Q is kept where P holds before and after
pub record KeptWith (s : Setup) (P Q : World → Type 0) : Type 0 where
  pub opening : Q (opening_world s)
  pub idle : (w : World) (n : ℕ) → P w → Q w → Q (record w { idle = n })
  pub round : (w : World) (n : ℕ) → P w → Q w → Q (record w { rounds = n })
  pub does : (w : World) (p : Planned) → Shape s w p → P w → P (broker_does s w p) → Q w → Q (broker_does s w p)
  pub halts : (w : World) (k : ℕ) (p : Planned) → Shape s w p → P w → P (broker_halts s w k p) → Q w → Q (broker_halts s w k p)
  pub goes : (w : World) (c : ℕ) (a : Acted) → P w → P (client_does s w c None a) → Q w → Q (client_does s w c None a)
  pub gets : (w : World) (c x : ℕ) (a : Acted) → P w → P (client_does s w c (Some (ToClient c x)) a) → Q w → Q (client_does s w c (Some (ToClient c x)) a)
  pub stop : (w : World) → P w → P (stops s w) → Q w → Q (stops s w)

abbrev pub Both : (World → Type 0) → (World → Type 0) → World → Type 0
Both P Q w = P w × Q w

pub both_kept : (s : Setup) (P Q : World → Type 0) → IsKept s P → KeptWith s P Q → IsKept s (Both P Q)
both_kept s P Q k l = record {
  opening = (k.opening, l.opening);
  idle = λ w n h. (k.idle w n h.0, l.idle w n h.0 h.1);
  round = λ w n h. (k.round w n h.0, l.round w n h.0 h.1);
  does = λ w p shape h. let after = k.does w p shape h.0 in (after, l.does w p shape h.0 after h.1);
  halts = λ w n p shape h. let after = k.halts w n p shape h.0 in (after, l.halts w n p shape h.0 after h.1);
  goes = λ w c a h. let after = k.goes w c a h.0 in (after, l.goes w c a h.0 after h.1);
  gets = λ w c x a h. let after = k.gets w c x a h.0 in (after, l.gets w c x a h.0 after h.1);
  stop = λ w h. let after = k.stop w h.0 in (after, l.stop w h.0 after h.1);
}

-- what is kept by itself is kept with anything
pub kept_with : (s : Setup) (P Q : World → Type 0) → IsKept s Q → KeptWith s P Q
kept_with s P Q k = record {
  opening = k.opening;
  idle = λ w n p h. k.idle w n h;
  round = λ w n p h. k.round w n h;
  does = λ w q shape p p' h. k.does w q shape h;
  halts = λ w n q shape p p' h. k.halts w n q shape h;
  goes = λ w c a p p' h. k.goes w c a h;
  gets = λ w c x a p p' h. k.gets w c x a h;
  stop = λ w p p' h. k.stop w h;
}

-- and what is kept with one thing is kept with what implies it
pub kept_over : (s : Setup) (P P' Q : World → Type 0) → ((w : World) → P w → P' w) → KeptWith s P' Q → KeptWith s P Q
kept_over s P P' Q f k = record {
  opening = k.opening;
  idle = λ w n p q. k.idle w n (f w p) q;
  round = λ w n p q. k.round w n (f w p) q;
  does = λ w e shape p p' q. k.does w e shape (f w p) (f _ p') q;
  halts = λ w n e shape p p' q. k.halts w n e shape (f w p) (f _ p') q;
  goes = λ w c a p p' q. k.goes w c a (f w p) (f _ p') q;
  gets = λ w c x a p p' q. k.gets w c x a (f w p) (f _ p') q;
  stop = λ w p p' q. k.stop w (f w p) (f _ p') q;
}

-- The facts that stand below those of one broker's durable state
abbrev pub Grounds : Setup → World → Type 0
Grounds s = Both (Replicates s) (NoSelf s)

pub grounds_kept : (s : Setup) → IsKept s (Grounds s)
grounds_kept s = both_kept s (Replicates s) (NoSelf s) (replication_kept s) (kept_with s (Replicates s) (NoSelf s) (no_self_kept s))

-- A fact of the durable state of a topic at cluster x: an empty topic has it, whatever a plan writes keeps it, given what these
-- writes append, and it does not look at memory
pub record IsDurable (s : Setup) (P : ℕ → Broker → Type 0) : Type 0 where
  pub opening : (x : ℕ) → x < length s.clusters → P x (new_broker (length s.clusters) (length s.clients))
  pub writes : (t x : ℕ) (b : Broker) (ws : List Write) → x < length s.clusters → Adds (site s t x) b (appended ws) → P x b → P x (all_written s.per_ledger b ws)
  pub changes : (x : ℕ) (b : Broker) (c : Change) → P x b → P x (changed b c)

-- at each topic at each cluster
abbrev pub Everywhere : Setup → (ℕ → Broker → Type 0) → World → Type 0
Everywhere s P w = (t x : ℕ) → IsThere s t x → P x (topic_at s w t x)

all_kept : (s : Setup) (P : ℕ → Broker → Type 0) (d : IsDurable s P) (x : ℕ) (b : Broker) (cs : List Change) → P x b → P x (all_changed b cs)
all_kept s P d x b [] h = h
all_kept s P d x b (c ∷ cs) h = all_kept s P d x (changed b c) cs (d.changes x b c h)

-- one node has a new broker; where its topic is not there nothing changes
pub one_topic : (s : Setup) (P : ℕ → ℕ → Broker → Type 0) (w : World) (t x : ℕ) (b : Broker) → x < length s.clusters → (IsThere s t x → P t x b)
    → ((u v : ℕ) → IsThere s u v → P u v (topic_at s w u v))
    → (u v : ℕ) → IsThere s u v → P u v (slice_index_or (slice_set w.brokers (node s t x) b) (node s u v) no_broker)
one_topic s P w t x b lt new all u v there =
    at_set (P u v) w.brokers (node s t x) (node s u v) b no_broker
    (λ is.
    let same = same_node s t u x v lt there.1 is in
    subst (λ (z : ℕ). P u z b) same.1
    (subst (λ (z : ℕ). P z x b) same.0 (new (subst (λ (k : ℕ). k < length s.topics) (sym same.0) there.0, lt))))
    (all u v there)

pub one_node : (s : Setup) (P : ℕ → Broker → Type 0) (w : World) (t x : ℕ) (b : Broker) → x < length s.clusters → (IsThere s t x → P x b) → Everywhere s P w
    → (u v : ℕ) → IsThere s u v → P v (slice_index_or (slice_set w.brokers (node s t x) b) (node s u v) no_broker)
one_node s P w t x b lt new all u v there = one_topic s (λ t x b. P x b) w t x b lt new all u v there

-- the facts after the writes of a plan, or after some of them
after_writing : (s : Setup) (P : ℕ → Broker → Type 0) → IsDurable s P → (w : World) (p : Planned) (ws : List Write) → Shape s w p
    → Adds (site s p.topic p.cluster) (topic_at s w p.topic p.cluster) (appended ws) → Everywhere s P w
    → IsThere s p.topic p.cluster → P p.cluster (all_written s.per_ledger (topic_at s w p.topic p.cluster) ws)
after_writing s P d w p ws shape adds all there = d.writes p.topic p.cluster (topic_at s w p.topic p.cluster) ws there.1 adds (all p.topic p.cluster there)

durable_does : (s : Setup) (P : ℕ → Broker → Type 0) → IsDurable s P → (w : World) (p : Planned) → Shape s w p → NoSelf s w → Everywhere s P w
    → Everywhere s P (broker_does s w p)
unfolding broker_does
durable_does s P d w p shape none all u v there =
    let b = topic_at s w p.topic p.cluster in
    on_if (λ (w' : World). P v (topic_at s w' u v)) p.plan.idle _ _ (all u v there)
    (one_node s P w p.topic p.cluster (done s.per_ledger b p.plan) (shape_within s w p shape)
    (λ here. all_kept s P d p.cluster (all_written s.per_ledger b p.plan.writes) p.plan.changes
    (after_writing s P d w p p.plan.writes shape (shape_adds s w p shape none) all here)) all u v there)

durable_halts : (s : Setup) (P : ℕ → Broker → Type 0) → IsDurable s P → (w : World) (k : ℕ) (p : Planned) → Shape s w p → NoSelf s w → Everywhere s P w
    → Everywhere s P (broker_halts s w k p)
unfolding broker_halts
durable_halts s P d w k p shape none all u v there =
    let b = topic_at s w p.topic p.cluster in
    let ws = take k p.plan.writes ++ write.Ledger ∷ [] in
    one_node s P w p.topic p.cluster (halted s.per_ledger b k p.plan) (shape_within s w p shape)
    (λ here. d.changes p.cluster (all_written s.per_ledger b ws) change.Forget
    (after_writing s P d w p ws shape (adds_halt (site s p.topic p.cluster) b k p.plan.writes (shape_adds s w p shape none)) all here)) all u v there

-- after each single durable write of an event
pub durable_written : (s : Setup) (P : ℕ → Broker → Type 0) → IsDurable s P → (w : World) (k : ℕ) (p : Planned) → Shape s w p → NoSelf s w → Everywhere s P w
    → Everywhere s P (partly_written s w k (Some p))
durable_written s P d w k p shape none all =
    let b = topic_at s w p.topic p.cluster in
    one_node s P w p.topic p.cluster (all_written s.per_ledger b (take k p.plan.writes)) (shape_within s w p shape)
    (after_writing s P d w p (take k p.plan.writes) shape (adds_take (site s p.topic p.cluster) b k p.plan.writes (shape_adds s w p shape none)) all) all

durable_client : (s : Setup) (P : ℕ → Broker → Type 0) (w : World) (c : ℕ) (k : Option LinkName) (a : Acted) → Everywhere s P w → Everywhere s P (client_does s w c k a)
unfolding client_does
durable_client s P w c k a all u v there = on_if (λ (w' : World). P v (topic_at s w' u v)) a.idle _ _ (all u v there) (all u v there)

durable_stops : (s : Setup) (P : ℕ → Broker → Type 0) → IsDurable s P → (w : World) → Sized s w → Everywhere s P w → Everywhere s P (stops s w)
unfolding stops restart
durable_stops s P d w z all u v there =
    let b = topic_at s w u v in
    let P' : Broker → Type 0 = P v in
    let after = d.changes v (all_written s.per_ledger b (write.Ledger ∷ [])) change.Forget
    (d.writes u v b (write.Ledger ∷ []) there.1 Adds.Nothing (all u v there)) in
    subst P' (sym (stopped_at w.brokers (λ c. done s.per_ledger c restart) (node s u v) (node_there s w u v z there))) after

durable_opening : (s : Setup) (P : ℕ → Broker → Type 0) → IsDurable s P → Everywhere s P (opening_world s)
durable_opening s P d u v there =
    let n = length s.clusters in
    subst (P v) (sym (get_or-replicate (length s.topics * n) (node s u v) (new_broker n (length s.clients)) no_broker (node_lt s u v there))) (d.opening v there.1)

-- so every event keeps it
pub durable_kept : (s : Setup) (P : ℕ → Broker → Type 0) → IsDurable s P → KeptWith s (Grounds s) (Everywhere s P)
durable_kept s P d = record {
  opening = durable_opening s P d;
  idle = λ w n g all. all;
  round = λ w n g all. all;
  does = λ w p shape g g' all. durable_does s P d w p shape g.1 all;
  halts = λ w k p shape g g' all. durable_halts s P d w k p shape g.1 all;
  goes = λ w c a g g' all. durable_client s P w c None a all;
  gets = λ w c x a g g' all. durable_client s P w c (Some (ToClient c x)) a all;
  stop = λ w g g' all. durable_stops s P d w g.0.sized all;
}

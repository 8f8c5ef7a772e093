-- What an event, or a stop inside one, makes of one topic of one cluster: it leaves it, or does its plan there.
use Rattle.std.proofs.Common.{◌≡◌, ◌<◌, List, ◌++◌, length, refl, sym, ap, subst, ◌∙◌, ℕ}
use Rattle.std.specs.Prelude.{Option, Some, None}
use Rattle.world_laws.proofs.Types.{Entry, Event}
use Rattle.world_laws.proofs.Types.event
use Rattle.geo_base.specs.Broker.{Broker, no_broker}
use Rattle.geo_base.specs.Client.{Acted}
use Rattle.geo_base.specs.Happening.{broker_does, broker_halts, client_does, does_planned, halts_planned, happens}
use Rattle.geo_base.specs.Plan.{Plan, all_written, done, halted}
use Rattle.geo_base.specs.Planned.{Planned, has_client, planned}
use Rattle.geo_base.specs.Setup.{Setup}
use Rattle.geo_base.specs.World.{LinkName, World, broker_at, node, topic_at}
use Rattle.world_laws.proofs.Counters.Counts.{all_changed_ledgers}
use Rattle.world_laws.proofs.Induction.Frames.{at_set}
use Rattle.world_laws.proofs.OnceInOrder.Appends.{all_changed_entries, written_entries}
use Rattle.world_laws.proofs.Replicating.LinkFrames.{same_node}
use Rattle.world_laws.proofs.Replicating.PairRoles.{shape_within}
use Rattle.world_laws.proofs.Snapshotting.Answering.{Numbered}
use Rattle.world_laws.proofs.Snapshotting.Hearing.{Stays}
use Rattle.world_laws.proofs.Snapshotting.Making.{writes_stay}
use Rattle.world_laws.proofs.TopicOrder.Added.{after_is, appended}
use Rattle.world_laws.proofs.Walks.EventWalk.{HasShape, planned_shape}
use Rattle.world_laws.proofs.Walks.Walk.{on_if}

abbrev pub at_node : ℕ → ℕ → Option LinkName → Plan → Planned
at_node t x k p = record { topic = t; cluster = x; takes = k; plan = p }

pub data Became (s : Setup) (w : World) (e : Event) (t x : ℕ) : Broker → Type 0 where
  Same : Became s w e t x (topic_at s w t x)
  Did : (k : Option LinkName) (p : Plan) → planned s w e ≡ Some (at_node t x k p) → Became s w e t x (done s.per_ledger (topic_at s w t x) p)

became_planned : (s : Setup) (w : World) (e : Event) (t x : ℕ) → x < length s.clusters → (o : Option Planned) → planned s w e ≡ o → HasShape s w o
    → Became s w e t x (topic_at s (does_planned s w o) t x)
unfolding broker_does
became_planned s w e t x lt None is shape = Became.Same
became_planned s w e t x lt (Some p) is shape =
    on_if (λ (w' : World). Became s w e t x (topic_at s w' t x)) p.plan.idle _ _ Became.Same
    (at_set (Became s w e t x) w.brokers (node s p.topic p.cluster) (node s t x) (done s.per_ledger (topic_at s w p.topic p.cluster) p.plan) no_broker
    (λ same.
    let n = same_node s p.topic t p.cluster x (shape_within s w p shape) lt same in
    let here : p ≡ at_node t x p.takes p.plan = λ i. record { topic = n.0 i; cluster = n.1 i; takes = p.takes; plan = p.plan } in
    subst (λ (k : ℕ). Became s w e t x (done s.per_ledger (broker_at w k) p.plan)) (sym same) (Became.Did p.takes p.plan (is ∙ ap (λ (q : Planned). Some q) here))) Became.Same)

client_same : (s : Setup) (w : World) (e : Event) (t x c : ℕ) (l : Option LinkName) (a : Acted) → Became s w e t x (topic_at s (client_does s w c l a) t x)
unfolding client_does
client_same s w e t x c l a = on_if (λ (w' : World). Became s w e t x (topic_at s w' t x)) a.idle _ _ Became.Same Became.Same

pub became : (s : Setup) (w : World) (e : Event) (t x : ℕ) → x < length s.clusters → Became s w e t x (topic_at s (happens s w e) t x)
unfolding happens
became s w (event.Go c) t x lt = on_if (λ (w' : World). Became s w (event.Go c) t x (topic_at s w' t x)) (has_client s c) _ _ (client_same s w _ t x c _ _) Became.Same
became s w (event.Reconnect c) t x lt = on_if (λ (w' : World). Became s w (event.Reconnect c) t x (topic_at s w' t x)) (has_client s c) _ _ (client_same s w _ t x c _ _) Became.Same
became s w (event.Get c) t x lt = on_if (λ (w' : World). Became s w (event.Get c) t x (topic_at s w' t x)) (has_client s c) _ _ (client_same s w _ t x c _ _) Became.Same
became s w e t x lt = became_planned s w e t x lt (planned s w e) refl (planned_shape s w e)

pub done_stays : (per : ℕ) (b : Broker) (p : Plan) → Numbered b.entries b.ledgers → Stays b.entries (done per b p).entries b.ledgers (done per b p).ledgers
done_stays per b p numbered =
    let c = all_written per b p.writes in let d = done per b p in
    subst (λ (ls : List ℕ). Stays b.entries d.entries b.ledgers ls) (sym (all_changed_ledgers c p.changes))
    (subst (λ (es : List Entry). Stays b.entries es b.ledgers c.ledgers) (sym (all_changed_entries c p.changes)) (writes_stay per b p.writes numbered))

pub done_entries : (per : ℕ) (b : Broker) (p : Plan) → (done per b p).entries ≡ b.entries ++ appended p.writes
done_entries per b p = all_changed_entries (all_written per b p.writes) p.changes ∙ (written_entries per b p.writes ∙ after_is b.entries p.writes)

pub data Halted (s : Setup) (w : World) (j : ℕ) (e : Event) (t x : ℕ) : Broker → Type 0 where
  Same : Halted s w j e t x (topic_at s w t x)
  Did : (k : Option LinkName) (p : Plan) → planned s w e ≡ Some (at_node t x k p) → Halted s w j e t x (halted s.per_ledger (topic_at s w t x) j p)

pub halted_planned : (s : Setup) (w : World) (j : ℕ) (e : Event) (t x : ℕ) → x < length s.clusters → (o : Option Planned) → planned s w e ≡ o → HasShape s w o
    → Halted s w j e t x (topic_at s (halts_planned s w j o) t x)
unfolding broker_halts
halted_planned s w j e t x lt None is shape = Halted.Same
halted_planned s w j e t x lt (Some p) is shape =
    at_set (Halted s w j e t x) w.brokers (node s p.topic p.cluster) (node s t x) (halted s.per_ledger (topic_at s w p.topic p.cluster) j p.plan) no_broker
    (λ same.
    let n = same_node s p.topic t p.cluster x (shape_within s w p shape) lt same in
    let here : p ≡ at_node t x p.takes p.plan = λ i. record { topic = n.0 i; cluster = n.1 i; takes = p.takes; plan = p.plan } in
    subst (λ (k : ℕ). Halted s w j e t x (halted s.per_ledger (broker_at w k) j p.plan)) (sym same) (Halted.Did p.takes p.plan (is ∙ ap (λ (q : Planned). Some q) here))) Halted.Same

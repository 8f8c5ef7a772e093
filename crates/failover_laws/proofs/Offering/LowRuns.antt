-- The local position of each own snapshot is stored, below the snapshot itself.
use Rattle.std.proofs.Common.{◌≡◌, ℕ, ◌*◌, ◌-◌, ◌<◌, ◌≤◌, Bool, true, false, List, [], ◌∷◌, ◌++◌, length, sym, ap, subst, ◌∙◌, arith, inl, inr}
use Rattle.std.specs.Prelude.{Option, Some, None, slice_get, take}
use Rattle.std.proofs.lemmas.Bool.{false≢true}
use Rattle.std.proofs.lemmas.Bool.Decides.{nat_tests}
use Rattle.std.proofs.lemmas.List.{get_or-replicate}
use Rattle.std.proofs.lemmas.Option.{none-some}
use Rattle.world_laws.proofs.Types.{Change, ClusterPosition, Content, Entry, Position, Write}
use Rattle.world_laws.proofs.Types.change
use Rattle.world_laws.proofs.Types.content
use Rattle.world_laws.proofs.Types.marker
use Rattle.world_laws.proofs.Types.progress
use Rattle.world_laws.proofs.Types.write
use Rattle.geo_base.specs.Broker.{Broker, Site, cluster_name, new_broker, no_broker}
use Rattle.geo_base.specs.Client.{Acted}
use Rattle.geo_base.specs.Entry.{is_data}
use Rattle.geo_base.specs.Happening.{broker_does, broker_halts, client_does, stops}
use Rattle.geo_base.specs.Laws.{IsShort}
use Rattle.geo_base.specs.Plan.{all_changed, all_written, done, halted}
use Rattle.geo_base.specs.Planned.{Planned}
use Rattle.geo_base.specs.Position.{no_position}
use Rattle.geo_base.specs.Scripted.{IsScripted}
use Rattle.geo_base.specs.Seeking.{restart}
use Rattle.geo_base.specs.Setup.{Setup}
use Rattle.geo_base.specs.Topic.{index_of}
use Rattle.geo_base.specs.World.{LinkName, ToClient, World, node, opening_world, site, topic_at}
use Rattle.world_laws.specs.Reached.{ReachedFrom}
use Rattle.world_laws.proofs.Counters.Counts.{all_changed_ledgers}
use Rattle.world_laws.proofs.Induction.Layers.{Both, Everywhere, both_kept, one_node}
use Rattle.world_laws.proofs.Induction.Runs.{IsKept}
use Rattle.world_laws.proofs.Induction.Short.{KeptShort, WhileShort, short_kept}
use Rattle.world_laws.proofs.OnceInOrder.Appends.{all_changed_entries}
use Rattle.world_laws.proofs.Replicating.PairRoles.{shape_within}
use Rattle.world_laws.proofs.Replicating.Prefixes.{is_of}
use Rattle.world_laws.proofs.Replicating.Sizes.{IsThere, node_lt, node_there, stopped_at}
use Rattle.world_laws.proofs.Snapshotting.Answering.{Numbered, not_own, old_or_new, own_added}
use Rattle.world_laws.proofs.Snapshotting.Asked.{Named}
use Rattle.world_laws.proofs.Snapshotting.Completing.{heard_over}
use Rattle.world_laws.proofs.Snapshotting.Hearing.{Stays}
use Rattle.world_laws.proofs.Snapshotting.Making.{MadeAfter, writes_stay}
use Rattle.world_laws.proofs.Snapshotting.MakingEvents.{heard_made}
use Rattle.world_laws.proofs.TopicOrder.Added.{Added, Adds, adds_halt, appended, shape_adds}
use Rattle.world_laws.proofs.TopicOrder.Ledgers.{of_index}
use Rattle.world_laws.proofs.Walks.Shapes.{Shape}
use Rattle.world_laws.proofs.Walks.Walk.{on_if}
use Rattle.failover_laws.proofs.Covers.Known.{kept_there}
use Rattle.failover_laws.proofs.TracedRuns.{Known, known_kept}

-- a position that is stored below index i
abbrev pub StoredBelow : List ℕ → Position → ℕ → Type 0
StoredBelow ls p i = (l : ℕ) × (index_of ls p ≡ Some l) × (l < i)

abbrev pub LowAt : ℕ → Broker → Type 0
LowAt x b = (i : ℕ) (e : Entry) (id : List ℕ) (local : Position) (listed : List ClusterPosition) → slice_get b.entries i ≡ Some e → is_of x e ≡ true
    → e.content ≡ content.Marked (marker.Snapshot id local listed) → StoredBelow b.ledgers local i

abbrev is_snapshot : Content → Bool
is_snapshot (content.Marked (marker.Snapshot id local remote)) = true
is_snapshot c = false

abbrev local_of : Content → Position
local_of (content.Marked (marker.Snapshot id local remote)) = local
local_of c = no_position

new_low : (h : Site) (b : Broker) (e : Entry) (i : ℕ) (id : List ℕ) (local : Position) (remote : List ClusterPosition) → h.own < length h.clusters → 2 ≤ length h.clusters → Numbered b.entries b.ledgers
    → MadeAfter (length h.clusters) h.own (cluster_name h h.own) b.entries b.ledgers b.builder → length b.entries ≤ i → is_of h.own e ≡ true
    → e.content ≡ content.Marked (marker.Snapshot id local remote) → Added h b e → StoredBelow b.ledgers local i
new_low h b e i id local remote small many numbered m le of is (Added.Published e' own message) = absurd (false≢true (sym (ap is_data is) ∙ message))
new_low h b e i id local remote small many numbered m le of is (Added.Came e' z lt other from) = absurd (not_own h.own z e other from of)
new_low h b e i id local remote small many numbered m le of is (Added.Asked none) = absurd (false≢true (ap is_snapshot is))
new_low h b e i id local remote small many numbered m le of is (Added.AskedAgain y j f id' answer u u' next response heard) = absurd (false≢true (ap is_snapshot is))
new_low h b e i id local remote small many numbered m le of is (Added.Responded y j f id' source lt other at of_f asks) = absurd (false≢true (ap is_snapshot is))
new_low h b e i id local remote small many numbered m le of is (Added.Updated v cut) = absurd (false≢true (ap is_snapshot is))
new_low h b e i id local remote small many numbered m le of is (Added.Completed y j f id' answer u u' next response heard) =
    let made = heard_made h b y j f id' answer u u' progress.Done small numbered next response heard m in
    let ended = (heard_over b y j id' answer u u' heard).heard in
    let clusters = made.clusters in
    let some : 0 < length u'.heard = grind (arith, nat_tests, ended, many, clusters) in
    let place = made.local (inr some) in
    let within = (of_index b.ledgers u'.cut.local place.0 place.1).within in
    let whole = numbered.whole in
    let low : place.0 < i = omega (arith, within, whole, le) in
    subst (λ (p : Position). StoredBelow b.ledgers p i) (ap local_of is) (place.0, place.1, low)

event_low : (h : Site) (b : Broker) (ws : List Write) (cs : List Change) → h.own < length h.clusters → 2 ≤ length h.clusters → Numbered b.entries b.ledgers
    → MadeAfter (length h.clusters) h.own (cluster_name h h.own) b.entries b.ledgers b.builder → Adds h b (appended ws) → LowAt h.own b
    → LowAt h.own (all_changed (all_written h.per_ledger b ws) cs)
event_low h b ws cs small many numbered m adds old i e id local listed at of is =
    subst (λ (ls : List ℕ). StoredBelow ls local i) (sym (all_changed_ledgers c cs))
    (grows (elim (old_or_new b.entries (appended ws) i e (subst (λ (l : List Entry). slice_get l i ≡ Some e) (all_changed_entries c cs ∙ g.is) at)) [
      | inl o ↦ old i e id local listed o.1 of is
      | inr k ↦ new_low h b e i id local listed small many numbered m k.0 of is (own_added h b (appended ws) adds (i - length b.entries) e k.1 of).added
    ]))
  where
    c : Broker
    c = all_written h.per_ledger b ws

    g : Stays b.entries c.entries b.ledgers c.ledgers
    g = writes_stay h.per_ledger b ws numbered

    grows : StoredBelow b.ledgers local i → StoredBelow c.ledgers local i
    grows p = (p.0, g.index local p.0 p.1, p.2)

-- ---- in each world of a short run

abbrev pub AllLow : Setup → World → Type 0
AllLow s w = Everywhere s (λ x b. LowAt x b) w

node_low : (s : Setup) → 2 ≤ length s.clusters → (w : World) → IsShort w → Known s w → AllLow s w → (t x : ℕ) → IsThere s t x → (ws : List Write) (cs : List Change)
    → Adds (site s t x) (topic_at s w t x) (appended ws) → LowAt x (all_changed (all_written s.per_ledger (topic_at s w t x) ws) cs)
node_low s many w short h old t x there ws cs adds =
    event_low (site s t x) (topic_at s w t x) ws cs there.1 many (h.0.0.0.0.1 t x there).numbered (h.0.1 short t x there) adds (old t x there)

low_does : (s : Setup) → 2 ≤ length s.clusters → (w : World) (p : Planned) → Shape s w p → IsShort w → Known s w → AllLow s w → AllLow s (broker_does s w p)
unfolding broker_does
low_does s many w p shape short h old =
    on_if (AllLow s) p.plan.idle _ _ old
    (one_node s (λ x b. LowAt x b) w p.topic p.cluster (done s.per_ledger (topic_at s w p.topic p.cluster) p.plan) (shape_within s w p shape)
    (λ here. node_low s many w short h old p.topic p.cluster here p.plan.writes p.plan.changes (shape_adds s w p shape h.0.0.0.0.0.1)) old)

low_halts : (s : Setup) → 2 ≤ length s.clusters → (w : World) (k : ℕ) (p : Planned) → Shape s w p → IsShort w → Known s w → AllLow s w → AllLow s (broker_halts s w k p)
unfolding broker_halts
low_halts s many w k p shape short h old =
    one_node s (λ x b. LowAt x b) w p.topic p.cluster (halted s.per_ledger (topic_at s w p.topic p.cluster) k p.plan) (shape_within s w p shape)
    (λ here. node_low s many w short h old p.topic p.cluster here (take k p.plan.writes ++ write.Ledger ∷ []) (change.Forget ∷ [])
    (adds_halt (site s p.topic p.cluster) (topic_at s w p.topic p.cluster) k p.plan.writes (shape_adds s w p shape h.0.0.0.0.0.1))) old

low_client : (s : Setup) (w : World) (c : ℕ) (k : Option LinkName) (a : Acted) → AllLow s w → AllLow s (client_does s w c k a)
unfolding client_does
low_client s w c k a old = on_if (AllLow s) a.idle _ _ old old

low_stops : (s : Setup) → 2 ≤ length s.clusters → (w : World) → IsShort w → Known s w → AllLow s w → AllLow s (stops s w)
unfolding stops restart
low_stops s many w short h old t x there =
    subst (λ (b : Broker). LowAt x b) (sym (stopped_at w.brokers (λ c. done s.per_ledger c restart) (node s t x) (node_there s w t x h.0.0.0.0.0.0.sized there)))
    (node_low s many w short h old t x there (write.Ledger ∷ []) (change.Forget ∷ []) Adds.Nothing)

low_opening : (s : Setup) → AllLow s (opening_world s)
low_opening s t x there =
    let n = length s.clusters in
    subst (λ (b : Broker). LowAt x b) (sym (get_or-replicate (length s.topics * n) (node s t x) (new_broker n (length s.clients)) no_broker (node_lt s t x there)))
    (λ i e id local listed at of is. absurd (none-some e at))

low_short : (s : Setup) → 2 ≤ length s.clusters → KeptShort s (Known s) (AllLow s)
low_short s many = record {
  opening = low_opening s;
  idle = λ w n h old. old;
  round = λ w n h old. old;
  does = λ w p shape short h h' old. low_does s many w p shape short h old;
  halts = λ w k p shape short h h' old. low_halts s many w k p shape short h old;
  goes = λ w c a short h h' old. low_client s w c None a old;
  gets = λ w c x a short h h' old. low_client s w c (Some (ToClient c x)) a old;
  stop = λ w short h h' old. low_stops s many w short h old;
}

low_kept : (s : Setup) → 2 ≤ length s.clusters → Named s → IsKept s (Both (Known s) (WhileShort (AllLow s)))
low_kept s many names = both_kept s (Known s) (WhileShort (AllLow s)) (known_kept s names) (short_kept s (Known s) (AllLow s) (low_short s many))

pub low_at : (s : Setup) → IsScripted s → Named s → (w : World) → ReachedFrom s (opening_world s) w → IsShort w → AllLow s w
low_at s scripted names w r short = (kept_there s (Both (Known s) (WhileShort (AllLow s))) (low_kept s scripted.clusters.0 names) w r).1 short

-- Settling after a snap where all had come over: no update is read, so all subscriptions stay, and the snapshot that was asked for stands.
use Rattle.std.proofs.Common.{◌≡◌, zero, suc, ◌+◌, ◌<◌, ◌≤◌, Bool, true, false, List, length, refl, sym, ap, subst, ◌∙◌, ◌==◌, arith, inl, inr, not, ℕ}
use Rattle.std.specs.Prelude.{Option, Some, None, ◌-◌, ◌&&◌, nat_lt, if◌then◌else◌, slice_get}
use Rattle.std.proofs.lemmas.Bool.{eq-eqb, false≢true, ltb-true}
use Rattle.std.proofs.lemmas.Option.{none-some, same_Some, slice_get_within}
use Rattle.world_laws.proofs.Types.{SnapshotBuilder, ClusterPosition, Entry, Event, Position, ReplicatorState}
use Rattle.world_laws.proofs.Types.content
use Rattle.world_laws.proofs.Types.event
use Rattle.world_laws.proofs.Types.fate
use Rattle.world_laws.proofs.Types.marker
use Rattle.world_laws.proofs.Types.replicator_state
use Rattle.geo_base.specs.Broker.{Broker, replicator_at}
use Rattle.geo_base.specs.Cursor.{has, next_open}
use Rattle.geo_base.specs.Laws.{ArePair, IsComplete}
use Rattle.geo_base.specs.Plan.{Plan}
use Rattle.geo_base.specs.Planned.{Planned, has_node, has_pair, in_range, planned, planned_in}
use Rattle.geo_base.specs.Scripted.{IsScripted}
use Rattle.geo_base.specs.Replicator.{index_to_read}
use Rattle.geo_base.specs.Setup.{Setup}
use Rattle.geo_base.specs.Topic.{index_of}
use Rattle.geo_base.specs.World.{LinkName, World, node, opening_world, site, topic_at}
use Rattle.world_laws.specs.Reached.{ReachedFrom}
use Rattle.world_laws.proofs.OnceInOrder.Members.{Stands, below_or}
use Rattle.world_laws.proofs.Replicating.Prefixes.{is_of, not_twice}
use Rattle.world_laws.proofs.Snapshotting.Grows.{Grown}
use Rattle.world_laws.proofs.Snapshotting.Hearing.{grown_get, grown_old}
use Rattle.world_laws.proofs.Snapshotting.SecondRound.{Knows}
use Rattle.world_laws.proofs.Snapshotting.SnapshotFacts.{out_there}
use Rattle.world_laws.proofs.TopicOrder.Added.{came_other}
use Rattle.world_laws.proofs.TopicOrder.Order.{of_source}
use Rattle.world_laws.proofs.Walks.ReadWalk.{read_shape}
use Rattle.world_laws.proofs.Walks.Shapes.{IsUpdate, ReadsNext}
use Rattle.world_laws.proofs.Walks.Walk.{left, on_test, right}
use Rattle.failover_laws.proofs.Acting.SwitchedOver.{arrived_at}
use Rattle.failover_laws.proofs.Behind.{begins, flip}
use Rattle.failover_laws.proofs.Covers.Known.{grown_on}
use Rattle.failover_laws.proofs.Ending.Became.{at_node}
use Rattle.failover_laws.proofs.Ending.Calm.{is_of_snapshot, IsCalm, reads_calm, receipt_calm, reset_calm, take_calm}
use Rattle.failover_laws.proofs.Ending.Settling.{is_settling}
use Rattle.failover_laws.proofs.TracedRuns.{Tracing}

pub record AllOver (s : Setup) (w : World) (t : ℕ) : Type 0 where
  pub scripted : IsScripted s
  pub reached : ReachedFrom s (opening_world s) w
  pub topic : t < length s.topics
  pub complete : (x y : ℕ) → ArePair s x y → IsComplete s w t x y

abbrev long : Setup → World → ℕ → ℕ → ℕ
long s w t x = length (topic_at s w t x).entries

-- a snapshot of this id stands at x, above what stood there in v, and above its own local position
pub record IsStored (s : Setup) (v w : World) (t x : ℕ) (id : List ℕ) : Type 0 where
  pub index : ℕ
  pub entry : Entry
  pub local : Position
  pub listed : List ClusterPosition
  pub stands : slice_get (topic_at s w t x).entries index ≡ Some entry
  pub of : is_of x entry ≡ true
  pub is : entry.content ≡ content.Marked (marker.Snapshot id local listed)
  pub behind : length (topic_at s v t x).entries ≤ index
  pub at : ℕ
  pub stored : index_of (topic_at s w t x).ledgers local ≡ Some at
  pub low : at < index

pub data IsMaking (s : Setup) (v w : World) (t x : ℕ) (id : List ℕ) : Type 0 where
  Still : (u : SnapshotBuilder) → (topic_at s w t x).builder ≡ Some u → u.id ≡ id → IsMaking s v w t x id
  Stood : IsStored s v w t x id → IsMaking s v w t x id

pub record InPhase (s : Setup) (v : World) (t x : ℕ) (id : List ℕ) (w : World) : Type 0 where
  pub reached : ReachedFrom s v w
  pub own : (a i : ℕ) (e : Entry) → a < length s.clusters → slice_get (topic_at s w t a).entries i ≡ Some e → is_of a e ≡ true
      → length (topic_at s v t a).entries ≤ i → is_of_snapshot e.content ≡ true
  pub subs : (a : ℕ) → a < length s.clusters → (topic_at s w t a).subs ≡ (topic_at s v t a).subs
  pub acked : (a z i : ℕ) → a < length s.clusters → z < length s.clusters → has (replicator_at (topic_at s v t a) z).cursor i ≡ true → has (replicator_at (topic_at s w t a) z).cursor i ≡ true
  pub made : IsMaking s v w t x id

-- ---- what is read next is not acknowledged

open_next : (set : List ℕ) (from more i : ℕ) → next_open set from more ≡ Some i → has set i ≡ false
open_next set from zero i is = absurd (none-some i is)
open_next set from (suc more) i is = by (has set from) refl is (open_next set (from + 1) more i)
  where
    by : (b : Bool) → has set from ≡ b → (if b then next_open set (from + 1) more else Some from) ≡ Some i → (next_open set (from + 1) more ≡ Some i → has set i ≡ false) → has set i ≡ false
    by true e is ih = ih is
    by false e is ih = subst (λ (k : ℕ). has set k ≡ false) (same_Some from i is) e

next_lacks : (b : Broker) (y n i : ℕ) → index_to_read (replicator_at b y).state (replicator_at b y) n ≡ Some i → has (replicator_at b y).cursor i ≡ false
next_lacks b y n i is = by (replicator_at b y).state is
  where
    by : (st : ReplicatorState) → index_to_read st (replicator_at b y) n ≡ Some i → has (replicator_at b y).cursor i ≡ false
    by replicator_state.Open is = open_next (replicator_at b y).cursor (replicator_at b y).read_index (n - (replicator_at b y).read_index) i is
    by replicator_state.Opening is = absurd (none-some i is)
    by replicator_state.Closed is = absurd (none-some i is)

-- no update is read: each that stands was acknowledged where all had come over
no_update : (s : Setup) (v w : World) (t x a z i : ℕ) (id n : List ℕ) (remote : List ClusterPosition) (e : Entry) → AllOver s v t → InPhase s v t x id w → Knows s w → ArePair s a z
    → slice_get (topic_at s w t a).entries i ≡ Some e → is_of z e ≡ true → e.content ≡ content.Marked (marker.Update n remote)
    → has (replicator_at (topic_at s w t a) z).cursor i ≡ false → ⊥
no_update s v w t x a z i id n remote e over p knows pair at of is lacks =
    elim (below_or source.place (length then_z)) [
      | inl lt ↦ old lt
      | inr le ↦ false≢true (sym (ap is_of_snapshot is) ∙ p.own z source.place e pair.1 source.is of le)
    ]
  where
    back : ArePair s z a
    back = flip s a z pair

    then_z : List Entry
    then_z = (topic_at s v t z).entries

    now_z : List Entry
    now_z = (topic_at s w t z).entries

    now_a : List Entry
    now_a = (topic_at s w t a).entries

    source : Stands now_z e
    source = of_source z a now_z now_a (begins s w t z a knows back) i e at of

    grows : Grown s v w
    grows = grown_on s over.scripted v w over.reached p.reached

    old : source.place < length then_z → ⊥
    old lt =
        let was = grown_old then_z now_z (topic_at s v t z).ledgers (topic_at s w t z).ledgers (grows t z (over.topic, pair.1)) source.place e lt source.is in
        let out = out_there a z now_z now_a (begins s w t z a knows back) i e at of in
        let came = arrived_at z a then_z (topic_at s v t a).entries source.place e (over.complete z a back).arrived was out in
        let read = (over.complete a z pair).acknowledged came.place (slice_get_within (topic_at s v t a).entries came.place e came.is) in
        let now_read = p.acked a z came.place pair.0 pair.1 read in
        let here = grown_get (topic_at s v t a).entries now_a (topic_at s v t a).ledgers (topic_at s w t a).ledgers (grows t a (over.topic, pair.0)) came.place e came.is in
        elim (below_or came.place i) [
          | inl less ↦ not_twice now_a e (knows.once (node s t a)) (record { i = came.place; j = i; before = less; at_i = here; at_j = at })
          | inr le ↦ elim (below_or i came.place) [
            | inl less ↦ not_twice now_a e (knows.once (node s t a)) (record { i = i; j = came.place; before = less; at_i = at; at_j = here })
            | inr le' ↦
                let same : came.place ≡ i = omega (arith, le, le') in
                false≢true (sym lacks ∙ subst (λ (k : ℕ). has (replicator_at (topic_at s w t a) z).cursor k ≡ true) same now_read)
          ]
        ]

-- ---- so each event of settling is calm

abbrev CalmAt : Setup → World → ℕ → Planned → Type 0
CalmAt s w t q = q.topic ≡ t → q.cluster < length s.clusters → IsCalm (site s q.topic q.cluster) (topic_at s w q.topic q.cluster) q.plan

abbrev CalmOr : Setup → World → ℕ → Option Planned → Type 0
CalmOr s w t None = Unit {0}
CalmOr s w t (Some q) = CalmAt s w t q

in_pair : (s : Setup) (u x z : ℕ) → has_pair s u x z ≡ true → (x < length s.clusters) × (z < length s.clusters)
in_pair s u x z within =
    let here = left (nat_lt u (length s.topics) && nat_lt x (length s.clusters)) (nat_lt z (length s.clusters)) within in
    (ltb-true x (length s.clusters) (right (nat_lt u (length s.topics)) (nat_lt x (length s.clusters)) here), ltb-true z (length s.clusters) (right (has_node s u x) (nat_lt z (length s.clusters)) within))

never_reads : (s : Setup) (v w : World) (t x a z : ℕ) (id : List ℕ) → AllOver s v t → InPhase s v t x id w → Knows s w → a < length s.clusters
    → (i j : ℕ) (e : Entry) (n : List ℕ) (remote : List ClusterPosition) → ReadsNext (site s t a) (topic_at s w t a) z i e → IsUpdate (site s t a) (topic_at s w t a) z e n remote j → ⊥
never_reads s v w t x a z id over p knows small i j e n remote next is =
    let far = next.0 in
    let small_z = ltb-true z (length s.clusters) (left (nat_lt z (length s.clusters)) (not (z == a)) far) in
    let other = right (nat_lt z (length s.clusters)) (not (z == a)) far in
    no_update s v w t x a z i id n remote e over p knows (small, small_z, λ same. not_same (z == a) (eq-eqb z a (sym same)) other) next.2 is.0.1 is.1
    (next_lacks (topic_at s w t a) z (length (topic_at s w t a).entries) i next.1)
  where
    not_same : (b : Bool) → b ≡ true → not b ≡ true → ⊥
    not_same true h k = false≢true k
    not_same false h k = false≢true h

calm_in : (s : Setup) (v w : World) (t x : ℕ) (id : List ℕ) (e : Event) → AllOver s v t → InPhase s v t x id w → Tracing s w → Knows s w → is_settling e ≡ true → in_range s e ≡ true
    → CalmOr s w t (planned_in s w e)
calm_in s v w t x id (event.Reset u a z) over p traced knows settles within = λ is small. reset_calm (site s u a) (topic_at s w u a) z
calm_in s v w t x id (event.Take u a z fate.Good) over p traced knows settles within =
    λ is small. take_calm (site s u z) (topic_at s w u z) a _ (λ q next. came_other s w u a z q traced.0.0.0.0.0.0.1 small next)
calm_in s v w t x id (event.Take u a z fate.Lost) over p traced knows settles within = absurd (false≢true settles)
calm_in s v w t x id (event.Take u a z fate.Twice) over p traced knows settles within = absurd (false≢true settles)
calm_in s v w t x id (event.Receipt u a z fate.Good) over p traced knows settles within = λ is small. receipt_calm (site s u a) (topic_at s w u a) z _
calm_in s v w t x id (event.Receipt u a z fate.Lost) over p traced knows settles within = absurd (false≢true settles)
calm_in s v w t x id (event.Receipt u a z fate.Twice) over p traced knows settles within = absurd (false≢true settles)
calm_in s v w t x id (event.Read u a z) over p traced knows settles within =
    λ is small.
    reads_calm (site s u a) (topic_at s w u a) z _
    (subst (λ (k : ℕ). (i j : ℕ) (e : Entry) (n : List ℕ) (remote : List ClusterPosition) → ReadsNext (site s k a) (topic_at s w k a) z i e → IsUpdate (site s k a) (topic_at s w k a) z e n remote j → ⊥)
    (sym is) (never_reads s v w t x a z id over p knows small)) (read_shape (site s u a) (topic_at s w u a) z)
calm_in s v w t x id e over p traced knows settles within = absurd (false≢true settles)

pub calm_of : (s : Setup) (v w : World) (t x a : ℕ) (id : List ℕ) (e : Event) (k : Option LinkName) (q : Plan) → AllOver s v t → InPhase s v t x id w → Tracing s w → Knows s w
    → is_settling e ≡ true → a < length s.clusters → planned s w e ≡ Some (at_node t a k q) → IsCalm (site s t a) (topic_at s w t a) q
unfolding planned
calm_of s v w t x a id e k q over p traced knows settles small is =
    let h =
    on_test (λ (o : Option Planned). CalmOr s w t o) (in_range s e) (planned_in s w e) None (λ within. calm_in s v w t x id e over p traced knows settles within) (λ none. tt) in
    subst (CalmOr s w t) is h refl small

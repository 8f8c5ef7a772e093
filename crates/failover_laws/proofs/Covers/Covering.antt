-- An answer to a request names a place at or above that of the request, which stands above all that stood at its cluster when it was made.
use Rattle.std.proofs.Common.{◌≡◌, ◌-◌, ◌<◌, ◌≤◌, true, List, length, sym, ap, subst, ◌∙◌, arith, inl, inr, ℕ}
use Rattle.std.specs.Prelude.{Some, None, nat_lt, slice_index_or}
use Rattle.std.proofs.lemmas.Bool.{eq-eqb, false≢true, ltb-true}
use Rattle.std.proofs.lemmas.Option.{same_Some, slice_get_within}
use Rattle.world_laws.proofs.Types.{ClusterPosition, Entry, Position, Targets}
use Rattle.world_laws.proofs.Types.marker
use Rattle.world_laws.proofs.Types.cluster_ref
use Rattle.geo_base.specs.Broker.{Broker}
use Rattle.geo_base.specs.Cache.{cut_of}
use Rattle.geo_base.specs.Cuts.{CoversCluster, IsCut}
use Rattle.geo_base.specs.Entry.{goes_to}
use Rattle.geo_base.specs.Laws.{ArePair, IsShort, MarkerAt}
use Rattle.geo_base.specs.Scripted.{IsScripted}
use Rattle.geo_base.specs.Setup.{Setup}
use Rattle.geo_base.specs.Topic.{index_of}
use Rattle.geo_base.specs.Updating.{only_index, positions_for}
use Rattle.geo_base.specs.World.{World, opening_world, topic_at}
use Rattle.world_laws.specs.Reached.{ReachedFrom}
use Rattle.world_laws.proofs.OnceInOrder.Members.{Stands, below_or}
use Rattle.world_laws.proofs.Replicating.Prefixes.{Begins, is_of}
use Rattle.world_laws.proofs.Snapshotting.Answering.{AnswerAt, Answers, RequestAt}
use Rattle.world_laws.proofs.Snapshotting.Completing.{goes_only}
use Rattle.world_laws.proofs.Snapshotting.Grows.{Grown}
use Rattle.world_laws.proofs.Snapshotting.Hearing.{grown_get, grown_old}
use Rattle.world_laws.proofs.Snapshotting.SecondRound.{Knows}
use Rattle.world_laws.proofs.Snapshotting.SnapshotFacts.{out_there}
use Rattle.world_laws.proofs.Telling.Passing.{names_one}
use Rattle.world_laws.proofs.TopicOrder.Order.{of_source}
use Rattle.world_laws.proofs.Walks.Walk.{by_test, right}
use Rattle.failover_laws.specs.Covers.{Covers, CoveredNotAgain, IsAskedSince, LawCovers}
use Rattle.failover_laws.proofs.AgainTraced.{AnsweredWith, AskedFor}
use Rattle.failover_laws.proofs.Behind.{absent, asked_at, begins, flip}
use Rattle.failover_laws.proofs.Covers.Known.{fewer_before, grown_on, known_at, reached_then, Standing}
use Rattle.failover_laws.proofs.Given.{not_again}
use Rattle.failover_laws.proofs.Lasting.{since_keeps, still_passed}

-- a request of a that stands above all that stood at a in v stands above all that stood at y in v, too
asked_since : (s : Setup) (v w : World) → Knows s v → Standing s w → Grown s v w → (t a y r i : ℕ) (id : List ℕ) → t < length s.topics → ArePair s a y
    → MarkerAt (topic_at s w t a) r a (marker.Request id (cluster_ref.Known a)) → RequestAt a (topic_at s w t y).entries i id → length (topic_at s v t a).entries ≤ r
    → length (topic_at s v t y).entries ≤ i
asked_since s v w kv h grown t a y r i id lt pair request asked since =
    elim (below_or i (length then_y.entries)) [
      | inl less ↦ absurd (not_then less)
      | inr le ↦ le
    ]
  where
    then_y : Broker
    then_y = topic_at s v t y

    then_a : Broker
    then_a = topic_at s v t a

    now_a : Broker
    now_a = topic_at s w t a

    not_then : i < length then_y.entries → ⊥
    not_then less =
        let old = grown_old then_y.entries (topic_at s w t y).entries then_y.ledgers (topic_at s w t y).ledgers (grown t y (lt, pair.1)) i asked.entry less asked.at in
        let source : Stands then_a.entries asked.entry = of_source a y then_a.entries then_y.entries (begins s v t a y kv pair) i asked.entry old asked.of in
        let within = slice_get_within then_a.entries source.place asked.entry source.is in
        let same : source.place ≡ r =
        (h.traced t a (lt, pair.0)).ids source.place r id
        (record { entry = asked.entry; at = grown_get then_a.entries now_a.entries then_a.ledgers now_a.ledgers (grown t a (lt, pair.0)) source.place asked.entry source.is; of = asked.of; asks = asked.asks })
        (asked_at a r now_a id request) in
        omega (arith, within, same, since)

-- so the index of the place that a snapshot keeps of y is above all that: the answer names the entry before itself, and the request stands before it
covered : (s : Setup) (v w : World) → Knows s v → Standing s w → Grown s v w → (t a y j : ℕ) (remote : List ClusterPosition) → t < length s.topics → ArePair s a y
    → IsAskedSince s v w t a remote → only_index (topic_at s w t y).ledgers (positions_for y remote) ≡ Some j → length (topic_at s v t y).entries ≤ j
covered s v w kv h grown t a y j remote lt pair q names = omega (arith, behind, last, below)
  where
    cut : IsCut s w t a (cut_of a (length s.clusters) q.local q.listed)
    cut = ((h.cuts t a (lt, pair.0)).snapshots q.index q.snapshot.entry q.id q.local q.listed q.snapshot.stands (eq-eqb q.snapshot.entry.ident.origin a q.snapshot.origin) q.snapshot.is).1

    each : (p : Position) × (slice_index_or (cut_of a (length s.clusters) q.local q.listed).remote y None ≡ Some p) × CoversCluster s w t a cut.0 y p
    each = cut.2 y pair.1 pair.2

    stored : index_of (topic_at s w t y).ledgers each.0 ≡ Some j
    stored =
        let one = ap (positions_for y) q.same ∙ names_one y (cut_of a (length s.clusters) q.local q.listed).remote each.0 each.1 in
        subst (λ (ps : List Position). only_index (topic_at s w t y).ledgers ps ≡ Some j) one names

    asked : AskedFor a (topic_at s w t a).entries q.index q.id (cut_of a (length s.clusters) q.local q.listed)
    asked = (h.traced t a (lt, pair.0)).snapshots q.index q.snapshot.entry q.id q.local q.listed q.snapshot.stands (eq-eqb q.snapshot.entry.ident.origin a q.snapshot.origin) q.snapshot.is

    answered : AnsweredWith y (topic_at s w t a).entries q.id each.0
    answered = asked.answers y each.0 each.1

    near : List Entry
    near = (topic_at s w t y).entries

    far : List Entry
    far = (topic_at s w t a).entries

    from : Begins y a near far
    from = begins s w t y a h.knows (flip s a y pair)

    there : Stands near answered.entry
    there = of_source y a near far from answered.index answered.entry answered.heard.at answered.heard.of

    at : AnswerAt y near there.place q.id answered.answer answered.entry
    at = record { at = there.is; of = answered.heard.of; is = answered.heard.is }

    is : Answers (length s.clusters) y near (topic_at s w t y).ledgers there.place q.id answered.answer answered.entry
    is = (h.knows.answers t y (lt, pair.1)).answers there.place q.id answered.answer answered.entry at

    mine : is.asker ≡ a
    mine =
        let out = out_there a y near far from answered.index answered.entry answered.heard.at answered.heard.of in
        goes_only a is.asker (subst (λ (to : Targets). goes_to a to ≡ true) is.to (right (is_of y answered.entry) (goes_to a answered.entry.to) out))

    request : RequestAt a near is.index q.id
    request = subst (λ (z : ℕ). RequestAt z near is.index q.id) mine is.request

    behind : length (topic_at s v t y).entries ≤ is.index
    behind = asked_since s v w kv h grown t a y q.request is.index q.id lt pair q.asks request q.since

    last : there.place - 1 ≡ j
    last = same_Some _ _ (sym is.names ∙ ap (index_of (topic_at s w t y).ledgers) answered.names ∙ stored)

    below : is.index < there.place
    below = is.below

covers : (s : Setup) (v w : World) → Knows s v → Standing s w → Grown s v w → Covers s v w
covers s v w kv h grown t a y j remote pair q names =
    by_test (nat_lt t (length s.topics))
    (λ lt. covered s v w kv h grown t a y j remote (ltb-true _ _ lt) pair q names)
    (λ past. absurd (absent s w t a q.index q.snapshot.entry h.knows past q.snapshot.stands))

-- what n has passed over is none of it given again
covered_again : (s : Setup) (v w : World) → Covers s v w → CoveredNotAgain s v w
covered_again s v w c t a y j n remote u pair q names passed since e i f gives at meant =
    let le = c t a y j remote pair q names in
    let still = still_passed n (topic_at s w t y) (topic_at s u t y) a j (since_keeps s t y n w u since) passed in
    elim (below_or j i) [
      | inl lt ↦ omega (arith, le, lt)
      | inr low ↦ absurd (false≢true (sym (not_again s u t y n a j still e i f gives at low) ∙ meant))
    ]

-- ---- in the worlds of a run

pub covers_run : (s : Setup) → IsScripted s → (v w : World) → ReachedFrom s (opening_world s) v → ReachedFrom s v w → IsShort w → Covers s v w
covers_run s scripted v w r q short =
    let fewer = fewer_before s v w q in
    covers s v w (known_at s scripted v r (omega (arith, fewer, short))).knows (known_at s scripted w (reached_then s (opening_world s) v w r q) short) (grown_on s scripted v w r q)

pub covers_law : LawCovers
covers_law = record { covers = covers_run; again = λ s scripted v w r q short. covered_again s v w (covers_run s scripted v w r q short) }

-- How far behind, in a world: the request that an answer answers stands in the answering topic, so all that its cluster had for that topic
-- before it stands there too, below the answer.
use Rattle.std.proofs.Common.{◌≡◌, ℕ, ◌-◌, ◌^◌, ◌<◌, ◌≤◌, Bool, true, false, List, length, refl, sym, ap, subst, ◌∙◌, ◌==◌, arith, inl, inr}
use Rattle.std.specs.Prelude.{Some, None, ◌||◌, nat_lt, slice_get, slice_index_or}
use Rattle.std.proofs.lemmas.Bool.{eq-eqb, eqb-true, false≢true, ltb-true}
use Rattle.std.proofs.lemmas.Bool.Decides.{nat_tests}
use Rattle.std.proofs.lemmas.Nat.{pow_below}
use Rattle.std.proofs.lemmas.Option.{none-some, same_Some}
use Rattle.world_laws.proofs.Types.{ClusterPosition, Entry, ClusterRef, Position, Targets}
use Rattle.world_laws.proofs.Types.content
use Rattle.world_laws.proofs.Types.marker
use Rattle.world_laws.proofs.Types.cluster_ref
use Rattle.world_laws.proofs.Types.targets
use Rattle.geo_base.specs.Broker.{Broker}
use Rattle.geo_base.specs.SnapshotBuilder.{named}
use Rattle.geo_base.specs.Cache.{cut_of}
use Rattle.geo_base.specs.Cuts.{CoversCluster, IsCut}
use Rattle.geo_base.specs.Entry.{goes_to, is_data, is_outbound, meant_for}
use Rattle.geo_base.specs.Laws.{Always, ArePair, CachesCut, IsPrefix, IsShort, MarkerAt, MarkersCut}
use Rattle.geo_base.specs.Safe.{AllOnce, IsEntry}
use Rattle.geo_base.specs.Setup.{Setup}
use Rattle.geo_base.specs.Topic.{index_of}
use Rattle.geo_base.specs.Updating.{only_index, positions_for}
use Rattle.geo_base.specs.World.{World, node, topic_at}
use Rattle.geo_base.specs.Moments.{partly_written}
use Rattle.world_laws.proofs.Snapshotting.Answering.{Answers, RequestAt}
use Rattle.world_laws.proofs.Snapshotting.Asked.{named as names_of}
use Rattle.world_laws.proofs.Snapshotting.Completing.{goes_only}
use Rattle.world_laws.proofs.Snapshotting.Cuts.{cut_always}
use Rattle.world_laws.proofs.OnceInOrder.Members.{Stands, below_or}
use Rattle.world_laws.proofs.TopicOrder.Order.{of_source, order_kept}
use Rattle.world_laws.proofs.Replicating.Pairs.{past_node}
use Rattle.world_laws.proofs.Telling.Passing.{names_one}
use Rattle.world_laws.proofs.Replicating.Prefixes.{Begins, is_of, not_twice}
use Rattle.world_laws.proofs.Induction.Runs.{always}
use Rattle.world_laws.proofs.Snapshotting.SecondRound.{Knows, knows_now, knows_written}
use Rattle.world_laws.proofs.Snapshotting.SnapshotFacts.{out_there}
use Rattle.world_laws.proofs.Walks.Walk.{by_test, right}
use Rattle.failover_laws.specs.Behind.{AnswersBehind, IsAhead, IsOfSnapshot, LawBehind, OwnBehind, RequestsDiffer, UpdatesBehind}
use Rattle.failover_laws.proofs.Given.{not_again}
use Rattle.failover_laws.proofs.AgainTraced.{AnsweredWith, AskedFor, IsCutHere, IsTold}
use Rattle.failover_laws.proofs.TracedRuns.{AllTraced, Tracing, traced_written, tracing_kept}

-- a topic that is not there has no entries
pub absent : (s : Setup) (w : World) (t x i : ℕ) (e : Entry) → Knows s w → nat_lt t (length s.topics) ≡ false → IsEntry (topic_at s w t x) i e → ⊥
absent s w t x i e k past at =
    let le : length s.topics ≤ t = grind (arith, nat_tests, past) in
    none-some e (subst (λ (b : Broker). slice_get b.entries i ≡ Some e) (past_node s w.brokers t x k.size le) at)

pub asked_at : (a r : ℕ) (b : Broker) (id : List ℕ) → MarkerAt b r a (marker.Request id (cluster_ref.Known a)) → RequestAt a b.entries r id
asked_at a r b id m = record { entry = m.entry; at = m.stands; of = eq-eqb m.entry.ident.origin a m.origin; asks = (cluster_ref.Known a, m.is) }

abbrev pub bits : Targets → ℕ
bits (targets.Only n) = n
bits t = 0

-- for one cluster alone
pub one_bit : (a z : ℕ) → targets.Only (2 ^ z) ≡ targets.Only (2 ^ a) → z ≡ a
one_bit a z is =
    let same : 2 ^ z ≡ 2 ^ a = ap bits is in
    elim (below_or z a) [
      | inl lt ↦ let less = pow_below z a lt in absurd (omega (arith, less, same))
      | inr le ↦ elim (below_or a z) [
        | inl lt ↦ let less = pow_below a z lt in absurd (omega (arith, less, same))
        | inr le' ↦ omega (arith, le, le')
      ]
    ]

pub begins : (s : Setup) (w : World) (t a y : ℕ) → Knows s w → ArePair s a y → Begins a y (topic_at s w t a).entries (topic_at s w t y).entries
begins s w t a y k pair = k.prefix t a y pair

-- ---- answers

differ : (s : Setup) (w : World) → Knows s w → AllTraced s w → RequestsDiffer s w
differ s w k traced t a i j id small q r =
    by_test (nat_lt t (length s.topics))
    (λ lt. (traced t a (ltb-true _ _ lt, small)).ids i j id (asked_at a i (topic_at s w t a) id q) (asked_at a j (topic_at s w t a) id r))
    (λ past. absurd (absent s w t a i q.entry k past q.stands))

-- of a topic that is there
answered_behind : (s : Setup) (w : World) → Knows s w → AllTraced s w → (t a y r l j : ℕ) (id : List ℕ) (answer : ClusterPosition) → t < length s.topics → ArePair s a y
    → MarkerAt (topic_at s w t a) r a (marker.Request id (cluster_ref.Known a))
    → (m : MarkerAt (topic_at s w t y) l y (marker.Response id answer)) → m.entry.to ≡ targets.Only (2 ^ a)
    → index_of (topic_at s w t y).ledgers answer.position ≡ Some j → IsAhead s w t a y r j id
answered_behind s w k traced t a y r l j id answer lt pair request m to at = record { request = request; ahead = ahead }
  where
    near : List Entry
    near = (topic_at s w t a).entries

    far : List Entry
    far = (topic_at s w t y).entries

    h : Answers (length s.clusters) y far (topic_at s w t y).ledgers l id answer m.entry
    h = (k.answers t y (lt, pair.1)).answers l id answer m.entry (record { at = m.stands; of = eq-eqb m.entry.ident.origin y m.origin; is = m.is })

    there : RequestAt a far h.index id
    there = let P : ℕ → Type 0 = λ z. RequestAt z far h.index id in subst P (one_bit a h.asker (sym h.to ∙ to)) h.request

    source : Stands near there.entry
    source = of_source a y near far (begins s w t a y k pair) h.index there.entry there.at there.of

    same : source.place ≡ r
    same =
        (traced t a (lt, pair.0)).ids source.place r id (record { entry = there.entry; at = source.is; of = there.of; asks = there.asks }) (asked_at a r (topic_at s w t a) id request)

    out : is_outbound a y there.entry ≡ true
    out = out_there y a near far (begins s w t a y k pair) h.index there.entry there.at there.of

    ahead : (i : ℕ) (f : Entry) → i < r → IsEntry (topic_at s w t a) i f → is_outbound a y f ≡ true → (c : ℕ) × (c ≤ j) × IsEntry (topic_at s w t y) c f
    ahead i f less at_i out_f =
        let b = order_kept a y near far (begins s w t a y k pair) (k.once (node s t a)) (k.once (node s t y)) i source.place h.index there.entry f at_i source.is
        (omega (arith, less, same)) out_f out there.at in
        let last : l - 1 ≡ j = same_Some _ _ (sym h.names ∙ at) in
        let below = b.below in let under = h.below in (b.place, omega (arith, below, under, last), b.is)

answers_behind : (s : Setup) (w : World) → Knows s w → AllTraced s w → AnswersBehind s w
answers_behind s w k traced t a y r l j id answer pair request m to at =
    by_test (nat_lt t (length s.topics))
    (λ lt. answered_behind s w k traced t a y r l j id answer (ltb-true _ _ lt) pair request m to at)
    (λ past. absurd (absent s w t y l m.entry k past m.stands))

-- ---- updates

pub flip : (s : Setup) (a y : ℕ) → ArePair s a y → ArePair s y a
flip s a y pair = (pair.1, pair.0, λ is. pair.2 (sym is))

-- an update that stands at z stands at its own cluster
pub at_home : (s : Setup) (w : World) (t z i a : ℕ) (e : Entry) → Knows s w → IsEntry (topic_at s w t z) i e → e.ident.origin ≡ a → a < length s.clusters → z < length s.clusters
    → Stands (topic_at s w t a).entries e
at_home s w t z i a e k at of small small_z =
    by_test (a == z)
    (λ same. record { place = i; is = subst (λ (x : ℕ). slice_get (topic_at s w t x).entries i ≡ Some e) (sym (eqb-true a z same)) at })
    (λ other.
    of_source a z (topic_at s w t a).entries (topic_at s w t z).entries (k.prefix t a z (small, small_z, λ same. false≢true (sym other ∙ eq-eqb a z same))) i e at
    (eq-eqb e.ident.origin a of))

-- the answer that names a place of the cut stands where it was given, and went to a alone
told_behind : (s : Setup) (w : World) → Knows s w → AllTraced s w → (t a y i j : ℕ) (id : List ℕ) (p : Position) → t < length s.topics → ArePair s a y
    → MarkerAt (topic_at s w t a) i a (marker.Request id (cluster_ref.Known a)) → AnsweredWith y (topic_at s w t a).entries id p
    → index_of (topic_at s w t y).ledgers p ≡ Some j → IsAhead s w t a y i j id
told_behind s w k traced t a y i j id p lt pair request answered at =
    answered_behind s w k traced t a y i there.place j id answered.answer lt pair request
    (record { entry = answered.entry; stands = there.is; origin = eqb-true answered.entry.ident.origin y answered.heard.of; is = answered.heard.is })
    (h.to ∙ ap (λ (z : ℕ). targets.Only (2 ^ z)) mine) (ap (index_of (topic_at s w t y).ledgers) answered.names ∙ at)
  where
    near : List Entry
    near = (topic_at s w t y).entries

    far : List Entry
    far = (topic_at s w t a).entries

    from : Begins y a near far
    from = begins s w t y a k (flip s a y pair)

    there : Stands near answered.entry
    there = of_source y a near far from answered.index answered.entry answered.heard.at answered.heard.of

    h : Answers (length s.clusters) y near (topic_at s w t y).ledgers there.place id answered.answer answered.entry
    h = (k.answers t y (lt, pair.1)).answers there.place id answered.answer answered.entry (record { at = there.is; of = answered.heard.of; is = answered.heard.is })

    mine : h.asker ≡ a
    mine =
        let out = out_there a y near far from answered.index answered.entry answered.heard.at answered.heard.of in
        goes_only a h.asker (subst (λ (to : Targets). goes_to a to ≡ true) h.to (right (is_of y answered.entry) (goes_to a answered.entry.to) out))

-- of a topic that is there
update_behind : (s : Setup) (w : World) → Knows s w → AllTraced s w → MarkersCut s w → (t z i a y j : ℕ) (n : List ℕ) (told : List ClusterPosition) → t < length s.topics
    → z < length s.clusters → ArePair s a y → MarkerAt (topic_at s w t z) i a (marker.Update n told) → only_index (topic_at s w t y).ledgers (positions_for y told) ≡ Some j
    → IsOfSnapshot s w t a y j told
update_behind s w k traced cuts t z i a y j n told lt small pair m names = record {
  id = c.id;
  local = c.local;
  listed = c.remote;
  index = c.index;
  snapshot = record { entry = c.entry; stands = c.at; origin = eqb-true c.entry.ident.origin a c.of; is = c.is };
  same = same;
  request = asked.request;
  below = asked.below;
  ahead = told_behind s w k traced t a y asked.request j c.id each.0 lt pair request (asked.answers y each.0 each.1) stored;
}
  where
    home : Stands (topic_at s w t a).entries m.entry
    home = at_home s w t z i a m.entry k m.stands m.origin pair.0 small

    u : IsTold (length s.clusters) a (topic_at s w t a).entries n told
    u = (traced t a (lt, pair.0)).updates home.place m.entry n told home.is (eq-eqb m.entry.ident.origin a m.origin) m.is

    c : IsCutHere (length s.clusters) a (topic_at s w t a).entries u.cut
    c = u.here

    same : told ≡ named (cut_of a (length s.clusters) c.local c.remote)
    same = u.same ∙ ap named c.same

    asked : AskedFor a (topic_at s w t a).entries c.index c.id (cut_of a (length s.clusters) c.local c.remote)
    asked = (traced t a (lt, pair.0)).snapshots c.index c.entry c.id c.local c.remote c.at c.of c.is

    request : MarkerAt (topic_at s w t a) asked.request a (marker.Request c.id (cluster_ref.Known a))
    request =
        let e = asked.asks.entry in let source = asked.asks.asks.0 in
        let own : source ≡ cluster_ref.Known a = (k.answers t a (lt, pair.0)).sources asked.request e c.id source asked.asks.at asked.asks.of asked.asks.asks.1 in
        record {
          entry = e;
          stands = asked.asks.at;
          origin = eqb-true e.ident.origin a asked.asks.of;
          is = asked.asks.asks.1 ∙ ap (λ (q : ClusterRef). content.Marked (marker.Request c.id q)) own;
        }

    cut : IsCut s w t a (cut_of a (length s.clusters) c.local c.remote)
    cut = (cuts t a c.index c.entry c.id c.local c.remote pair.0 c.at c.is).1

    each : (p : Position) × (slice_index_or (cut_of a (length s.clusters) c.local c.remote).remote y None ≡ Some p) × CoversCluster s w t a cut.0 y p
    each = cut.2 y pair.1 pair.2

    stored : index_of (topic_at s w t y).ledgers each.0 ≡ Some j
    stored =
        let one = ap (positions_for y) same ∙ names_one y (cut_of a (length s.clusters) c.local c.remote).remote each.0 each.1 in
        let P : List Position → Type 0 = λ ps. only_index (topic_at s w t y).ledgers ps ≡ Some j in
        subst P one names

updates_behind : (s : Setup) (w : World) → Knows s w → AllTraced s w → MarkersCut s w → UpdatesBehind s w
updates_behind s w k traced cuts t z i a y j n told small pair m names =
    by_test (nat_lt t (length s.topics))
    (λ lt. update_behind s w k traced cuts t z i a y j n told (ltb-true _ _ lt) small pair m names)
    (λ past. absurd (absent s w t z i m.entry k past m.stands))

-- ---- what is given after it

own_meant : (a : ℕ) (f : Entry) → f.ident.origin ≡ a → meant_for a f ≡ true
own_meant a f of = subst (λ (b : Bool). (b || goes_to a f.to) ≡ true) (sym (eq-eqb f.ident.origin a of)) refl

-- a message is no request
no_message : (b : Broker) (r a : ℕ) (id : List ℕ) (f : Entry) → MarkerAt b r a (marker.Request id (cluster_ref.Known a)) → IsEntry b r f → is_data f.content ≡ true → ⊥
no_message b r a id f m at message =
    let same : f ≡ m.entry = same_Some _ _ (sym at ∙ m.stands) in
    false≢true (sym (ap is_data (ap (λ (e : Entry). e.content) same ∙ m.is)) ∙ message)

pub own_behind : (s : Setup) (w : World) → AllOnce w → IsPrefix s w → OwnBehind s w
own_behind s w once prefix t a y j r n id pair passed ahead e i f given at message of =
    elim (below_or source.place r) [
      | inl lt ↦
          let c = ahead.ahead source.place f lt source.is out in let le = c.1 in
          absurd (not_twice (topic_at s w t y).entries f (once (node s t y)) (record { i = c.0; j = i; before = omega (arith, behind, le); at_i = c.2; at_j = at }))
      | inr le ↦ elim (below_or r source.place) [
        | inl lt ↦ (source.place, lt, source.is)
        | inr le' ↦
            let same : source.place ≡ r = omega (arith, le, le') in
            absurd (no_message (topic_at s w t a) r a id f ahead.request (subst (λ (k : ℕ). IsEntry (topic_at s w t a) k f) same source.is) message)
      ]
    ]
  where
    is_own : is_of a f ≡ true
    is_own = eq-eqb f.ident.origin a of

    source : Stands (topic_at s w t a).entries f
    source = of_source a y (topic_at s w t a).entries (topic_at s w t y).entries (prefix t a y pair) i f at is_own

    out : is_outbound a y f ≡ true
    out = out_there y a (topic_at s w t a).entries (topic_at s w t y).entries (prefix t a y pair) i f at is_own

    behind : j < i
    behind =
        elim (below_or j i) [
          | inl lt ↦ lt
          | inr le ↦ absurd (false≢true (sym (not_again s w t y n a j passed e i f given at le) ∙ own_meant a f of))
        ]

-- ---- at every moment of a short run

abbrev AreBehind : Setup → World → Type 0
AreBehind s w = RequestsDiffer s w × AnswersBehind s w × UpdatesBehind s w × OwnBehind s w

are_behind : (s : Setup) (w : World) → Knows s w → AllTraced s w → MarkersCut s w → AreBehind s w
are_behind s w k traced cuts = (differ s w k traced, answers_behind s w k traced, updates_behind s w k traced cuts, own_behind s w k.once k.prefix)

pub behind_always : LawBehind
behind_always s scripted = record {
  run = λ es short. given.run es short (cuts.run es short).0;
  limited = λ l es short. given.limited l es short (cuts.limited l es short).0;
  between = λ l es at short. given.between l es at short (cuts.between l es at short).0;
  moment = λ l m short. given.moment l m short (cuts.moment l m short).0;
}
  where
    given : Always s (λ w settled. IsShort w → MarkersCut s w → AreBehind s w)
    given =
        let names = names_of s scripted in
        always s (Tracing s) (λ w. IsShort w → MarkersCut s w → AreBehind s w) (tracing_kept s names)
        (λ w h short. are_behind s w (knows_now s w h.0.0 short) (h.1 short))
        (λ w n p shape h short. are_behind s (partly_written s w n (Some p)) (knows_written s w n p shape h.0.0 short) (traced_written s names w n p shape short h.0 (h.1 short)))

    cuts : Always s (λ w settled. IsShort w → MarkersCut s w × CachesCut s w)
    cuts = cut_always s scripted

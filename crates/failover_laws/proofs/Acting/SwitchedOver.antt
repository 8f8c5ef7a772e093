-- So an update that came is acted on after a settling; and the index that it names is above all that stood at the other cluster when its
-- snapshot was asked for.
use Rattle.std.proofs.Common.{◌≡◌, ◌<◌, ◌≤◌, true, List, ◌∷◌, ◌++◌, length, sym, ap, subst, ◌∙◌, append_assoc, ◌==◌, arith, inl, inr, ℕ, []}
use Rattle.std.specs.Prelude.{Option, Some, ◌||◌, is_some, nat_lt, slice_get}
use Rattle.std.proofs.lemmas.Bool.{eq-eqb, false≢true, ltb-true}
use Rattle.std.proofs.lemmas.Option.{same_Some, slice_get_within}
use Rattle.world_laws.proofs.Types.{Entry, Position, Step}
use Rattle.world_laws.proofs.Types.step
use Rattle.geo_base.specs.Broker.{replicator_at, sub_named}
use Rattle.geo_base.specs.Cursor.{has}
use Rattle.geo_base.specs.Entry.{goes_to, is_data, is_outbound, meant_for}
use Rattle.geo_base.specs.Laws.{IsShort, SettlesAll, after_settling, begun, of_origin, outbound}
use Rattle.geo_base.specs.Run.{no_limits, run}
use Rattle.geo_base.specs.Scripted.{IsScripted}
use Rattle.geo_base.specs.Setup.{Setup}
use Rattle.geo_base.specs.Subscribing.{most_subs}
use Rattle.geo_base.specs.Subscription.{Subscription}
use Rattle.geo_base.specs.Updating.{only_index}
use Rattle.geo_base.specs.World.{World, node, opening_world, topic_at}
use Rattle.world_laws.specs.Reached.{ReachedFrom}
use Rattle.world_laws.proofs.ComesOver.Complete.{budget_always}
use Rattle.world_laws.proofs.Induction.Reaching.{goes_on}
use Rattle.world_laws.proofs.OnceInOrder.Members.{Stands, below_or, from_filter, to_filter}
use Rattle.world_laws.proofs.Replicating.Prefixes.{is_of, not_twice}
use Rattle.world_laws.proofs.Snapshotting.Grows.{Grown}
use Rattle.world_laws.proofs.Snapshotting.Hearing.{grown_get}
use Rattle.world_laws.proofs.TopicOrder.Order.{of_source}
use Rattle.world_laws.proofs.Walks.Walk.{both, by_test}
use Rattle.failover_laws.specs.Covers.{NotOfThen}
use Rattle.failover_laws.specs.Since.{Since}
use Rattle.failover_laws.specs.Switched.{HasActed, HasAllOf, HasRoomFrom, IsSwitchedOver, IsUnread, LawSwitchover, LeftFrom}
use Rattle.failover_laws.proofs.Acting.Acted.{acts_law, acts_on}
use Rattle.failover_laws.proofs.Acting.LeftRuns.{all_left, left_since}
use Rattle.failover_laws.proofs.Acting.Named.{names_stored, NamesOne}
use Rattle.failover_laws.proofs.Acting.RunOn.{reached_on, run_on_from, settled_on}
use Rattle.failover_laws.proofs.Behind.{absent, begins, flip}
use Rattle.failover_laws.proofs.Covers.Covering.{covers_run}
use Rattle.failover_laws.proofs.Covers.Known.{fewer_before, grown_on, known_at, reached_then, Standing}
use Rattle.failover_laws.proofs.Given.{not_again, passes_meant}
use Rattle.failover_laws.proofs.Lasting.{since_keeps, still_passed}

-- what a cluster has for another one stands there, where all has come over
pub arrived_at : (a y : ℕ) (near far : List Entry) (k : ℕ) (e : Entry) → outbound a y near ≡ of_origin a far → slice_get near k ≡ Some e → is_outbound a y e ≡ true → Stands far e
arrived_at a y near far k e is at out =
    let there : Stands (outbound a y near) e = to_filter (is_outbound a y) near e k at out in
    (from_filter (is_of a) far e (subst (λ (l : List Entry). Stands l e) is there)).stands

-- ---- what an update names

-- ---- what is read next is stored

-- ---- an update is acknowledged where it was acted on

-- ---- in the run of some steps

pub switched : (s : Setup) → IsScripted s → (before after : List Step) → IsSwitchedOver s before after
switched s scripted before after t y a k n told pair short asked m goes since leave room = (have, not_then)
  where
    v : World
    v = run s before

    w : World
    w = run s (before ++ after)

    z : World
    z = run s (before ++ after ++ step.Settle ∷ [])

    last : before ++ (after ++ step.Settle ∷ []) ≡ before ++ after ++ step.Settle ∷ []
    last = sym (append_assoc before after (step.Settle ∷ []))

    settled_z : z ≡ after_settling s w
    settled_z = settled_on s (before ++ after)

    from_v : ReachedFrom s (opening_world s) v
    from_v = (goes_on s (opening_world s)).limited no_limits before

    to_w : ReachedFrom s v w
    to_w = reached_on s before after

    to_z : ReachedFrom s v z
    to_z = subst (λ (es : List Step). ReachedFrom s v (run s es)) last (reached_on s before (after ++ step.Settle ∷ []))

    w_to_z : ReachedFrom s w z
    w_to_z = reached_on s (before ++ after) (step.Settle ∷ [])

    short_w : IsShort w
    short_w = let fewer = fewer_before s w z w_to_z in omega (arith, fewer, short)

    at_w : Standing s w
    at_w = known_at s scripted w (reached_then s (opening_world s) v w from_v to_w) short_w

    topic : t < length s.topics
    topic = by_test (nat_lt t (length s.topics)) (λ lt. ltb-true _ _ lt) (λ past. absurd (absent s w t a k m.entry at_w.knows past m.stands))

    v_to_w : Grown s v w
    v_to_w = grown_on s scripted v w from_v to_w

    w_grows : Grown s w z
    w_grows = grown_on s scripted w z (reached_then s (opening_world s) v w from_v to_w) w_to_z

    v_grows : Grown s v z
    v_grows = grown_on s scripted v z from_v to_z

    -- it was not at y in v, since it was not at a
    unread : IsUnread s v t y a m.entry
    unread i at =
        let kv = (known_at s scripted v from_v (let fewer = fewer_before s v z to_z in omega (arith, fewer, short))).knows in
        let source = of_source a y (topic_at s v t a).entries (topic_at s v t y).entries (begins s v t a y kv pair) i m.entry at (eq-eqb m.entry.ident.origin a m.origin) in
        let within = slice_get_within (topic_at s v t a).entries source.place m.entry source.is in
        absurd (not_twice (topic_at s w t a).entries m.entry (at_w.knows.once (node s t a)) (record {
          i = source.place;
          j = k;
          before = omega (arith, within, since);
          at_i = grown_get (topic_at s v t a).entries (topic_at s w t a).entries (topic_at s v t a).ledgers (topic_at s w t a).ledgers (v_to_w t a (topic, pair.0)) source.place m.entry source.is;
          at_j = m.stands;
        }))

    path : LeftFrom s t y n v z
    path =
        subst (λ (es : List Step). LeftFrom s t y n v (run s es)) last (subst (LeftFrom s t y n v) (sym (run_on_from s before (after ++ step.Settle ∷ [])))
        (all_left no_limits s t y n v (begun v) (after ++ step.Settle ∷ []) leave LeftFrom.Starting))

    stands_z : slice_get (topic_at s z t a).entries k ≡ Some m.entry
    stands_z = grown_get (topic_at s w t a).entries (topic_at s z t a).entries (topic_at s w t a).ledgers (topic_at s z t a).ledgers (w_grows t a (topic, pair.0)) k m.entry m.stands

    all_over : SettlesAll s w
    all_over = (budget_always.complete s scripted).run (before ++ after) (subst IsShort settled_z short)

    out : is_outbound a y m.entry ≡ true
    out = both (m.entry.ident.origin == a) (goes_to y m.entry.to) (eq-eqb m.entry.ident.origin a m.origin) goes

    there : Stands (topic_at s z t y).entries m.entry
    there =
        arrived_at a y (topic_at s z t a).entries (topic_at s z t y).entries k m.entry
        (subst (λ (u : World). outbound a y (topic_at s u t a).entries ≡ of_origin a (topic_at s u t y).entries) (sym settled_z) (all_over t a y topic pair).arrived) stands_z out

    acked : has (replicator_at (topic_at s z t y) a).cursor there.place ≡ true
    acked =
        subst (λ (u : World). there.place < length (topic_at s u t y).entries → has (replicator_at (topic_at s u t y) a).cursor there.place ≡ true) (sym settled_z)
        ((all_over t y a topic (flip s a y pair)).acknowledged there.place) (slice_get_within (topic_at s z t y).entries there.place m.entry there.is)

    acted : HasActed s z t y a n told
    acted =
        acts_on s v t y a n told m.entry
        (record { scripted = scripted; reached = from_v; topic = topic; pair = flip s a y pair; origin = m.origin; is = m.is; room = room; unread = unread }) z path short there.place there.is acked

    -- the index that is named is above all that stood at y in v
    one : NamesOne s w t y n told
    one = names_stored s w t y a a k n told at_w topic pair pair.0 m

    same : one.index ≡ acted.index
    same =
        let kept = (w_grows t y (topic, pair.1)).index one.position one.index one.stored in
        same_Some _ _ (sym kept ∙ subst (λ (ps : List Position). only_index (topic_at s z t y).ledgers ps ≡ Some acted.index) one.one acted.names)

    high : length (topic_at s v t y).entries ≤ one.index
    high = covers_run s scripted v w from_v to_w short_w t a y one.index told pair asked one.names

    have : HasAllOf s v z t y a n
    have = record {
      index = acted.index;
      passed = acted.passed;
      high = omega (arith, high, same);
      sub = acted.passed.sub;
      here = acted.passed.here;
      all = λ i f at message meant.
          let within = slice_get_within (topic_at s v t y).entries i f at in
          acted.passed.passed i f (omega (arith, within, high, same))
          (grown_get (topic_at s v t y).entries (topic_at s z t y).entries (topic_at s v t y).ledgers (topic_at s z t y).ledgers (v_grows t y (topic, pair.1)) i f at)
          (passes_meant (is_data f.content) (meant_for a f) meant);
    }

    not_then : (u : World) → Since s t y n z u → NotOfThen s v u t y n a
    not_then u after_z e i f gives at meant =
        elim (below_or i (length (topic_at s v t y).entries)) [
          | inl lt ↦
              let still = still_passed n (topic_at s z t y) (topic_at s u t y) a acted.index (since_keeps s t y n z u after_z) acted.passed in
              absurd (false≢true (sym (not_again s u t y n a acted.index still e i f gives at (omega (arith, lt, high, same))) ∙ meant))
          | inr le ↦ le
        ]

room_here : (s : Setup) (v : World) (t y : ℕ) (n : List ℕ) (u : Subscription) → sub_named (topic_at s v t y).subs n ≡ Some u → HasRoomFrom s v t y n
room_here s v t y n u here w path =
    let still = (since_keeps s t y n v w (left_since s t y n v w path)).cursor u here in
    ap (λ (o : Option Subscription). is_some o || nat_lt (length (topic_at s w t y).subs) most_subs) still.here

pub switchover_law : LawSwitchover
switchover_law = record { room = room_here; acts = acts_law; settled = switched }

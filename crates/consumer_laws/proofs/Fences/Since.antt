-- Since a world v: topics have grown, and what replicators had acknowledged there they still have. Where all had come over at v, an update that
-- is read since was stored since at its own cluster.
use Rattle.std.proofs.Common.{◌≡◌, ℕ, zero, suc, ◌+◌, ◌-◌, ◌<◌, ◌≤◌, Bool, true, false, List, [], ◌∷◌, ◌++◌, length, refl, sym, ap, subst, ◌∙◌, arith, inl, inr}
use Rattle.std.specs.Prelude.{Some, if◌then◌else◌, slice_get, slice_index_or}
use Rattle.std.proofs.lemmas.Bool.{false≢true}
use Rattle.std.proofs.lemmas.List.{append_assoc}
use Rattle.std.proofs.lemmas.List.Elements.{filter-append}
use Rattle.std.proofs.lemmas.Option.{none-some, same_Some}
use Rattle.world_laws.proofs.Types.{Entry, ReplicatorState}
use Rattle.world_laws.proofs.Types.replicator_state
use Rattle.geo_base.specs.Broker.{Broker, no_broker, replicator_at}
use Rattle.geo_base.specs.Cursor.{has, next_open}
use Rattle.geo_base.specs.Entry.{is_outbound}
use Rattle.geo_base.specs.Happening.{broker_does, broker_halts, stops}
use Rattle.geo_base.specs.Laws.{IsComplete, of_origin, outbound}
use Rattle.geo_base.specs.Plan.{done, halted}
use Rattle.geo_base.specs.Planned.{Planned}
use Rattle.geo_base.specs.Seeking.{restart}
use Rattle.geo_base.specs.Replicator.{Replicator, index_to_read}
use Rattle.geo_base.specs.Setup.{Setup}
use Rattle.geo_base.specs.World.{World, node, site, topic_at}
use Rattle.world_laws.proofs.Induction.Layers.{Everywhere, one_topic}
use Rattle.world_laws.proofs.OnceInOrder.Members.{Stands, below_or, from_filter, get_right, stands_left, to_filter}
use Rattle.world_laws.proofs.Replicating.PairRoles.{shape_within}
use Rattle.world_laws.proofs.Replicating.Prefixes.{is_of}
use Rattle.world_laws.proofs.Replicating.Sizes.{IsThere, Sized, node_there, stopped_at}
use Rattle.world_laws.proofs.Snapshotting.Answering.{AnswersAt}
use Rattle.world_laws.proofs.Snapshotting.Grows.{Grown, Lengthened, grown_does, grown_halts, grown_stops, unchanged}
use Rattle.world_laws.proofs.Walks.Shapes.{ReadsNext, Shape}
use Rattle.world_laws.proofs.Walks.Walk.{on_if}
use Rattle.consumer_laws.proofs.Fences.Acked.{StaysAcked, done_acked, halted_acked}

pub record Since (s : Setup) (v w : World) : Type 0 where
  pub grown : Grown s v w
  pub acked : (t x : ℕ) → IsThere s t x → StaysAcked (topic_at s v t x) (topic_at s w t x)

pub since_itself : (s : Setup) (v : World) → Since s v v
since_itself s v = record { grown = λ t x there. unchanged (topic_at s v t x); acked = λ t x there y i h. h }

lengthened_twice : (a b c : Broker) → Lengthened a b → Lengthened b c → Lengthened a c
lengthened_twice a b c g h = record {
  more = g.more ++ h.more;
  is = h.is ∙ ap (λ (es : List Entry). es ++ h.more) g.is ∙ append_assoc a.entries g.more h.more;
  position = λ k lt. h.position k (longer k lt) ∙ g.position k lt;
  index = λ p i at. h.index p i (g.index p i at);
}
  where
    longer_by : (k : ℕ) (xs ys : List Entry) → k < length xs → k < length (xs ++ ys)
    longer_by k [] ys lt = absurd (omega (arith, lt))
    longer_by zero (x ∷ xs) ys lt = omega arith
    longer_by (suc k) (x ∷ xs) ys lt = let r = longer_by k xs ys (omega (arith, lt)) in omega (arith, r)

    longer : (k : ℕ) → k < length a.entries → k < length b.entries
    longer k lt = subst (λ (es : List Entry). k < length es) (sym g.is) (longer_by k a.entries g.more lt)

since_on : (s : Setup) (v w w' : World) → Since s v w → Grown s w w' → ((t x : ℕ) → IsThere s t x → StaysAcked (topic_at s w t x) (topic_at s w' t x)) → Since s v w'
since_on s v w w' h g acked = record {
  grown = λ t x there. lengthened_twice (topic_at s v t x) (topic_at s w t x) (topic_at s w' t x) (h.grown t x there) (g t x there);
  acked = λ t x there y i k. acked t x there y i (h.acked t x there y i k);
}

-- the same brokers
pub since_same : (s : Setup) (v w w' : World) → w'.brokers ≡ w.brokers → Since s v w → Since s v w'
since_same s v w w' is h = record {
  grown = λ t x there. subst (λ (bs : List Broker). Lengthened (topic_at s v t x) (slice_index_or bs (node s t x) no_broker)) (sym is) (h.grown t x there);
  acked = λ t x there. subst (λ (bs : List Broker). StaysAcked (topic_at s v t x) (slice_index_or bs (node s t x) no_broker)) (sym is) (h.acked t x there);
}

-- ---- events

pub since_does : (s : Setup) (v w : World) (p : Planned) → Shape s w p → Everywhere s (AnswersAt s) w → Since s v w → Since s v (broker_does s w p)
unfolding broker_does
since_does s v w p shape all h =
    let b = topic_at s w p.topic p.cluster in
    on_if (λ (w' : World). Grown s w w' → Since s v w') p.plan.idle _ _ (λ g. since_same s v w _ refl h)
    (λ g. since_on s v w _ h g
    (one_topic s (λ t x c. StaysAcked (topic_at s w t x) c) w p.topic p.cluster (done s.per_ledger b p.plan) (shape_within s w p shape)
    (λ here. done_acked s.per_ledger b p.plan) (λ t x here y i k. k))) (grown_does s w p shape all)

pub since_halts : (s : Setup) (v w : World) (k : ℕ) (p : Planned) → Shape s w p → Everywhere s (AnswersAt s) w → Since s v w → Since s v (broker_halts s w k p)
unfolding broker_halts
since_halts s v w k p shape all h =
    let b = topic_at s w p.topic p.cluster in
    since_on s v w _ h (grown_halts s w k p shape all)
    (one_topic s (λ t x c. StaysAcked (topic_at s w t x) c) w p.topic p.cluster (halted s.per_ledger b k p.plan) (shape_within s w p shape)
    (λ here. halted_acked s.per_ledger b k p.plan) (λ t x here y i k. k))

pub since_stops : (s : Setup) (v w : World) → Sized s w → Everywhere s (AnswersAt s) w → Since s v w → Since s v (stops s w)
unfolding stops restart
since_stops s v w z all h =
    since_on s v w (stops s w) h (grown_stops s w z all)
    (λ t x there. subst (StaysAcked (topic_at s w t x)) (sym (stopped_at w.brokers (λ (b : Broker). done s.per_ledger b restart) (node s t x) (node_there s w t x z there)))
    (done_acked s.per_ledger (topic_at s w t x) restart))

-- ---- what is read since

-- what is read next is not acknowledged
next_lacks : (set : List ℕ) (from more i : ℕ) → next_open set from more ≡ Some i → has set i ≡ false
next_lacks set from zero i h = absurd (none-some i h)
next_lacks set from (suc more) i h = by (has set from) refl h (next_lacks set (from + 1) more i)
  where
    by : (b : Bool) → has set from ≡ b → (if b then next_open set (from + 1) more else Some from) ≡ Some i → (next_open set (from + 1) more ≡ Some i → has set i ≡ false) → has set i ≡ false
    by true is e ih = ih e
    by false is e ih = subst (λ (j : ℕ). has set j ≡ false) (same_Some from i e) is

read_lacks : (state : ReplicatorState) (u : Replicator) (n i : ℕ) → index_to_read state u n ≡ Some i → has u.cursor i ≡ false
read_lacks replicator_state.Open u n i h = next_lacks u.cursor u.read_index (n - u.read_index) i h
read_lacks replicator_state.Opening u n i h = absurd (none-some i h)
read_lacks replicator_state.Closed u n i h = absurd (none-some i h)

rest_of : List Entry → List Entry
rest_of [] = []
rest_of (x ∷ xs) = xs

cancelled : (xs ys zs : List Entry) → xs ++ ys ≡ xs ++ zs → ys ≡ zs
unfolding rest_of
cancelled [] ys zs h = h
cancelled (x ∷ xs) ys zs h = cancelled xs ys zs (ap rest_of h)

-- what y has stored since it had brought all over to x
record StoredSince (es more : List Entry) (e : Entry) : Type 0 where
  place : ℕ
  is : slice_get (es ++ more) (length es + place) ≡ Some e

-- where x had all that y had for it, what came to x since was stored at y since
came_since : (x y : ℕ) (near far more_near more_far : List Entry) (e : Entry) → outbound y x far ≡ of_origin y near
    → (rest : List Entry) → outbound y x (far ++ more_far) ≡ of_origin y (near ++ more_near) ++ rest → Stands more_near e → is_of y e ≡ true → StoredSince far more_far e
came_since x y near far more_near more_far e arrived rest begins s of =
    let two : of_origin y near ++ outbound y x more_far ≡ of_origin y near ++ (of_origin y more_near ++ rest) =
    ap (λ (l : List Entry). l ++ outbound y x more_far) (sym arrived)
    ∙ sym (filter-append (is_outbound y x) far more_far) ∙ begins
    ∙ ap (λ (l : List Entry). l ++ rest) (filter-append (is_of y) near more_near) ∙ append_assoc (of_origin y near) (of_origin y more_near) rest in
    let later : outbound y x more_far ≡ of_origin y more_near ++ rest = cancelled (of_origin y near) (outbound y x more_far) (of_origin y more_near ++ rest) two in
    let there : Stands (of_origin y more_near) e = to_filter (is_of y) more_near e s.place s.is of in
    let out : Stands (outbound y x more_far) e = subst (λ (l : List Entry). Stands l e) (sym later) (stands_left (of_origin y more_near) rest e there) in
    let at = (from_filter (is_outbound y x) more_far e out).stands in
    record { place = at.place; is = get_right far more_far at.place ∙ at.is }

abbrev IsSince : Broker → Broker → Entry → Type 0
IsSince a b e = (j : ℕ) × (length a.entries ≤ j) × (slice_get b.entries j ≡ Some e)

pub read_since : (s : Setup) (v w : World) (t x y i : ℕ) (e : Entry) → IsThere s t x → IsThere s t y → Since s v w → IsComplete s v t x y → IsComplete s v t y x
    → (rest : List Entry) → outbound y x (topic_at s w t y).entries ≡ of_origin y (topic_at s w t x).entries ++ rest
    → ReadsNext (site s t x) (topic_at s w t x) y i e → is_of y e ≡ true → IsSince (topic_at s v t y) (topic_at s w t y) e
read_since s v w t x y i e at_x at_y since out back rest begins next of = (
  length far.entries + stored.place,
  omega arith,
  subst (λ (es : List Entry). slice_get es (length far.entries + stored.place) ≡ Some e) (sym g.is) stored.is,
)
  where
    near : Broker
    near = topic_at s v t x

    far : Broker
    far = topic_at s v t y

    h : Lengthened near (topic_at s w t x)
    h = since.grown t x at_x

    g : Lengthened far (topic_at s w t y)
    g = since.grown t y at_y

    lacks : has (replicator_at (topic_at s w t x) y).cursor i ≡ false
    lacks = read_lacks (replicator_at (topic_at s w t x) y).state (replicator_at (topic_at s w t x) y) (length (topic_at s w t x).entries) i next.1

    late : length near.entries ≤ i
    late =
        elim (below_or i (length near.entries)) [
          | inl lt ↦ absurd (false≢true (sym lacks ∙ since.acked t x at_x y i (out.acknowledged i lt)))
          | inr le ↦ le
        ]

    here : Stands h.more e
    here = record {
      place = i - length near.entries;
      is =
          let there : slice_get (near.entries ++ h.more) i ≡ Some e = subst (λ (es : List Entry). slice_get es i ≡ Some e) h.is next.2 in
          let sum : length near.entries + (i - length near.entries) ≡ i = omega (arith, late) in
          sym (get_right near.entries h.more (i - length near.entries)) ∙ ap (λ (k : ℕ). slice_get (near.entries ++ h.more) k) sum ∙ there;
    }

    stored : StoredSince far.entries g.more e
    stored =
        came_since x y near.entries far.entries h.more g.more e back.arrived rest
        (ap (λ (es : List Entry). outbound y x es) (sym g.is) ∙ begins ∙ ap (λ (es : List Entry). of_origin y es ++ rest) h.is) here of

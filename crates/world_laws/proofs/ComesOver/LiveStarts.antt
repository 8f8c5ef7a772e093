-- Settling begins a session of each pair: after all resets each one lives.
use Rattle.std.proofs.Common.{◌≡◌, ℕ, zero, suc, ◌+◌, ◌<◌, ◌≤◌, Bool, true, false, List, [], ◌∷◌, ◌++◌, length, refl, sym, ap, subst, ◌∙◌, ◌==◌, arith, inl, inr, ◌⊎◌}
use Rattle.std.specs.Prelude.{Option, Some, None, ◌&&◌, if◌then◌else◌, nat_lt, not, slice_get}
use Rattle.std.specs.List.{range_with_len}
use Rattle.std.proofs.lemmas.Bool.{eqb-true, eqb-false, lt-ltb}
use Rattle.std.proofs.lemmas.Bool.Decides.{nat_tests}
use Rattle.std.proofs.lemmas.Option.{none-some, same_Some}
use Rattle.world_laws.proofs.Types.{Event, Packet}
use Rattle.world_laws.proofs.Types.event
use Rattle.world_laws.proofs.Types.frame
use Rattle.geo_base.specs.Broker.{receiver_at, replicator_at}
use Rattle.geo_base.specs.Forwarding.{is_remote, link_producer, reset, resets}
use Rattle.geo_base.specs.Happening.{broker_does, does_planned, happens}
use Rattle.geo_base.specs.Laws.{ArePair}
use Rattle.geo_base.specs.Link.{Link, sent_on}
use Rattle.geo_base.specs.Plan.{Plan, idle_plan}
use Rattle.geo_base.specs.Planned.{Planned, has_pair, in_range, planned, planned_in}
use Rattle.geo_base.specs.Run.{Pair, all_settle, no_limits, pairs, pairs_from, pairs_of, pairs_to, resets_of}
use Rattle.geo_base.specs.Replicator.{Replicator}
use Rattle.geo_base.specs.Setup.{Setup, topic_name}
use Rattle.geo_base.specs.World.{Back, Forward, World, link_at, node, site, topic_at}
use Rattle.world_laws.proofs.ComesOver.Backs.{Backs, backs_kept}
use Rattle.world_laws.proofs.Replicating.Effects.{Each, replicator_after, replicator_then}
use Rattle.world_laws.proofs.Induction.Layers.{both_kept}
use Rattle.world_laws.proofs.ComesOver.Live.{IsOpening, Live, asking_begins}
use Rattle.world_laws.proofs.ComesOver.LiveFrames.{LiveAt, LiveIn, after_done, after_sent, by_pair, delivered_other, outs_back, outward_else, outward_here}
use Rattle.world_laws.proofs.ComesOver.LiveRounds.{Ground, are_pair}
use Rattle.world_laws.proofs.Budget.Lowering.{IsPair}
use Rattle.world_laws.proofs.OnceInOrder.Members.{Stands, get_right, stands_left, stands_next}
use Rattle.world_laws.proofs.Replicating.Pairs.{Replicates, replication_kept}
use Rattle.world_laws.proofs.Replicating.Reach.{Outgoing, resets_out}
use Rattle.world_laws.proofs.Budget.Rounds.{after, at}
use Rattle.world_laws.proofs.Induction.Runs.{IsKept, event_done}
use Rattle.world_laws.proofs.Replicating.ReplicatorEvents.{chosen, reset_replicator}
use Rattle.world_laws.proofs.Walks.Walk.{on_true}

pub ground_kept : (s : Setup) → IsKept s (Ground s)
ground_kept s = both_kept s (Replicates s) (Backs s) (replication_kept s) (backs_kept s)

-- a reset of a pair
abbrev resetting : Setup → World → ℕ → ℕ → ℕ → Planned
resetting s w u v z = record { topic = u; cluster = v; takes = None; plan = resets (site s u v) z ((replicator_at (topic_at s w u v) z).session + 1) }

reset_out : (s : Setup) (w : World) (u v z : ℕ) → Outgoing v z (resetting s w u v z).plan
reset_out s w u v z = resets_out (site s u v) v z ((replicator_at (topic_at s w u v) z).session + 1)

-- begins its session
begins_at : (s : Setup) (w : World) (u v z stamp : ℕ) → IsPair s u v z → Ground s w
    → LiveAt s (after_done s w (resetting s w u v z)) (after_sent s w (resetting s w u v z) stamp) u v z
begins_at s w u v z stamp is ground =
    let pair = are_pair s u v z is in
    let t = replicator_at (topic_at s w u v) z in
    let n = t.session + 1 in
    let f = link_at w.links (Forward (node s u v) z) in
    let k = link_at w.links (Back (node s u v) z) in
    let r = receiver_at (topic_at s w u z) v in
    let q : Packet = record { session = n; stamp = stamp; frame = frame.Producer (topic_name s u) n n (Some (link_producer (site s u v) v)) } in
    let facts = ground.0.pairs u v z is.topic pair in
    let back = ground.1.links u v z is.topic pair in
    let opens : IsOpening (topic_name s u) n q = record { session = refl; request = n; name = Some (link_producer (site s u v) v); is = refl } in
    let L : Replicator → Link → Type 0 = λ t g. Live v (topic_name s u) t r g k in
    let p = resetting s w u v z in
    outward_here s w p z stamp k (reset_out s w u v z) tt ground.0.sized is.topic pair
    (delivered_other s u v stamp p.plan.sent w.links (Back (node s u v) z) (outs_back s u v v z (node s u v) z p.plan (reset_out s w u v z)))
    (subst (λ (g : Link). L (replicator_then z (replicator_after z t p.plan.writes) p.plan.changes) g) (sym (chosen z (sent_on f q) f))
    (subst (λ (t : Replicator). L t (sent_on f q)) (sym (reset_replicator z n t))
    (asking_begins v (topic_name s u) t r f k q opens facts.receiving.within facts.session.bounded back.bounded)))

-- and leaves those of others
lasts_at : (s : Setup) (w : World) (u v z stamp : ℕ) → IsPair s u v z → Ground s w → (t x y : ℕ) → t < length s.topics → ArePair s x y → LiveIn s w t x y
    → LiveAt s (after_done s w (resetting s w u v z)) (after_sent s w (resetting s w u v z) stamp) t x y
lasts_at s w u v z stamp is ground t x y lt pair live =
    let p = resetting s w u v z in
    (by_pair s u v z t x y is.source pair.0 (λ t x y. t < length s.topics → ArePair s x y → LiveIn s w t x y → LiveAt s (after_done s w p) (after_sent s w p stamp) t x y)
    (λ lt pair live. begins_at s w u v z stamp is ground)
    (λ other lt pair live. outward_else s w p z stamp t x y (reset_out s w u v z) tt tt ground.0.sized lt pair other live)) lt pair live

-- as events
pub remote : (s : Setup) (u v z : ℕ) → IsPair s u v z → is_remote (site s u v) z ≡ true
remote s u v z is =
    ap (λ (b : Bool). b && not (z == v)) (lt-ltb z (length s.clusters) is.target) ∙ ap not (turned (z == v) refl)
  where
    turned : (b : Bool) → (z == v) ≡ b → (z == v) ≡ false
    turned true e = absurd (eqb-false v z is.other (sym (eqb-true z v e)))
    turned false e = e

pub pair_in_range : (s : Setup) (u v z : ℕ) → IsPair s u v z → has_pair s u v z ≡ true
pair_in_range s u v z is =
    ap (λ (b : Bool). (b && nat_lt v (length s.clusters)) && nat_lt z (length s.clusters)) (lt-ltb u (length s.topics) is.topic)
    ∙ (ap (λ (b : Bool). b && nat_lt z (length s.clusters)) (lt-ltb v (length s.clusters) is.source) ∙ lt-ltb z (length s.clusters) is.target)

pub planned_is : (s : Setup) (w : World) (e : Event) → in_range s e ≡ true → planned s w e ≡ planned_in s w e
unfolding planned
planned_is s w e within = on_true (in_range s e) (planned_in s w e) None within

reset_is : (s : Setup) (w : World) (u v z : ℕ) → IsPair s u v z → planned s w (event.Reset u v z) ≡ Some (resetting s w u v z)
unfolding reset
reset_is s w u v z is =
    planned_is s w (event.Reset u v z) (pair_in_range s u v z is)
    ∙ ap (λ (q : Plan). Some (record { topic = u; cluster = v; takes = None; plan = q })) (on_true (is_remote (site s u v) z) _ idle_plan (remote s u v z is))

-- the world after it
abbrev after_reset : Setup → World → Pair → World
after_reset s w p = after s w (event.Reset p.topic p.source p.target)

begins_done : (s : Setup) (w : World) (u v z : ℕ) → IsPair s u v z → Ground s w → LiveIn s (broker_does s w (resetting s w u v z)) u v z
unfolding broker_does
begins_done s w u v z is ground = begins_at s w u v z _ is ground

lasts_done : (s : Setup) (w : World) (u v z : ℕ) → IsPair s u v z → Ground s w → (t x y : ℕ) → t < length s.topics → ArePair s x y → LiveIn s w t x y
    → LiveIn s (broker_does s w (resetting s w u v z)) t x y
unfolding broker_does
lasts_done s w u v z is ground t x y lt pair live = lasts_at s w u v z _ is ground t x y lt pair live

begins_after : (s : Setup) (w : World) (p : Pair) → IsPair s p.topic p.source p.target → Ground s w → LiveIn s (after_reset s w p) p.topic p.source p.target
unfolding happens
begins_after s w p is ground =
    subst (λ (o : Option Planned). LiveIn s (does_planned s w o) p.topic p.source p.target) (sym (reset_is s w p.topic p.source p.target is))
    (begins_done s w p.topic p.source p.target is ground)

lasts_after : (s : Setup) (w : World) (p : Pair) → IsPair s p.topic p.source p.target → Ground s w → (t x y : ℕ) → t < length s.topics → ArePair s x y → LiveIn s w t x y
    → LiveIn s (after_reset s w p) t x y
unfolding happens
lasts_after s w p is ground t x y lt pair live =
    subst (λ (o : Option Planned). LiveIn s (does_planned s w o) t x y) (sym (reset_is s w p.topic p.source p.target is))
    (lasts_done s w p.topic p.source p.target is ground t x y lt pair live)

ground_after : (s : Setup) (w : World) (e : Event) → Ground s w → Ground s (after s w e)
ground_after s w e h = let k = ground_kept s in k.idle (happens s w e) w.idle (event_done s (Ground s) k w e h)

abbrev pub pair_of : ℕ → ℕ → ℕ → Pair
pair_of t x y = record { topic = t; source = x; target = y }

-- after the resets of some pairs the sessions of these live, and those that lived before
resets_live : (s : Setup) (ps : List Pair) (w : World) → Each (λ p. IsPair s p.topic p.source p.target) ps → Ground s w → (t x y : ℕ) → t < length s.topics → ArePair s x y
    → Stands ps (pair_of t x y) ⊎ LiveIn s w t x y → LiveIn s (all_settle no_limits s (at w) (resets_of ps)).world t x y
resets_live s [] w all ground t x y lt pair (inl stands) = absurd (none-some (pair_of t x y) stands.is)
resets_live s [] w all ground t x y lt pair (inr live) = live
resets_live s (p ∷ ps) w all ground t x y lt pair (inr live) =
    resets_live s ps (after_reset s w p) all.1 (ground_after s w _ ground) t x y lt pair (inr (lasts_after s w p all.0 ground t x y lt pair live))
resets_live s (p ∷ ps) w all ground t x y lt pair (inl stands) =
    resets_live s ps (after_reset s w p) all.1 (ground_after s w _ ground) t x y lt pair (by stands.place stands.is)
  where
    by : (i : ℕ) → slice_get (p ∷ ps) i ≡ Some (pair_of t x y) → Stands ps (pair_of t x y) ⊎ LiveIn s (after_reset s w p) t x y
    by zero is =
        let L : Pair → Type 0 = λ q. LiveIn s (after_reset s w p) q.topic q.source q.target in
        inr (subst L (same_Some _ _ is) (begins_after s w p all.0 ground))
    by (suc i) is = inl (record { place = i; is = is })

-- EVERY PAIR

-- every number of a range, and so every pair
range_stands : (k m i : ℕ) → k ≤ i → i < k + m → Stands (range_with_len k m) i
range_stands k zero i le lt = absurd (omega (arith, le, lt))
range_stands k (suc m) i le lt = by (k == i) refl (λ more. range_stands (k + 1) m i more (omega (arith, lt)))
  where
    by : (b : Bool) → (k == i) ≡ b → (k + 1 ≤ i → Stands (range_with_len (k + 1) m) i) → Stands (k ∷ range_with_len (k + 1) m) i
    by true e ih = record { place = zero; is = ap Some (eqb-true k i e) }
    by false e ih = stands_next k (range_with_len (k + 1) m) i (ih (grind (arith, nat_tests, e, le)))

stands_right : (xs ys : List Pair) (p : Pair) → Stands ys p → Stands (xs ++ ys) p
stands_right xs ys p s = record { place = length xs + s.place; is = get_right xs ys s.place ∙ s.is }

to_stands : (t x : ℕ) (ys : List ℕ) (y i : ℕ) → slice_get ys i ≡ Some y → (x ≡ y → ⊥) → Stands (pairs_to t x ys) (pair_of t x y)
to_stands t x [] y i is other = absurd (none-some y is)
to_stands t x (v ∷ ys) y zero is other = by (x == v) refl
  where
    same : v ≡ y
    same = same_Some _ _ is

    by : (b : Bool) → (x == v) ≡ b → Stands (if b then pairs_to t x ys else pair_of t x v ∷ pairs_to t x ys) (pair_of t x y)
    by true e = absurd (other (eqb-true x v e ∙ same))
    by false e = record { place = zero; is = ap (λ (k : ℕ). Some (pair_of t x k)) same }
to_stands t x (v ∷ ys) y (suc i) is other = by (x == v) (to_stands t x ys y i is other)
  where
    by : (b : Bool) → Stands (pairs_to t x ys) (pair_of t x y) → Stands (if b then pairs_to t x ys else pair_of t x v ∷ pairs_to t x ys) (pair_of t x y)
    by true s = s
    by false s = stands_next (pair_of t x v) (pairs_to t x ys) (pair_of t x y) s

from_stands : (t : ℕ) (xs ys : List ℕ) (x y i : ℕ) → slice_get xs i ≡ Some x → Stands ys y → (x ≡ y → ⊥) → Stands (pairs_from t xs ys) (pair_of t x y)
from_stands t [] ys x y i is s other = absurd (none-some x is)
from_stands t (v ∷ xs) ys x y zero is s other =
    let G : ℕ → Type 0 = λ k. Stands (pairs_to t k ys ++ pairs_from t xs ys) (pair_of t x y) in
    subst G (sym (same_Some _ _ is)) (stands_left (pairs_to t x ys) (pairs_from t xs ys) (pair_of t x y) (to_stands t x ys y s.place s.is other))
from_stands t (v ∷ xs) ys x y (suc i) is s other =
    stands_right (pairs_to t v ys) (pairs_from t xs ys) (pair_of t x y) (from_stands t xs ys x y i is s other)

of_stands : (ts xs : List ℕ) (t x y i : ℕ) → slice_get ts i ≡ Some t → Stands xs x → Stands xs y → (x ≡ y → ⊥) → Stands (pairs_of ts xs) (pair_of t x y)
of_stands [] xs t x y i is s s' other = absurd (none-some t is)
of_stands (u ∷ ts) xs t x y zero is s s' other =
    let G : ℕ → Type 0 = λ k. Stands (pairs_from k xs xs ++ pairs_of ts xs) (pair_of t x y) in
    subst G (sym (same_Some _ _ is)) (stands_left (pairs_from t xs xs) (pairs_of ts xs) (pair_of t x y) (from_stands t xs xs x y s.place s.is s' other))
of_stands (u ∷ ts) xs t x y (suc i) is s s' other =
    stands_right (pairs_from u xs xs) (pairs_of ts xs) (pair_of t x y) (of_stands ts xs t x y i is s s' other)

pub pair_stands : (s : Setup) (t x y : ℕ) → t < length s.topics → ArePair s x y → Stands (pairs s) (pair_of t x y)
pair_stands s t x y lt pair =
    let n = length s.clusters in
    let topic = range_stands 0 (length s.topics) t (omega arith) (omega (arith, lt)) in
    of_stands (range_with_len 0 (length s.topics)) (range_with_len 0 n) t x y topic.place topic.is (range_stands 0 n x (omega arith) (omega (arith, pair.0)))
    (range_stands 0 n y (omega arith) (omega (arith, pair.1))) pair.2

pub all_begun : (s : Setup) (w : World) → Each (λ p. IsPair s p.topic p.source p.target) (pairs s) → Ground s w → (t x y : ℕ) → t < length s.topics → ArePair s x y
    → LiveIn s (all_settle no_limits s (at w) (resets_of (pairs s))).world t x y
all_begun s w all ground t x y lt pair = resets_live s (pairs s) w all ground t x y lt pair (inl (pair_stands s t x y lt pair))

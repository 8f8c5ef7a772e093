-- A subscription that is sought at one cluster after the other, after a settling: at those where it was, only what is settled since is
-- acknowledged.
use Rattle.std.proofs.Common.{◌≡◌, ℕ, ◌*◌, ◌<◌, ◌==◌, Bool, true, false, List, [], ◌∷◌, ◌++◌, length, refl, sym, ap, subst, ◌∙◌, arith, inl, inr, ◌⊎◌, not}
use Rattle.std.specs.Prelude.{Option, Some, None, ◌&&◌, ◌||◌, if◌then◌else◌, nat_lt, slice_index_or, slice_set}
use Rattle.std.specs.List.{list_any}
use Rattle.std.specs.Str.{bytes_eq}
use Rattle.std.proofs.lemmas.Bool.{eq-eqb, eqb-false, eqb-true, false≢true, lt-ltb}
use Rattle.std.proofs.lemmas.List.{append_assoc, get_or-set_other, get_or-set_same}
use Rattle.std.proofs.lemmas.Option.{none-some}
use Rattle.std.proofs.lemmas.Slice.Eq.{bytes_eq-Decides}
use Rattle.world_laws.proofs.Types.{Entry, Event, Ident, Position}
use Rattle.world_laws.proofs.Types.event
use Rattle.world_laws.proofs.Types.write
use Rattle.geo_base.specs.Broker.{Broker, Site, no_broker, sub_named, written}
use Rattle.geo_base.specs.Cursor.{has}
use Rattle.geo_base.specs.Entry.{same_ident}
use Rattle.geo_base.specs.Happening.{broker_does, does_planned, happens}
use Rattle.geo_base.specs.Laws.{IsShort, begun}
use Rattle.geo_base.specs.Plan.{Plan, all_changed, all_written, done, idle_plan, plan_of, unless_found}
use Rattle.geo_base.specs.Storing.{cursor_write}
use Rattle.world_laws.proofs.Types.change
use Rattle.geo_base.specs.Planned.{Planned, has_node, in_range, plan_at, planned, planned_in}
use Rattle.geo_base.specs.Run.{no_limits, run_from, steps}
use Rattle.geo_base.specs.Seeking.{seek, seek_index}
use Rattle.geo_base.specs.Settled.{SettledSoFar, settled_event}
use Rattle.geo_base.specs.Setup.{Setup, sub_name, sub_names}
use Rattle.geo_base.specs.Subscription.{Subscription, sought}
use Rattle.geo_base.specs.World.{World, node, site, topic_at}
use Rattle.world_laws.specs.Telling.{settling}
use Rattle.world_laws.proofs.Dispatching.SubFrames.{AllSubs, at_name, each_to}
use Rattle.world_laws.proofs.Induction.Short.{does_short}
use Rattle.world_laws.proofs.OnceInOrder.Appends.{all_changed_entries}
use Rattle.world_laws.proofs.Replicating.Cursors.{or_left, or_right}
use Rattle.world_laws.proofs.Replicating.Effects.{Each, each_map}
use Rattle.world_laws.proofs.Replicating.LinkFrames.{same_node}
use Rattle.world_laws.proofs.Replicating.Sizes.{IsThere, node_lt}
use Rattle.world_laws.proofs.Snapshotting.Asked.{Named}
use Rattle.world_laws.proofs.Snapshotting.Cuts.{Cutting, HasCuts, IsCachedCut, cutting_kept}
use Rattle.world_laws.proofs.Snapshotting.Grows.{Grown, grown_does}
use Rattle.world_laws.proofs.Snapshotting.SecondRound.{Knows, knows_now}
use Rattle.world_laws.proofs.Telling.Announcing.{Announcing, shape_announcing}
use Rattle.world_laws.proofs.Telling.NamesTold.{cached_cut, names_after, names_more, names_same}
use Rattle.world_laws.proofs.Telling.OnlyTold.{first_included, includes_only, only_changed, only_written, same_name, sought_told}
use Rattle.world_laws.proofs.Telling.ServeTells.{named_is, seek_told}
use Rattle.world_laws.proofs.Telling.TellingRuns.{after_event}
use Rattle.world_laws.proofs.Telling.Told.{Includes, NamesTold, OnlyTold, Tells, TellsAll, told_too}
use Rattle.world_laws.proofs.TopicOrder.NoSelf.{NoSelf}
use Rattle.world_laws.proofs.Walks.EventWalk.{HasShape, planned_shape}
use Rattle.world_laws.proofs.Walks.OfferWalk.{seek_shape}
use Rattle.world_laws.proofs.Walks.Shapes.{Seeks, Shape}
use Rattle.world_laws.proofs.Walks.Walk.{both, by_test, left, on_test, on_true, right}
use Rattle.consumer_laws.specs.Anew.{AreStored, all_sought, settled_since}
use Rattle.consumer_laws.proofs.Fences.Kept.{from_world}
use Rattle.consumer_laws.proofs.Fences.Since.{Since, since_does}
use Rattle.consumer_laws.proofs.Subscriptions.Plans.{none_named}
use Rattle.consumer_laws.proofs.Subscriptions.WhatIsOut.{each_two}

-- ---- the subscriptions that are still as they were: of this name, at a cluster where it is not sought yet

abbrev pub is_left : ℕ → List ℕ → List ℕ → ℕ → ℕ → Subscription → Bool
is_left t n xs u x v = ((u == t) && bytes_eq v.name n) && not (has xs x)

pub record FencingIn (s : Setup) (w : World) (told : SettledSoFar) (t : ℕ) (n : List ℕ) (xs : List ℕ) (u x from : ℕ) (b : Broker) : Type 0 where
  pub only : AllSubs (λ (v : Subscription). is_left t n xs u x v ≡ false → OnlyTold told u b.entries v) b
  pub names : NamesTold s w told u x from b.entries

pub record FencingNow (s : Setup) (v : World) (told : SettledSoFar) (t : ℕ) (n : List ℕ) (xs : List ℕ) (w : World) : Type 0 where
  pub since : Since s v w
  pub kept : (u x : ℕ) → IsThere s u x → FencingIn s w told t n xs u x (from_world s v u x) (topic_at s w u x)

abbrev pub Fencing : Setup → World → SettledSoFar → ℕ → List ℕ → List ℕ → World → Type 0
Fencing s v told t n xs w = Cutting s w × (IsShort w → FencingNow s v told t n xs w)

pub more_fencing : (s : Setup) (v : World) (told more : SettledSoFar) (t : ℕ) (n xs : List ℕ) (w : World) → Includes told more → Fencing s v told t n xs w → Fencing s v more t n xs w
more_fencing s v told more t n xs w inc h = (
  h.0,
  λ short. record {
    since = (h.1 short).since;
    kept = λ u x there.
        let b = topic_at s w u x in let old = (h.1 short).kept u x there in record {
          only = each_map (λ (a : Subscription). is_left t n xs u x a ≡ false → OnlyTold told u b.entries a) (λ (a : Subscription). is_left t n xs u x a ≡ false → OnlyTold more u b.entries a)
              (λ a f out. includes_only told more inc u b.entries a (f out)) b.subs old.only;
          names = names_more s w told more u x (from_world s v u x) b.entries inc old.names;
        };
  },
)

-- one more cluster
one_more : (a c d : Bool) → (a && not (c || d)) ≡ false → ((a && not d) ≡ false) ⊎ ((a ≡ true) × (c ≡ true))
one_more true true d h = inr (refl, refl)
one_more false true d h = inl refl
one_more a false d h = inl h

-- ---- the topic that is sought

-- a seek that does nothing, to a place that is there, found no subscription
not_idle : (o : Option Subscription) (k : Option ℕ) (i : ℕ) (f : Subscription → ℕ → Plan) → ((v : Subscription) (j : ℕ) → (f v j).idle ≡ false) → k ≡ Some i
    → (unless_found idle_plan o (λ v. unless_found idle_plan k (f v))).idle ≡ true → o ≡ None
not_idle None k i f busy is idle = refl
not_idle (Some v) None i f busy is idle = absurd (none-some i is)
not_idle (Some v) (Some j) i f busy is idle = absurd (false≢true (sym (busy v j) ∙ idle))

none_sought : (h : Site) (b : Broker) (n : List ℕ) (to : Option Position) (i : ℕ) → seek_index b to ≡ Some i → (seek h b n to).idle ≡ true → sub_named b.subs n ≡ None
unfolding seek
none_sought h b n to i at idle =
    not_idle (sub_named b.subs n) (seek_index b to) i (λ v j. plan_of (cursor_write h b v (write.Seek v.name j)) (change.Cleared v.name ∷ []) []) (λ v j. refl) at idle

-- of a name that is not found, all others are all
none_left : (told : SettledSoFar) (t : ℕ) (es : List Entry) (n : List ℕ) (vs : List Subscription) → sub_named vs n ≡ None
    → Each (λ (v : Subscription). bytes_eq v.name n ≡ false → OnlyTold told t es v) vs → Each (OnlyTold told t es) vs
none_left told t es n vs none h =
    each_two (λ (v : Subscription). bytes_eq v.name n ≡ false → OnlyTold told t es v) (λ (v : Subscription). bytes_eq v.name n ≡ false) (OnlyTold told t es) (λ v f other. f other) vs h (none_named vs n none)

-- after the writes of a seek all is told
sought_only : (told : SettledSoFar) (t per : ℕ) (h : Site) (b : Broker) (n : List ℕ) (to : Option Position) (q : Plan) → Seeks h b n to q → (q.idle ≡ true → sub_named b.subs n ≡ None)
    → Tells told t per b q.writes → AllSubs (λ (v : Subscription). bytes_eq v.name n ≡ false → OnlyTold told t b.entries v) b
    → AllSubs (OnlyTold told t (all_written per b q.writes).entries) (all_written per b q.writes)
sought_only told t per h b n to q Seeks.NothingToSeek none tells old = none_left told t b.entries n b.subs (none refl) old
sought_only told t per h b n to q (Seeks.SeeksTo v i ws named at after) none tells old =
    only_written told t per (written per b (write.Seek v.name i)) ws tells.1
    (each_to (λ (u : Subscription). bytes_eq u.name n ≡ false → OnlyTold told t b.entries u) (OnlyTold told t b.entries) (at_name v.name (sought i))
    (λ u f. on_test (OnlyTold told t b.entries) (bytes_eq u.name v.name) (sought i u) u
    (λ is. sought_told told t b.entries u i (λ j lt. same_name told t b.entries u.name v.name j is (tells.0 j lt)))
    (λ other. f (subst (λ (m : List ℕ). bytes_eq u.name m ≡ false) ((bytes_eq-Decides v.name n).0 (named_is b.subs n v named)) other))) b.subs old)

-- ---- one node, and all others

one_else : (s : Setup) (P : ℕ → ℕ → Broker → Type 0) (w : World) (t x : ℕ) (b : Broker) → length w.brokers ≡ length s.topics * length s.clusters → IsThere s t x → P t x b
    → ((u y : ℕ) → IsThere s u y → ((t ≡ u) × (x ≡ y) → ⊥) → P u y (topic_at s w u y))
    → (u y : ℕ) → IsThere s u y → P u y (slice_index_or (slice_set w.brokers (node s t x) b) (node s u y) no_broker)
one_else s P w t x b size here new all u y there = by (node s t x == node s u y) refl
  where
    Goal : Broker → Type 0
    Goal c = P u y c

    lt : node s t x < length w.brokers
    lt = let small = node_lt s t x here in omega (arith, small, size)

    by : (e : Bool) → (node s t x == node s u y) ≡ e → Goal (slice_index_or (slice_set w.brokers (node s t x) b) (node s u y) no_broker)
    by true is =
        let same = eqb-true (node s t x) (node s u y) is in
        let pair = same_node s t u x y here.1 there.1 same in
        let at : slice_index_or (slice_set w.brokers (node s t x) b) (node s u y) no_broker ≡ b =
        subst (λ (k : ℕ). slice_index_or (slice_set w.brokers (node s t x) b) k no_broker ≡ b) same (get_or-set_same w.brokers (node s t x) b no_broker lt) in
        subst Goal (sym at) (subst (λ (z : ℕ). P z y b) pair.0 (subst (λ (z : ℕ). P t z b) pair.1 new))
    by false is =
        let differ = eqb-false (node s t x) (node s u y) is in
        subst Goal (sym (get_or-set_other w.brokers (node s t x) (node s u y) b no_broker (λ e. differ (sym e))))
        (all u y there (λ same. differ (ap (λ (z : ℕ). node s z x) same.0 ∙ ap (λ (z : ℕ). node s u z) same.1)))

-- ---- one seek

-- a topic that it leaves alone
other_fencing : (s : Setup) (w w' : World) (told : SettledSoFar) (t x : ℕ) (n xs : List ℕ) (u y from : ℕ) (b : Broker) → IsThere s u y → Knows s w → Grown s w w' → ((t ≡ u) × (x ≡ y) → ⊥)
    → FencingIn s w told t n xs u y from b → FencingIn s w' told t n (x ∷ xs) u y from b
other_fencing s w w' told t x n xs u y from b there k g other old = record {
  only = each_map (λ (v : Subscription). is_left t n xs u y v ≡ false → OnlyTold told u b.entries v) (λ (v : Subscription). is_left t n (x ∷ xs) u y v ≡ false → OnlyTold told u b.entries v)
      (λ v f out.
      elim (one_more ((u == t) && bytes_eq v.name n) (x == y) (has xs y) out) [
        | inl before ↦ f before
        | inr here ↦ absurd (other (sym (eqb-true u t (left (u == t) (bytes_eq v.name n) here.0)), eqb-true x y here.1))
      ]) b.subs old.only;
  names = names_same s w w' told u y from b.entries there.0 k.answers g old.names;
}

-- what is left of the topic that is sought
abbrev Others : SettledSoFar → ℕ → List ℕ → Broker → Type 0
Others told t n b = AllSubs (λ (v : Subscription). bytes_eq v.name n ≡ false → OnlyTold told t b.entries v) b

others_of : (s : Setup) (w : World) (told : SettledSoFar) (t x : ℕ) (n xs : List ℕ) (from : ℕ) (b : Broker) → FencingIn s w told t n xs t x from b → Others told t n b
others_of s w told t x n xs from b old =
    each_map (λ (v : Subscription). is_left t n xs t x v ≡ false → OnlyTold told t b.entries v) (λ (v : Subscription). bytes_eq v.name n ≡ false → OnlyTold told t b.entries v)
    (λ v f other. f (stays (t == t) (bytes_eq v.name n) (not (has xs x)) other)) b.subs old.only
  where
    stays : (a c d : Bool) → c ≡ false → ((a && c) && d) ≡ false
    stays true true d e = absurd (false≢true (sym e))
    stays true false d e = refl
    stays false c d e = refl

-- all of a topic is told
whole_fencing : (s : Setup) (w : World) (told : SettledSoFar) (t x : ℕ) (n xs : List ℕ) (from : ℕ) (b : Broker) → AllSubs (OnlyTold told t b.entries) b → NamesTold s w told t x from b.entries
    → FencingIn s w told t n xs t x from b
whole_fencing s w told t x n xs from b only names = record {
  only = each_map (OnlyTold told t b.entries) (λ (v : Subscription). is_left t n xs t x v ≡ false → OnlyTold told t b.entries v) (λ v f out. f) b.subs only;
  names = names;
}

-- the sought topic after the seek
topic_fencing : (s : Setup) (v w w' : World) (told : SettledSoFar) (x : ℕ) (n xs : List ℕ) (p : Planned) (i : ℕ) (to : Option Position) → Shape s w p → IsThere s p.topic p.cluster → Knows s w → NoSelf s w
    → HasCuts s w → Grown s w w' → p.plan ≡ seek (site s p.topic p.cluster) (topic_at s w p.topic p.cluster) n to → seek_index (topic_at s w p.topic p.cluster) to ≡ Some i
    → Tells told p.topic s.per_ledger (topic_at s w p.topic p.cluster) p.plan.writes
    → FencingIn s w told p.topic n xs p.topic p.cluster (from_world s v p.topic p.cluster) (topic_at s w p.topic p.cluster)
    → FencingIn s w' told p.topic n (x ∷ xs) p.topic p.cluster (from_world s v p.topic p.cluster) (done s.per_ledger (topic_at s w p.topic p.cluster) p.plan)
topic_fencing s v w w' told x n xs p i to shape there k none_self cuts g is at tells old =
    let t = p.topic in let y = p.cluster in let b = topic_at s w t y in let h = site s t y in let from = from_world s v t y in
    let c = all_written s.per_ledger b p.plan.writes in
    let cut = cuts t y there in
    let F = IsCachedCut s w t y b.ledgers in
    let seeks : Seeks h b n to p.plan = subst (Seeks h b n to) (sym is) (seek_shape h b n to) in
    let only : AllSubs (OnlyTold told t c.entries) c =
    sought_only told t s.per_ledger h b n to p.plan seeks (λ idle. none_sought h b n to i at (subst (λ (q : Plan). q.idle ≡ true) is idle)) tells (others_of s w told t y n xs from b old) in
    let announcing : Announcing F h b p.plan.writes = shape_announcing s w p F shape none_self cut.caches (λ a q. cached_cut s w t y a cut q) in
    whole_fencing s w' told t y n (x ∷ xs) from (all_changed c p.plan.changes) (only_changed told t c p.plan.changes only)
    (subst (NamesTold s w' told t y from) (sym (all_changed_entries c p.plan.changes)) (names_after s w w' told t y from there k.answers g p.plan.writes announcing only old.names))

pub seek_fencing : (s : Setup) → Named s → (v : World) (told : SettledSoFar) (w : World) (x : ℕ) (n xs : List ℕ) (to : Option Position) (p : Planned) → Shape s w p → IsThere s p.topic p.cluster → p.cluster ≡ x
    → p.plan ≡ seek (site s p.topic p.cluster) (topic_at s w p.topic p.cluster) n to → (IsShort w → FencingNow s v told p.topic n xs w → (i : ℕ) × (seek_index (topic_at s w p.topic p.cluster) to ≡ Some i))
    → (IsShort w → Tells told p.topic s.per_ledger (topic_at s w p.topic p.cluster) p.plan.writes) → Fencing s v told p.topic n xs w → Fencing s v told p.topic n (x ∷ xs) (broker_does s w p)
unfolding broker_does
seek_fencing s names v told w x n xs to p shape there is_x is stored tells h = (
  (cutting_kept s names).does w p shape h.0,
  λ short.
      let was = does_short s w p short in let k = knows_now s w h.0.0 was in let now = h.1 was in
      record { since = since_does s v w p shape k.answers now.since; kept = kept was k now },
)
  where
    t : ℕ
    t = p.topic

    b : Broker
    b = topic_at s w p.topic p.cluster

    node_done : (w' : World) → IsShort w → Knows s w → FencingNow s v told t n xs w → Grown s w w' → FencingIn s w' told t n (x ∷ xs) t p.cluster (from_world s v t p.cluster) (done s.per_ledger b p.plan)
    node_done w' was k now g =
        topic_fencing s v w w' told x n xs p (stored was now).0 to shape there k h.0.0.0.0.0.0.1 (h.0.1 was) g is (stored was now).1 (tells was) (now.kept t p.cluster there)

    others : (w' : World) → Knows s w → FencingNow s v told t n xs w → Grown s w w' → (u y : ℕ) → IsThere s u y → ((t ≡ u) × (p.cluster ≡ y) → ⊥)
        → FencingIn s w' told t n (x ∷ xs) u y (from_world s v u y) (topic_at s w u y)
    others w' k now g u y here other =
        other_fencing s w w' told t x n xs u y (from_world s v u y) (topic_at s w u y) here k g (λ same. other (same.0, is_x ∙ same.1)) (now.kept u y here)

    -- the plan is idle: nothing was found
    still : (w' : World) → w'.brokers ≡ w.brokers → p.plan.idle ≡ true → IsShort w → Knows s w → FencingNow s v told t n xs w → Grown s w w' → (u y : ℕ) → IsThere s u y
        → FencingIn s w' told t n (x ∷ xs) u y (from_world s v u y) (topic_at s w u y)
    still w' same idle was k now g u y here =
        by_test ((t == u) && (p.cluster == y))
        (λ e.
        let is_t = eqb-true t u (left (t == u) (p.cluster == y) e) in let is_y = eqb-true p.cluster y (right (t == u) (p.cluster == y) e) in
        let none = none_sought (site s t p.cluster) b n to (stored was now).0 (stored was now).1 (subst (λ (q : Plan). q.idle ≡ true) is idle) in
        let old = now.kept t p.cluster there in
        let mine : FencingIn s w' told t n (x ∷ xs) t p.cluster (from_world s v t p.cluster) b =
        whole_fencing s w' told t p.cluster n (x ∷ xs) (from_world s v t p.cluster) b
        (none_left told t b.entries n b.subs none (others_of s w told t p.cluster n xs (from_world s v t p.cluster) b old))
        (names_same s w w' told t p.cluster (from_world s v t p.cluster) b.entries there.0 k.answers g old.names) in
        subst (λ (z : ℕ). FencingIn s w' told t n (x ∷ xs) z y (from_world s v z y) (topic_at s w z y)) is_t
        (subst (λ (z : ℕ). FencingIn s w' told t n (x ∷ xs) t z (from_world s v t z) (topic_at s w t z)) is_y mine))
        (λ e. others w' k now g u y here (λ pair. false≢true (sym e ∙ both (t == u) (p.cluster == y) (eq-eqb t u pair.0) (eq-eqb p.cluster y pair.1))))

    -- it is done
    moved : (w' : World) → w'.brokers ≡ slice_set w.brokers (node s t p.cluster) (done s.per_ledger b p.plan) → IsShort w → Knows s w → FencingNow s v told t n xs w → Grown s w w' → (u y : ℕ)
        → IsThere s u y → FencingIn s w' told t n (x ∷ xs) u y (from_world s v u y) (topic_at s w' u y)
    moved w' same was k now g u y here =
        subst (λ (bs : List Broker). FencingIn s w' told t n (x ∷ xs) u y (from_world s v u y) (slice_index_or bs (node s u y) no_broker)) (sym same)
        (one_else s (λ a z c. FencingIn s w' told t n (x ∷ xs) a z (from_world s v a z) c) w t p.cluster (done s.per_ledger b p.plan) k.size there (node_done w' was k now g)
        (λ a z at other. others w' k now g a z at other) u y here)

    kept : IsShort w → Knows s w → FencingNow s v told t n xs w → (u y : ℕ) → IsThere s u y → FencingIn s (broker_does s w p) told t n (x ∷ xs) u y (from_world s v u y) (topic_at s (broker_does s w p) u y)
    kept was k now u y here =
        on_test (λ (w' : World). Grown s w w' → FencingIn s w' told t n (x ∷ xs) u y (from_world s v u y) (topic_at s w' u y)) p.plan.idle _ _
        (λ idle g. still _ refl idle was k now g u y here) (λ busy g. moved _ refl was k now g u y here) (grown_does s w p shape k.answers)

-- ---- seeks at one cluster after the other

-- a position that is stored stays so, and the end is always there
still_stored : (s : Setup) (v w : World) (t x : ℕ) (to : Option Position) → IsThere s t x → Since s v w → (i : ℕ) × (seek_index (topic_at s v t x) to ≡ Some i)
    → (i : ℕ) × (seek_index (topic_at s w t x) to ≡ Some i)
still_stored s v w t x None there since h = (length (topic_at s w t x).entries, refl)
still_stored s v w t x (Some p) there since h = (h.0, (since.grown t x there).index p h.0 h.1)

step_fencing : (s : Setup) → Named s → (v : World) (told : SettledSoFar) (w : World) (t x m : ℕ) (xs : List ℕ) (to : ℕ → Option Position) → IsThere s t x → m < length (sub_names s t) → AreStored s v t to
    → Fencing s v told t (sub_name s t m) xs w
    → Fencing s v (after_event (settling s) told w (event.Seek t x m (to x))) t (sub_name s t m) (x ∷ xs) (happens s w (event.Seek t x m (to x)))
unfolding planned happens
step_fencing s names v told w t x m xs to there small stored h =
    subst (λ (o : Option Planned). Fencing s v now t (sub_name s t m) (x ∷ xs) (does_planned s w o)) (sym same)
    (seek_fencing s names v now w x (sub_name s t m) xs (to x) (plan_at s w t x e) (subst (HasShape s w) same (planned_shape s w e)) there refl refl
    (λ short k. still_stored s v w t x (to x) there k.since (stored x there.1))
    (λ short. subst (TellsAll s w now) same (seek_told s told w t x m (to x) (λ short. knows_now s w h.0.0 short)) short there)
    (more_fencing s v told now t (sub_name s t m) xs w (first_included told (λ u l. settled_event s w u l e)) h))
  where
    e : Event
    e = event.Seek t x m (to x)

    now : SettledSoFar
    now = after_event (settling s) told w e

    range : in_range s e ≡ true
    range = both (has_node s t x) (nat_lt m (length (sub_names s t))) (both (nat_lt t (length s.topics)) (nat_lt x (length s.clusters)) (lt-ltb t (length s.topics) there.0) (lt-ltb x (length s.clusters) there.1)) (lt-ltb m (length (sub_names s t)) small)

    same : (if in_range s e then planned_in s w e else None) ≡ Some (plan_at s w t x e)
    same = on_true (in_range s e) (planned_in s w e) None range

-- with these clusters, in whatever order
abbrev pub with_all : List ℕ → List ℕ → List ℕ
with_all [] ys = ys
with_all (x ∷ xs) ys = with_all xs (x ∷ ys)

pub fenced : (s : Setup) → Named s → (v : World) (told : SettledSoFar) (w : World) (t m : ℕ) (xs ys : List ℕ) (to : ℕ → Option Position) → t < length s.topics → m < length (sub_names s t)
    → ((x : ℕ) → has xs x ≡ true → x < length s.clusters) → AreStored s v t to → Fencing s v told t (sub_name s t m) ys w
    → Fencing s v (told_too told (settled_since s w (all_sought t m to xs))) t (sub_name s t m) (with_all xs ys) (run_from no_limits s (begun w) (all_sought t m to xs)).world
unfolding steps
fenced s names v told w t m [] ys to lt small clusters stored h = more_fencing s v told (told_too told (λ u l. [])) t (sub_name s t m) ys w (first_included told (λ u l. [])) h
fenced s names v told w t m (x ∷ xs) ys to lt small clusters stored h =
    let e = event.Seek t x m (to x) in let w' = happens s w e in
    let here : x < length s.clusters = clusters x (or_left (x == x) (has xs x) (eq-eqb x x refl)) in
    let one = step_fencing s names v told w t x m ys to (lt, here) small stored h in
    let first : SettledSoFar = λ u l. settled_event s w u l e in
    let rest = settled_since s w' (all_sought t m to xs) in
    more_fencing s v (told_too (told_too told first) rest) (told_too told (λ u l. first u l ++ rest u l)) t (sub_name s t m) (with_all xs (x ∷ ys))
    (run_from no_limits s (begun w') (all_sought t m to xs)).world
    (λ u l f k. subst (λ (is : List Ident). list_any (same_ident f.ident) is ≡ true) (append_assoc (told u l) (first u l) (rest u l)) k)
    (fenced s names v (after_event (settling s) told w e) w' t m xs (x ∷ ys) to lt small (λ y k. clusters y (or_right (x == y) (has xs y) k)) stored one)

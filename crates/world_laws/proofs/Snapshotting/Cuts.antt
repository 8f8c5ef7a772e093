-- The cut in every world of a short run: each own snapshot stands for one, and so does each cached one; and no other snapshots stand.
use Rattle.std.proofs.Common.{◌≡◌, ℕ, ◌-◌, ◌*◌, ◌^◌, ◌<◌, ◌≤◌, Bool, true, false, List, [], ◌∷◌, ◌++◌, length, refl, sym, ap, subst, ◌∙◌, arith, inl, inr}
use Rattle.std.specs.Prelude.{Option, Some, None, nat_lt, slice_get, slice_index_or, slice_set, take}
use Rattle.std.proofs.lemmas.Bool.{eq-eqb, eqb-true, false≢true, ltb-true}
use Rattle.std.proofs.lemmas.Bool.Decides.{nat_tests}
use Rattle.std.proofs.lemmas.List.{get_or-replicate}
use Rattle.std.proofs.lemmas.Option.{none-some}
use Rattle.world_laws.proofs.Types.{CachedSnapshot, Change, ClusterPosition, Content, Cut, Entry, Position, Write}
use Rattle.world_laws.proofs.Types.change
use Rattle.world_laws.proofs.Types.content
use Rattle.world_laws.proofs.Types.marker
use Rattle.world_laws.proofs.Types.progress
use Rattle.world_laws.proofs.Types.targets
use Rattle.world_laws.proofs.Types.write
use Rattle.geo_base.specs.Broker.{Broker, new_broker, no_broker}
use Rattle.geo_base.specs.Cache.{cut_of}
use Rattle.geo_base.specs.Client.{Acted}
use Rattle.geo_base.specs.Cuts.{IsCut}
use Rattle.geo_base.specs.Entry.{goes_to, is_data}
use Rattle.geo_base.specs.Happening.{broker_does, broker_halts, client_does, stops}
use Rattle.geo_base.specs.Laws.{CachesCut, IsShort, LawCut, MarkersCut}
use Rattle.geo_base.specs.Moments.{partly_written}
use Rattle.geo_base.specs.Plan.{all_changed, all_written, done, halted}
use Rattle.geo_base.specs.Planned.{Planned}
use Rattle.geo_base.specs.Position.{no_position}
use Rattle.geo_base.specs.Seeking.{restart}
use Rattle.geo_base.specs.Setup.{Setup}
use Rattle.geo_base.specs.Topic.{index_of}
use Rattle.geo_base.specs.World.{LinkName, ToClient, World, node, opening_world, site, topic_at}
use Rattle.world_laws.proofs.TopicOrder.Added.{Added, Adds, adds_halt, adds_take, after_is, appended, shape_adds}
use Rattle.world_laws.proofs.Snapshotting.Answering.{not_own, old_or_new, own_added, writes_steady}
use Rattle.world_laws.proofs.OnceInOrder.Appends.{all_changed_entries, written_entries}
use Rattle.world_laws.proofs.Snapshotting.Asked.{Asked, Knowing, Named, knowing_kept, named}
use Rattle.world_laws.proofs.Snapshotting.Building.{CacheChange, building_caches, shape_building}
use Rattle.world_laws.proofs.Snapshotting.Caches.{AllCached, Brings, all_changed_cached, all_written_cached}
use Rattle.world_laws.proofs.Snapshotting.Completing.{cut_made, goes_only, heard_over}
use Rattle.world_laws.proofs.Counters.Counts.{all_changed_ledgers}
use Rattle.world_laws.proofs.Replicating.Effects.{Each, each_map}
use Rattle.world_laws.proofs.Snapshotting.Grows.{Grown, Lengthened, cut_grows, grown_does, grown_halts, grown_stops, grown_written, unchanged}
use Rattle.world_laws.proofs.Induction.Layers.{Both, both_kept, one_topic}
use Rattle.world_laws.proofs.Snapshotting.MakingEvents.{heard_made}
use Rattle.world_laws.proofs.OnceInOrder.Members.{Stands}
use Rattle.world_laws.proofs.TopicOrder.NoSelf.{NoSelf}
use Rattle.world_laws.proofs.TopicOrder.Order.{of_source}
use Rattle.world_laws.proofs.Replicating.PairRoles.{shape_within}
use Rattle.world_laws.proofs.Replicating.Pairs.{past_node}
use Rattle.world_laws.proofs.Replicating.Prefixes.{is_of}
use Rattle.world_laws.proofs.Induction.Runs.{IsKept, always}
use Rattle.world_laws.proofs.Snapshotting.SecondRound.{Knows, knows_now, knows_written}
use Rattle.world_laws.proofs.Walks.Shapes.{Shape}
use Rattle.world_laws.proofs.Induction.Short.{KeptShort, WhileShort, short_kept}
use Rattle.world_laws.proofs.Replicating.Sizes.{IsThere, Sized, node_lt, node_there, stopped_at}
use Rattle.world_laws.proofs.Snapshotting.SnapshotFacts.{out_there}
use Rattle.world_laws.proofs.Walks.Walk.{by_test, left, on_if, right}
use Rattle.world_laws.proofs.Snapshotting.WrittenCuts.{cut_written}

-- a cached snapshot knows the index of its local position
abbrev pub IsCachedCut : Setup → World → ℕ → ℕ → List ℕ → CachedSnapshot → Type 0
IsCachedCut s w t x ls c = (index_of ls c.cut.local ≡ Some c.index) × IsCut s w t x c.cut

-- the snapshots of the topic at x, b being its broker, in the world w
pub record CutsIn (s : Setup) (w : World) (t x : ℕ) (b : Broker) : Type 0 where
  pub snapshots : (i : ℕ) (e : Entry) (id : List ℕ) (local : Position) (remote : List ClusterPosition) → slice_get b.entries i ≡ Some e → is_of x e ≡ true
      → e.content ≡ content.Marked (marker.Snapshot id local remote) → (e.to ≡ targets.Only (2 ^ x)) × IsCut s w t x (cut_of x (length s.clusters) local remote)
  pub caches : AllCached (IsCachedCut s w t x b.ledgers) b.subs

abbrev pub HasCuts : Setup → World → Type 0
HasCuts s w = (t x : ℕ) → IsThere s t x → CutsIn s w t x (topic_at s w t x)

-- WHAT IS NEW

abbrev is_snapshot : Content → Bool
is_snapshot (content.Marked (marker.Snapshot id local remote)) = true
is_snapshot c = false

abbrev local_of : Content → Position
local_of (content.Marked (marker.Snapshot id local remote)) = local
local_of c = no_position

abbrev remote_of : Content → List ClusterPosition
remote_of (content.Marked (marker.Snapshot id local remote)) = remote
remote_of c = []

-- a new own snapshot is that of a builder that is done
new_snapshot : (s : Setup) (w : World) (t x : ℕ) (e : Entry) (id : List ℕ) (local : Position) (remote : List ClusterPosition) → IsThere s t x → Knows s w → Asked s w
    → is_of x e ≡ true → e.content ≡ content.Marked (marker.Snapshot id local remote) → Added (site s t x) (topic_at s w t x) e
    → (e.to ≡ targets.Only (2 ^ x)) × IsCut s w t x (cut_of x (length s.clusters) local remote)
new_snapshot s w t x e id local remote there k asked of is (Added.Published e' own message) = absurd (false≢true (sym (ap is_data is) ∙ message))
new_snapshot s w t x e id local remote there k asked of is (Added.Came e' z small other from) = absurd (not_own x z e other from of)
new_snapshot s w t x e id local remote there k asked of is (Added.Asked none) = absurd (false≢true (ap is_snapshot is))
new_snapshot s w t x e id local remote there k asked of is (Added.AskedAgain y i f id' answer u u' next response heard) = absurd (false≢true (ap is_snapshot is))
new_snapshot s w t x e id local remote there k asked of is (Added.Responded y i f id' source small other at of_f asks) = absurd (false≢true (ap is_snapshot is))
new_snapshot s w t x e id local remote there k asked of is (Added.Updated v cut) = absurd (false≢true (ap is_snapshot is))
new_snapshot s w t x e id local remote there k asked of is (Added.Completed y i f id' answer u u' next response heard) =
    let b = topic_at s w t x in let n = length s.clusters in
    let made = heard_made (site s t x) b y i f id' answer u u' progress.Done there.1 (k.answers t x there).numbered next response heard (asked t x there) in
    let cut = cut_made s w t x u' k there made (heard_over b y i id' answer u u' heard) in
    let C : Cut → Type 0 = λ c. IsCut s w t x c in
    let L : Position → Type 0 = λ l. IsCut s w t x (cut_of x n l remote) in
    let R : List ClusterPosition → Type 0 = λ r. IsCut s w t x (cut_of x n u'.cut.local r) in
    (refl, subst L (ap local_of is) (subst R (ap remote_of is) (subst C (sym (cut_written x n u'.cut made.places made.empty)) cut)))

-- what a topic's snapshots are after writes and changes of an event
event_cuts : (s : Setup) (w w' : World) (t x : ℕ) → IsThere s t x → Knows s w → Asked s w → HasCuts s w → Grown s w w' → (ws : List Write) (cs : List Change)
    → Adds (site s t x) (topic_at s w t x) (appended ws) → Each (CacheChange (site s t x) (topic_at s w t x)) cs
    → CutsIn s w' t x (all_changed (all_written s.per_ledger (topic_at s w t x) ws) cs)
event_cuts s w w' t x there k asked cuts grown ws cs adds brings = record {
  snapshots = snapshots;
  caches = all_changed_cached F c cs (each_map (CacheChange (site s t x) b) (Brings F) bring cs brings)
      (all_written_cached F s.per_ledger b ws (λ m v at j d is. still d (old.caches m v at j d is)));
}
  where
    b : Broker
    b = topic_at s w t x

    c : Broker
    c = all_written s.per_ledger b ws

    d : Broker
    d = all_changed c cs

    old : CutsIn s w t x b
    old = cuts t x there

    F : CachedSnapshot → Type 0
    F = IsCachedCut s w' t x d.ledgers

    grow : (cut : Cut) → IsCut s w t x cut → IsCut s w' t x cut
    grow cut = cut_grows s w w' t x cut grown k.answers there

    still : (a : CachedSnapshot) → IsCachedCut s w t x b.ledgers a → F a
    still a h =
        let at = (writes_steady s.per_ledger b ws (k.answers t x there).numbered).index a.cut.local a.index h.0 in
        (ap (λ (ls : List ℕ). index_of ls a.cut.local) (all_changed_ledgers c cs) ∙ at, grow a.cut h.1)

    bring : (a : Change) → CacheChange (site s t x) b a → Brings F a
    bring (change.Cache n a) q =
        let local = q.is.1 in let remote = q.is.2 in
        let own : is_of x q.entry ≡ true = left (is_of x q.entry) q.sub.replicated q.is.4 in
        let h = old.snapshots q.place q.entry q.is.0 local remote q.stands own q.is.3 in
        let made : CachedSnapshot = record { index = q.local; cut = cut_of x (length s.clusters) local remote } in
        subst F (sym q.is.6) (still made (q.is.5, h.1))
    bring a q = tt

    snapshots : (i : ℕ) (e : Entry) (id : List ℕ) (local : Position) (remote : List ClusterPosition) → slice_get d.entries i ≡ Some e → is_of x e ≡ true
        → e.content ≡ content.Marked (marker.Snapshot id local remote) → (e.to ≡ targets.Only (2 ^ x)) × IsCut s w' t x (cut_of x (length s.clusters) local remote)
    snapshots i e id local remote at of is =
        let whole : d.entries ≡ b.entries ++ appended ws = all_changed_entries c cs ∙ written_entries s.per_ledger b ws ∙ after_is b.entries ws in
        let P : List Entry → Type 0 = λ l. slice_get l i ≡ Some e in
        let both : (e.to ≡ targets.Only (2 ^ x)) × IsCut s w t x (cut_of x (length s.clusters) local remote) =
        elim (old_or_new b.entries (appended ws) i e (subst P whole at)) [
          | inl o ↦ old.snapshots i e id local remote o.1 of is
          | inr n ↦
              new_snapshot s w t x e id local remote there k asked of is
              (own_added (site s t x) b (appended ws) adds (i - length b.entries) e n.1 of).added
        ] in
        (both.0, grow (cut_of x (length s.clusters) local remote) both.1)

-- of a topic that the event leaves alone
same_cuts : (s : Setup) (w w' : World) (t x : ℕ) → IsThere s t x → Knows s w → Grown s w w' → CutsIn s w t x (topic_at s w t x) → CutsIn s w' t x (topic_at s w t x)
same_cuts s w w' t x there k grown old = record {
  snapshots = λ i e id local remote at of is.
      let h = old.snapshots i e id local remote at of is in
      (h.0, cut_grows s w w' t x (cut_of x (length s.clusters) local remote) grown k.answers there h.1);
  caches = λ m v at j c is. let h = old.caches m v at j c is in (h.0, cut_grows s w w' t x c.cut grown k.answers there h.1);
}

node_cuts : (s : Setup) (w w' : World) (t x : ℕ) (b : Broker) → x < length s.clusters → Knows s w → HasCuts s w → Grown s w w'
    → w'.brokers ≡ slice_set w.brokers (node s t x) b → (IsThere s t x → CutsIn s w' t x b) → HasCuts s w'
node_cuts s w w' t x b lt k cuts grown is new u v there =
    subst (λ (bs : List Broker). CutsIn s w' u v (slice_index_or bs (node s u v) no_broker)) (sym is)
    (one_topic s (λ y z c. CutsIn s w' y z c) w t x b lt new (λ y z here. same_cuts s w w' y z here k grown (cuts y z here)) u v there)

-- a world with the same brokers
same_world : (s : Setup) (w w' : World) → w'.brokers ≡ w.brokers → Knows s w → HasCuts s w → HasCuts s w'
same_world s w w' is k cuts t x there =
    subst (λ (bs : List Broker). CutsIn s w' t x (slice_index_or bs (node s t x) no_broker)) (sym is)
    (same_cuts s w w' t x there k
    (λ u v here. subst (λ (bs : List Broker). Lengthened (topic_at s w u v) (slice_index_or bs (node s u v) no_broker)) (sym is) (unchanged (topic_at s w u v))) (cuts t x there))

-- EVENTS

cuts_does : (s : Setup) (w : World) (p : Planned) → Shape s w p → NoSelf s w → Knows s w → Asked s w → HasCuts s w → HasCuts s (broker_does s w p)
unfolding broker_does
cuts_does s w p shape none k asked cuts =
    let b = topic_at s w p.topic p.cluster in let h = site s p.topic p.cluster in
    on_if (λ (w' : World). Grown s w w' → HasCuts s w') p.plan.idle _ _ (λ g. same_world s w _ refl k cuts)
    (λ g. node_cuts s w _ p.topic p.cluster (done s.per_ledger b p.plan) (shape_within s w p shape) k cuts g refl
    (λ here. event_cuts s w _ p.topic p.cluster here k asked cuts g p.plan.writes p.plan.changes (shape_adds s w p shape none)
    (building_caches h b p.plan (shape_building s w p shape none))))
    (grown_does s w p shape k.answers)

cuts_halts : (s : Setup) (w : World) (m : ℕ) (p : Planned) → Shape s w p → NoSelf s w → Knows s w → Asked s w → HasCuts s w → HasCuts s (broker_halts s w m p)
unfolding broker_halts
cuts_halts s w m p shape none k asked cuts =
    let b = topic_at s w p.topic p.cluster in let h = site s p.topic p.cluster in let g = grown_halts s w m p shape k.answers in
    node_cuts s w _ p.topic p.cluster (halted s.per_ledger b m p.plan) (shape_within s w p shape) k cuts g refl
    (λ here. event_cuts s w _ p.topic p.cluster here k asked cuts g (take m p.plan.writes ++ write.Ledger ∷ []) (change.Forget ∷ [])
    (adds_halt h b m p.plan.writes (shape_adds s w p shape none)) (tt, tt))

cuts_written : (s : Setup) (w : World) (m : ℕ) (p : Planned) → Shape s w p → NoSelf s w → Knows s w → Asked s w → HasCuts s w → HasCuts s (partly_written s w m (Some p))
cuts_written s w m p shape none k asked cuts =
    let b = topic_at s w p.topic p.cluster in let h = site s p.topic p.cluster in let g = grown_written s w m p shape k.answers in
    let w' = partly_written s w m (Some p) in
    node_cuts s w w' p.topic p.cluster (all_written s.per_ledger b (take m p.plan.writes)) (shape_within s w p shape) k cuts g refl
    (λ here. event_cuts s w w' p.topic p.cluster here k asked cuts g (take m p.plan.writes) [] (adds_take h b m p.plan.writes (shape_adds s w p shape none)) tt)

cuts_client : (s : Setup) (w : World) (c : ℕ) (l : Option LinkName) (a : Acted) → Knows s w → HasCuts s w → HasCuts s (client_does s w c l a)
unfolding client_does
cuts_client s w c l a k cuts = on_if (HasCuts s) a.idle _ _ (same_world s w _ refl k cuts) (same_world s w _ refl k cuts)

cuts_stops : (s : Setup) (w : World) → Sized s w → Knows s w → Asked s w → HasCuts s w → HasCuts s (stops s w)
unfolding stops restart
cuts_stops s w z k asked cuts t x there =
    let b = topic_at s w t x in
    subst (CutsIn s _ t x) (sym (stopped_at w.brokers (λ c. done s.per_ledger c restart) (node s t x) (node_there s w t x z there)))
    (event_cuts s w _ t x there k asked cuts (grown_stops s w z k.answers) (write.Ledger ∷ []) (change.Forget ∷ []) Adds.Nothing (tt, tt))

cuts_opening : (s : Setup) → HasCuts s (opening_world s)
cuts_opening s t x there =
    let n = length s.clusters in
    subst (CutsIn s (opening_world s) t x)
    (sym (get_or-replicate (length s.topics * n) (node s t x) (new_broker n (length s.clients)) no_broker (node_lt s t x there)))
    (record { snapshots = λ i e id local remote at. absurd (none-some e at); caches = λ m v at. absurd (none-some v at) })

cuts_kept : (s : Setup) → KeptShort s (Knowing s) (HasCuts s)
cuts_kept s = record {
  opening = cuts_opening s;
  idle = λ w n h cuts t x there. let c = cuts t x there in record { snapshots = c.snapshots; caches = c.caches };
  round = λ w n h cuts t x there. let c = cuts t x there in record { snapshots = c.snapshots; caches = c.caches };
  does = λ w p shape short h h' cuts. cuts_does s w p shape h.0.0.0.0.1 (knows_now s w h short) (h.1 short) cuts;
  halts = λ w m p shape short h h' cuts. cuts_halts s w m p shape h.0.0.0.0.1 (knows_now s w h short) (h.1 short) cuts;
  goes = λ w c a short h h' cuts. cuts_client s w c None a (knows_now s w h short) cuts;
  gets = λ w c x a short h h' cuts. cuts_client s w c (Some (ToClient c x)) a (knows_now s w h short) cuts;
  stop = λ w short h h' cuts. cuts_stops s w h.0.0.0.0.0.sized (knows_now s w h short) (h.1 short) cuts;
}

-- THE LAW

-- a snapshot came from no other cluster, since it is for its own alone
markers_cut : (s : Setup) (w : World) → Knows s w → HasCuts s w → MarkersCut s w
markers_cut s w k cuts t x i e id local remote small at is = by (nat_lt t (length s.topics)) refl
  where
    foreign : t < length s.topics → is_of x e ≡ false → ⊥
    foreign lt other =
        let z = e.ident.origin in
        let in_z = (k.answers t x (lt, small)).origins i e at in
        let differ : z ≡ x → ⊥ = λ same. false≢true (sym other ∙ eq-eqb z x same) in
        let begins = k.prefix t z x (in_z, small, differ) in
        let self : is_of z e ≡ true = eq-eqb z z refl in
        let source : Stands (topic_at s w t z).entries e = of_source z x (topic_at s w t z).entries (topic_at s w t x).entries begins i e at self in
        let out = out_there x z (topic_at s w t z).entries (topic_at s w t x).entries begins i e at self in
        let to = ((cuts t z (lt, in_z)).snapshots source.place e id local remote source.is self is).0 in
        differ (goes_only x z (subst (λ a. goes_to x a ≡ true) to (right (is_of z e) (goes_to x e.to) out)))

    by : (b : Bool) → nat_lt t (length s.topics) ≡ b → (e.ident.origin ≡ x) × IsCut s w t x (cut_of x (length s.clusters) local remote)
    by true r =
        let lt = ltb-true _ _ r in
        by_test (is_of x e) (λ of. (eqb-true e.ident.origin x of, ((cuts t x (lt, small)).snapshots i e id local remote at of is).1))
        (λ other. absurd (foreign lt other))
    by false r =
        let past : length s.topics ≤ t = grind (arith, nat_tests, r) in
        let P : Broker → Type 0 = λ b. slice_get b.entries i ≡ Some e in
        absurd (none-some e (subst P (past_node s w.brokers t x k.size past) at))

caches_cut : (s : Setup) (w : World) → Knows s w → HasCuts s w → CachesCut s w
caches_cut s w k cuts t x j v c small sub at = by (nat_lt t (length s.topics)) refl
  where
    by : (b : Bool) → nat_lt t (length s.topics) ≡ b → IsCachedCut s w t x (topic_at s w t x).ledgers c
    by true r = (cuts t x (ltb-true _ _ r, small)).caches sub.0 v sub.1 j c at
    by false r =
        let past : length s.topics ≤ t = grind (arith, nat_tests, r) in
        let P : Broker → Type 0 = λ b. slice_get b.subs sub.0 ≡ Some v in
        absurd (none-some v (subst P (past_node s w.brokers t x k.size past) sub.1))

abbrev pub Cutting : Setup → World → Type 0
Cutting s = Both (Knowing s) (WhileShort (HasCuts s))

pub cutting_kept : (s : Setup) → Named s → IsKept s (Cutting s)
cutting_kept s names = both_kept s (Knowing s) (WhileShort (HasCuts s)) (knowing_kept s names) (short_kept s (Knowing s) (HasCuts s) (cuts_kept s))

-- at every moment of a short run
pub cut_always : LawCut
cut_always s scripted =
    always s (Cutting s) (λ w. IsShort w → MarkersCut s w × CachesCut s w) (cutting_kept s (named s scripted))
    (λ w h short. let k = knows_now s w h.0 short in (markers_cut s w k (h.1 short), caches_cut s w k (h.1 short)))
    (λ w m p shape h short.
    let k = knows_written s w m p shape h.0 short in let w' = partly_written s w m (Some p) in
    let cuts = cuts_written s w m p shape h.0.0.0.0.0.1 (knows_now s w h.0 short) (h.0.1 short) (h.1 short) in
    (markers_cut s w' k cuts, caches_cut s w' k cuts))

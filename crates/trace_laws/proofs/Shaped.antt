-- The lines of every event are accepted, one after another: shape by shape.
use Rattle.std.proofs.Common.{◌≡◌, ℕ, zero, suc, ◌+◌, ◌-◌, ◌^◌, ◌<◌, ◌≤◌, Bool, true, false, List, [], ◌∷◌, ◌++◌, length, map, refl, sym, ap, subst, ◌∙◌, ◌==◌, arith, inl, inr, not}
use Rattle.std.specs.Prelude.{Option, Some, None, if◌then◌else◌, is_some, slice_get, slice_index_or, slice_set, take}
use Rattle.std.specs.Str.{bytes_eq}
use Rattle.std.proofs.lemmas.Bool.{eq-eqb, eqb-true, false≢true}
use Rattle.std.proofs.lemmas.List.{append_assoc}
use Rattle.std.proofs.lemmas.Option.{none-some, same_Some, slice_get_within}
use Rattle.std.proofs.lemmas.Slice.Eq.{bytes_eq-Decides}
use Rattle.world_laws.proofs.Types.{CachedSnapshot, Entry, Packet, Position, Write}
use Rattle.world_laws.proofs.Types.content
use Rattle.world_laws.proofs.Types.marker
use Rattle.world_laws.proofs.Types.cluster_ref
use Rattle.world_laws.proofs.Types.sub_kind
use Rattle.world_laws.proofs.Types.targets
use Rattle.world_laws.proofs.Types.write
use Rattle.geo_base.specs.Broker.{Broker, Site, cluster_name, no_broker, replicator_at, sub_named, written}
use Rattle.geo_base.specs.Cache.{cached}
use Rattle.geo_base.specs.Cursor.{has}
use Rattle.geo_base.specs.Entry.{goes_to, is_data, meant_for, with_origin}
use Rattle.geo_base.specs.Forwarding.{closes}
use Rattle.geo_base.specs.Markers.{request_marker, response_marker}
use Rattle.geo_base.specs.Plan.{Plan, all_written, quiet_plan}
use Rattle.geo_base.specs.Replicator.{index_to_read}
use Rattle.geo_base.specs.Seeking.{seek_index}
use Rattle.geo_base.specs.Setup.{Setup}
use Rattle.geo_base.specs.Subscription.{Subscription, has_consumer, new_subscription, sought, with_acks}
use Rattle.geo_base.specs.Topic.{accepts, position_at}
use Rattle.geo_base.specs.Updating.{updated_indexes}
use Rattle.geo_base.specs.World.{World, node, site, topic_at}
use Rattle.world_laws.proofs.TopicOrder.Added.{sound_data}
use Rattle.world_laws.proofs.Snapshotting.Answering.{Numbered, writes_steady}
use Rattle.world_laws.proofs.OnceInOrder.Appends.{fresh}
use Rattle.world_laws.proofs.Snapshotting.Building.{differ}
use Rattle.world_laws.proofs.Snapshotting.Caches.{AllIn, cached_all}
use Rattle.world_laws.proofs.Replicating.Cursors.{either, or_right}
use Rattle.world_laws.proofs.Replicating.Effects.{Each, each_both}
use Rattle.world_laws.proofs.TopicOrder.Ledgers.{of_index}
use Rattle.world_laws.proofs.OnceInOrder.Members.{Stands, get_last}
use Rattle.world_laws.proofs.TopicOrder.NoSelf.{remote_other}
use Rattle.world_laws.proofs.Telling.Passing.{passed_over_is}
use Rattle.world_laws.proofs.Replicating.Prefixes.{Begins as StartsAs, is_of}
use Rattle.world_laws.proofs.Telling.ServeTells.{ack_within, acks_same}
use Rattle.world_laws.proofs.Replicating.LinkFrames.{same_node}
use Rattle.world_laws.proofs.TopicOrder.Order.{of_source}
use Rattle.world_laws.proofs.Snapshotting.SecondRound.{Knows}
use Rattle.world_laws.proofs.Snapshotting.SnapshotFacts.{out_there}
use Rattle.world_laws.proofs.Walks.Shapes.{Answered, Fated, Offers, Reads, Seeks, Served, Snaps, Taken, Updates}
use Rattle.world_laws.proofs.Walks.Walk.{both, left, on_true, right}
use Rattle.geo_base.specs.Laws.{of_origin, outbound}
use Rattle.geo_base.specs.Mirror.{Mirror, mirror_at, no_mirror}
use Rattle.geo_base.specs.declared.planned.Cause.{Cause}
use Rattle.geo_base.specs.declared.planned.Cause.TheVariants as cause
use Rattle.geo_base.specs.Traced.{cursor_of, position_read, snapshot_told}
use Rattle.trace_laws.specs.Seen.{seen}
use Rattle.trace_laws.proofs.Gaps.{next_there}
use Rattle.trace_laws.proofs.Lines.{acks_accepted, append_accepted, came_follows, came_stands, marker_accepted, other_snapshot, other_update, passes_accepted}
use Rattle.world_laws.proofs.Telling.Announcing.{find_stands}
use Rattle.cursor_acks.proofs.Sets.{Rising}
use Rattle.trace_laws.proofs.Stems.{StemsFrom}
use Rattle.trace_laws.proofs.Told.{Here, acks_hold, completes_holds, found_after, found_self, marker_holds, numbered_here, publishes_hold, update_holds}
use Rattle.trace_laws.proofs.Writes.{OneCursor, PlanHolds, WriteHolds, seen_here, seen_with}

-- ---- lists of writes

pub holds_both : (s : Setup) (bs : List Broker) (n t x : ℕ) (c : Cause) (b : Broker) (ws vs : List Write) → PlanHolds s bs n t x c b ws
    → PlanHolds s bs n t x c (all_written s.per_ledger b ws) vs → PlanHolds s bs n t x c b (ws ++ vs)
holds_both s bs n t x c b [] vs h k = k
holds_both s bs n t x c b (w ∷ ws) vs h k = (h.0, holds_both s bs n t x c (written s.per_ledger b w) ws vs h.1 k)

fresh_left : (es : List Entry) (ws vs : List Write) → fresh es (ws ++ vs) ≡ true → fresh es ws ≡ true
fresh_left es [] vs h = refl
fresh_left es (write.Append e ∷ ws) vs h =
    both (accepts es e.ident) (fresh (es ++ e ∷ []) ws) (left (accepts es e.ident) (fresh (es ++ e ∷ []) (ws ++ vs)) h)
    (fresh_left (es ++ e ∷ []) ws vs (right (accepts es e.ident) (fresh (es ++ e ∷ []) (ws ++ vs)) h))
fresh_left es (write.Create n kind replicated latest ∷ ws) vs h = fresh_left es ws vs h
fresh_left es (write.Alter n kind replicated ∷ ws) vs h = fresh_left es ws vs h
fresh_left es (write.Delete n ∷ ws) vs h = fresh_left es ws vs h
fresh_left es (write.Acks n is ∷ ws) vs h = fresh_left es ws vs h
fresh_left es (write.Seek n i ∷ ws) vs h = fresh_left es ws vs h
fresh_left es (write.ReplicatorAck y i ∷ ws) vs h = fresh_left es ws vs h
fresh_left es (write.SessionNumber y i ∷ ws) vs h = fresh_left es ws vs h
fresh_left es (write.Ledger ∷ ws) vs h = fresh_left es ws vs h

-- ---- a write of a cursor with what follows it

abbrev Stem : Setup → World → ℕ → ℕ → CachedSnapshot → Type 0
Stem s w t x = StemsFrom (length s.clusters) x (topic_at s w t x).entries (topic_at s w t x).ledgers

stems_of : (s : Setup) (w : World) (t x : ℕ) (v : Subscription) → Here s w t x → Stands (topic_at s w t x).subs v → AllIn (Stem s w t x) v.cache
stems_of s w t x v h stands = (h.stems t x h.there).caches stands.place v stands.is

acks_plan : (s : Setup) (w : World) (n t x : ℕ) (c : Cause) (v : Subscription) (is : List ℕ) (cs : List CachedSnapshot) (ws : List Write) → Here s w t x
    → sub_named (topic_at s w t x).subs v.name ≡ Some v → WriteHolds s w.brokers n t x c (topic_at s w t x) (write.Acks v.name is) → AllIn (Stem s w t x) cs
    → Updates (site s t x) (topic_at s w t x) (with_acks is (record v { cache = cs })) ws → fresh (topic_at s w t x).entries ws ≡ true
    → PlanHolds s w.brokers n t x c (topic_at s w t x) (write.Acks v.name is ∷ ws)
acks_plan s w n t x c v is cs ws h found acks all Updates.NoUpdate new = (acks, tt)
acks_plan s w n t x c v is cs ws h found acks all (Updates.Update cut replicated passed) new =
    let b = topic_at s w t x in let b' = written s.per_ledger b (write.Acks v.name is) in
    (acks, (update_holds s w n t x c b' (with_acks is v) cs cut h refl refl (found_after v.name (with_acks is) (λ u. refl) b.subs v found) all passed (left _ true new), tt))

seek_plan : (s : Setup) (w : World) (n t x : ℕ) (c : Cause) (v : Subscription) (i : ℕ) (ws : List Write) → Here s w t x
    → sub_named (topic_at s w t x).subs v.name ≡ Some v → i ≤ length (topic_at s w t x).entries
    → Updates (site s t x) (topic_at s w t x) (sought i v) ws → fresh (topic_at s w t x).entries ws ≡ true
    → PlanHolds s w.brokers n t x c (topic_at s w t x) (write.Seek v.name i ∷ ws)
seek_plan s w n t x c v i ws h found le Updates.NoUpdate new = ((ap is_some found, le), tt)
seek_plan s w n t x c v i ws h found le (Updates.Update cut replicated passed) new =
    let b = topic_at s w t x in let b' = written s.per_ledger b (write.Seek v.name i) in
    let stands = (find_stands (λ (u : Subscription). bytes_eq u.name v.name) b.subs v found).0 in (
      (ap is_some found, le),
      (update_holds s w n t x c b' (sought i v) v.cache cut h refl refl (found_after v.name (sought i) (λ u. refl) b.subs v found) (stems_of s w t x v h stands) passed (left _ true new), tt),
    )

-- ---- serve

pub served_holds : (s : Setup) (w : World) (n t x k : ℕ) (p : Packet) (q : Plan) → Here s w t x → Served (site s t x) (topic_at s w t x) k p q
    → fresh (topic_at s w t x).entries q.writes ≡ true → PlanHolds s w.brokers n t x cause.Client (topic_at s w t x) q.writes
served_holds s w n t x k p q h (Served.Stores v id seq source e at sound accepted) new =
    (publishes_hold s w n t x cause.Client (with_origin x e) h (sound_data (site s t x) sound.1.0 seq source e sound.1.2) (eq-eqb x x refl) accepted, tt)
served_holds s w n t x k p q h (Served.Creates v topic m kind id request consumer earliest replicated at is may named) new = (named, tt)
served_holds s w n t x k p q h (Served.Alters v topic m kind id request consumer earliest replicated u at is may named free other) new = (tt, tt)
served_holds s w n t x k p q h (Served.Acknowledges v id kind ps u i is ws at is_ack by of after) new =
    let b = topic_at s w t x in
    let stands = (find_stands (has_consumer k id) b.subs u by).0 in
    let found = found_self b.subs u h.apart stands in
    let W : List ℕ → Type 0 = λ l. (j : ℕ) → has l j ≡ true → j < length b.entries in
    let within : W (i ∷ is) =
    subst W (sym (acks_same b.ledgers u.kind ps kind) ∙ of) (λ j inside. ack_within b.entries b.ledgers (numbered_here s w t x h) u.kind kind ps j inside) in
    acks_plan s w n t x cause.Client u (i ∷ is) u.cache ws h found (acks_hold s w n t x cause.Client u.name (i ∷ is) u h found within refl) (stems_of s w t x u h stands) after new
served_holds s w n t x k p q h (Served.Unsubscribes v id request u at is by last) new =
    let b = topic_at s w t x in (ap is_some (found_self b.subs u h.apart (find_stands (has_consumer k id) b.subs u by).0), tt)
served_holds s w n t x k p q h Served.Ignores new = tt
served_holds s w n t x k p q h Served.Disconnects new = tt
served_holds s w n t x k p q h (Served.Connects v is made) new = tt
served_holds s w n t x k p q h (Served.Answers v f at) new = tt
served_holds s w n t x k p q h (Served.ChangesProducers v ps f at) new = tt
served_holds s w n t x k p q h (Served.Repeats v id seq source e at sound old) new = tt
served_holds s w n t x k p q h (Served.Joins v topic m kind id request consumer earliest replicated u at is may named free same) new = tt
served_holds s w n t x k p q h (Served.Permits v id permits u at is by) new = tt
served_holds s w n t x k p q h (Served.ClosesConsumer v id request u at is by) new = tt

-- ---- requests and responses

request_holds : (s : Setup) (w : World) (n t x : ℕ) (c : Cause) (id : List ℕ) → Here s w t x → accepts (topic_at s w t x).entries (request_marker (site s t x) (topic_at s w t x) id).ident ≡ true
    → WriteHolds s w.brokers n t x c (topic_at s w t x) (write.Append (request_marker (site s t x) (topic_at s w t x) id))
request_holds s w n t x c id h new = marker_holds s w n t x c (marker.Request id (cluster_ref.Known x)) targets.All [] h refl refl new

response_holds : (s : Setup) (w : World) (n t x : ℕ) (c : Cause) (y : ℕ) (id : List ℕ) → Here s w t x
    → accepts (topic_at s w t x).entries (response_marker (site s t x) (topic_at s w t x) y id).ident ≡ true
    → WriteHolds s w.brokers n t x c (topic_at s w t x) (write.Append (response_marker (site s t x) (topic_at s w t x) y id))
response_holds s w n t x c y id h new =
    let b = topic_at s w t x in
    marker_holds s w n t x c (marker.Response id (record { cluster = cluster_ref.Known x; position = position_at b.ledgers (length b.entries - 1) })) (targets.Only (2 ^ y))
    (cluster_name (site s t x) y ∷ []) h refl refl new

-- ---- snap, offer, seek

pub snaps_hold : (s : Setup) (w : World) (n t x : ℕ) (c : Cause) (q : Plan) → Here s w t x → Snaps (site s t x) (topic_at s w t x) q
    → fresh (topic_at s w t x).entries q.writes ≡ true → PlanHolds s w.brokers n t x c (topic_at s w t x) q.writes
snaps_hold s w n t x c q h Snaps.NothingToAsk new = tt
snaps_hold s w n t x c q h (Snaps.Asks any none) new = (request_holds s w n t x c _ h (left _ true new), tt)

-- a marker that comes by
one_within : (s : Setup) (w : World) (t x i : ℕ) (e : Entry) → slice_get (topic_at s w t x).entries i ≡ Some e → (j : ℕ) → has (i ∷ []) j ≡ true → j < length (topic_at s w t x).entries
one_within s w t x i e at j h =
    elim (either (i == j) false h) [
      | inl is ↦ subst (λ (z : ℕ). z < length (topic_at s w t x).entries) (eqb-true i j is) (slice_get_within (topic_at s w t x).entries i e at)
      | inr none ↦ absurd (false≢true none)
    ]

by_name : (vs : List Subscription) (n : List ℕ) (v : Subscription) → sub_named vs n ≡ Some v → Stands vs v
by_name vs n v found = (find_stands (λ (u : Subscription). bytes_eq u.name n) vs v found).0

pub offers_hold : (s : Setup) (w : World) (n t x : ℕ) (m : List ℕ) (q : Plan) → Here s w t x → Offers (site s t x) (topic_at s w t x) m q
    → fresh (topic_at s w t x).entries q.writes ≡ true → PlanHolds s w.brokers n t x cause.Marker (topic_at s w t x) q.writes
offers_hold s w n t x m q h Offers.NothingToOffer new = tt
offers_hold s w n t x m q h (Offers.Gives v i at e due is picked) new = tt
offers_hold s w n t x m q h (Offers.SkipsMarker v i e ws due silent after) new =
    let b = topic_at s w t x in let stands = by_name b.subs m v due.0 in let found = found_self b.subs v h.apart stands in
    acks_plan s w n t x cause.Marker v (i ∷ []) v.cache ws h found
    (acks_hold s w n t x cause.Marker v.name (i ∷ []) v h found (one_within s w t x i e due.2) (marker_accepted x b v.name v.cursor i e due.2 silent))
    (stems_of s w t x v h stands) after new
offers_hold s w n t x m q h (Offers.Caches v i j e c ws due is after) new =
    let b = topic_at s w t x in let stands = by_name b.subs m v due.0 in let found = found_self b.subs v h.apart stands in
    let stem : Stem s w t x c =
    subst (Stem s w t x) (sym is.6) (record {
      index = i;
      entry = e;
      id = is.0;
      local = is.1;
      remote = is.2;
      stands = due.2;
      own = left (is_of x e) v.replicated is.4;
      is = is.3;
      at = is.5;
      cut = refl;
    }) in
    acks_plan s w n t x cause.Marker v (i ∷ []) (cached v.cache c) ws h found
    (acks_hold s w n t x cause.Marker v.name (i ∷ []) v h found (one_within s w t x i e due.2) (marker_accepted x b v.name v.cursor i e due.2 (ap is_data is.3)))
    (cached_all (Stem s w t x) v.cache c (stems_of s w t x v h stands) stem) after new

seek_within : (s : Setup) (w : World) (t x : ℕ) (to : Option Position) (i : ℕ) → Here s w t x → seek_index (topic_at s w t x) to ≡ Some i → i ≤ length (topic_at s w t x).entries
seek_within s w t x None i h at = let e = same_Some _ i at in omega (arith, e)
seek_within s w t x (Some p) i h at =
    let lt = (of_index (topic_at s w t x).ledgers p i at).within in let whole = (numbered_here s w t x h).whole in omega (arith, lt, whole)

pub seeks_hold : (s : Setup) (w : World) (n t x : ℕ) (c : Cause) (m : List ℕ) (to : Option Position) (q : Plan) → Here s w t x → Seeks (site s t x) (topic_at s w t x) m to q
    → fresh (topic_at s w t x).entries q.writes ≡ true → PlanHolds s w.brokers n t x c (topic_at s w t x) q.writes
seeks_hold s w n t x c m to q h Seeks.NothingToSeek new = tt
seeks_hold s w n t x c m to q h (Seeks.SeeksTo v i ws named at after) new =
    let b = topic_at s w t x in let found = found_self b.subs v h.apart (by_name b.subs m v named) in
    seek_plan s w n t x c v i ws h found (seek_within s w t x to i h at) after new

-- ---- read

found_last : (vs : List Subscription) (u : Subscription) (n : List ℕ) → bytes_eq u.name n ≡ true → sub_named vs n ≡ None → sub_named (vs ++ u ∷ []) n ≡ Some u
found_last [] u n name h = on_true (bytes_eq u.name n) (Some u) None name
found_last (v ∷ vs) u n name h = by (bytes_eq v.name n) h (found_last vs u n name)
  where
    by : (b : Bool) → (if b then Some v else sub_named vs n) ≡ None → (sub_named vs n ≡ None → sub_named (vs ++ u ∷ []) n ≡ Some u)
        → (if b then Some v else sub_named (vs ++ u ∷ []) n) ≡ Some u
    by true e ih = absurd (none-some v (sym e))
    by false e ih = ih e

none_cursor : (vs : List Subscription) (n set : List ℕ) → sub_named vs n ≡ None → OneCursor n set vs
none_cursor [] n set h = tt
none_cursor (v ∷ vs) n set h = by (bytes_eq v.name n) refl h (none_cursor vs n set)
  where
    by : (b : Bool) → bytes_eq v.name n ≡ b → (if b then Some v else sub_named vs n) ≡ None → (sub_named vs n ≡ None → OneCursor n set vs) → OneCursor n set (v ∷ vs)
    by true is e ih = absurd (none-some v (sym e))
    by false is e ih = (λ same. absurd (false≢true (sym is ∙ same)), ih e)

-- what an update passes over is stored
over_within : (y j : ℕ) (es : List Entry) (i : ℕ) → has (updated_indexes y 0 (j + 1) es) i ≡ true → i < length es
over_within y j es i h =
    let o = passed_over_is y 0 (j + 1) es i h in let lt = slice_get_within es o.place o.entry o.at in let same = o.is in omega (arith, lt, same)

abbrev pub read_cause : Broker → ℕ → Cause
read_cause b y = cause.Update (position_read b (index_to_read (replicator_at b y).state (replicator_at b y) (length b.entries)))

pub reads_hold : (s : Setup) (w : World) (n t x y : ℕ) (q : Plan) → Here s w t x → Reads (site s t x) (topic_at s w t x) y q → fresh (topic_at s w t x).entries q.writes ≡ true
    → PlanHolds s w.brokers n t x (read_cause (topic_at s w t x) y) (topic_at s w t x) q.writes
reads_hold s w n t x y q h Reads.NothingToRead new = tt
reads_hold s w n t x y q h (Reads.Forwards i e next out) new = tt
reads_hold s w n t x y q h (Reads.Skips i e next other) new = (tt, tt)
reads_hold s w n t x y q h (Reads.Responds i e id source next of is) new = (response_holds s w n t x (read_cause (topic_at s w t x) y) y id h (left _ true new), (tt, tt))
reads_hold s w n t x y q h (Reads.Counts i e id answer u u' next is heard) new = (tt, tt)
reads_hold s w n t x y q h (Reads.AsksAgain i e id answer u u' next is heard) new = (request_holds s w n t x (read_cause (topic_at s w t x) y) _ h (left _ true new), (tt, tt))
reads_hold s w n t x y q h (Reads.Completes i e id answer u u' next is heard) new = (completes_holds s w n t x (read_cause (topic_at s w t x) y) y i e id answer u u' h next is heard (left _ true new), (tt, tt))
reads_hold s w n t x y q h (Reads.CreatesAt i j e m remote next is absent) new =
    let b = topic_at s w t x in let is' = updated_indexes y 0 (j + 1) b.entries in
    let fresh_sub : Subscription = new_subscription m sub_kind.Exclusive true [] in
    let made : Broker = record b { subs = b.subs ++ fresh_sub ∷ [] } in
    let c = read_cause b y in
    let one : made ≡ written s.per_ledger b (write.Create m sub_kind.Exclusive true false) = ap (λ (o : Option Subscription). if is_some o then b else made) (sym absent) in
    let found : sub_named made.subs m ≡ Some fresh_sub = found_last b.subs fresh_sub m ((bytes_eq-Decides m m).1 refl) absent in
    let R : Option Subscription → Type 0 = λ o. Rising 0 (cursor_of o) in
    let O : Option Subscription → Type 0 = λ o. OneCursor m (cursor_of o) made.subs in
    let acks : WriteHolds s w.brokers n t x c made (write.Acks m is') = (
      subst R (sym found) tt,
      subst O (sym found) (each_both (λ (v : Subscription). bytes_eq v.name m ≡ true → v.cursor ≡ []) b.subs (fresh_sub ∷ []) (none_cursor b.subs m [] absent) ((λ same. refl), tt)),
      acks_accepted s w.brokers n t x made m is' c fresh_sub found (over_within y j b.entries)
          (passes_accepted x y made m [] remote i j e _ (numbered_here s w t x h) next.2 (eqb-true e.ident.origin y is.0.1) (differ y x (remote_other (site s t x) y next.0)) is.1 is.2 (ap (position_read b) next.1)),
    ) in
    (absent, (subst (λ (z : Broker). WriteHolds s w.brokers n t x c z (write.Acks m is')) one acks, (tt, tt)))
reads_hold s w n t x y q h (Reads.ActsOnUpdate i j e m remote v ws next is found after) new =
    let b = topic_at s w t x in let is' = updated_indexes y 0 (j + 1) b.entries in
    let c = read_cause b y in
    let at = find_stands (λ (u : Subscription). bytes_eq u.name m) b.subs v found in
    let name : v.name ≡ m = (bytes_eq-Decides v.name m).0 at.1 in
    let mine = found_self b.subs v h.apart at.0 in
    let told : e.content ≡ content.Marked (marker.Update v.name remote) = is.1 ∙ ap (λ (k : List ℕ). content.Marked (marker.Update k remote)) (sym name) in
    let plan : PlanHolds s w.brokers n t x c b (write.Acks v.name is' ∷ ws) =
    acks_plan s w n t x c v is' v.cache ws h mine
    (acks_hold s w n t x c v.name is' v h mine (over_within y j b.entries)
    (passes_accepted x y b v.name v.cursor remote i j e _ (numbered_here s w t x h) next.2 (eqb-true e.ident.origin y is.0.1) (differ y x (remote_other (site s t x) y next.0)) told is.2 (ap (position_read b) next.1)))
    (stems_of s w t x v h at.0) after (fresh_left b.entries ws (write.ReplicatorAck y i ∷ []) new) in
    holds_both s w.brokers n t x c b (write.Acks m is' ∷ ws) (write.ReplicatorAck y i ∷ []) (subst (λ (k : List ℕ). PlanHolds s w.brokers n t x c b (write.Acks k is' ∷ ws)) name plan) (tt, tt)

-- ---- take

-- an append of an entry that came from x
abbrev CameWrite : ℕ → Write → Type 0
CameWrite x (write.Append e) = e.ident.origin ≡ x
CameWrite x w = ⊥

elsewhere : (bs : List Broker) (k j : ℕ) (b : Broker) → (k ≡ j → ⊥) → slice_index_or (slice_set bs k b) j no_broker ≡ slice_index_or bs j no_broker
elsewhere [] k j b other = refl
elsewhere (a ∷ bs) zero zero b other = absurd (other refl)
elsewhere (a ∷ bs) zero (suc j) b other = refl
elsewhere (a ∷ bs) (suc k) zero b other = refl
elsewhere (a ∷ bs) (suc k) (suc j) b other = elsewhere bs k j b (λ e. other (omega (arith, e)))

set_here : (bs : List Broker) (k : ℕ) (b : Broker) → k < length bs → slice_index_or (slice_set bs k b) k no_broker ≡ b
set_here [] k b lt = absurd (omega (arith, lt))
set_here (a ∷ bs) zero b lt = refl
set_here (a ∷ bs) (suc k) b lt = set_here bs k b (omega (arith, lt))

seen_at : (bs : List Broker) (k : ℕ) → (slice_index_or (map seen bs) k no_mirror).entries ≡ (slice_index_or bs k no_broker).entries
seen_at [] k = refl
seen_at (b ∷ bs) zero = refl
seen_at (b ∷ bs) (suc k) = seen_at bs k

take_one_more : (pre : List Write) (w : Write) (ws : List Write) → take (length pre + 1) (pre ++ w ∷ ws) ≡ pre ++ w ∷ []
take_one_more [] w ws = refl
take_one_more (v ∷ pre) w ws =
    let e : length (v ∷ pre) + 1 ≡ suc (length pre + 1) = omega arith in
    ap (λ (k : ℕ). take k (v ∷ (pre ++ w ∷ ws))) e ∙ ap (λ (l : List Write). v ∷ l) (take_one_more pre w ws)

pub written_last : (per : ℕ) (b : Broker) (pre : List Write) (w : Write) → all_written per b (pre ++ w ∷ []) ≡ written per (all_written per b pre) w
written_last per b [] w = refl
written_last per b (v ∷ pre) w = written_last per (written per b v) pre w

-- an entry that came and was accepted stands where it came from
came_one : (s : Setup) (w : World) (n t x y : ℕ) (c : Cause) (b : Broker) (e : Entry) → Here s w t y → x < length s.clusters → (x ≡ y → ⊥) → node s t y < length w.brokers
    → e.ident.origin ≡ x → Numbered b.entries b.ledgers → accepts b.entries e.ident ≡ true
    → Knows s (record w { brokers = slice_set w.brokers (node s t y) (written s.per_ledger b (write.Append e)) })
    → WriteHolds s w.brokers n t y c b (write.Append e)
came_one s w n t x y c b e h small other lt of numbered new k =
    let b' = written s.per_ledger b (write.Append e) in let bs = slice_set w.brokers (node s t y) b' in
    let far = (slice_index_or bs (node s t y) no_broker).entries in let near = (slice_index_or bs (node s t x) no_broker).entries in
    let apart : node s t y ≡ node s t x → ⊥ = λ same. other (sym (same_node s t t y x h.there.1 small same).1) in
    let begins = k.prefix t x y (small, h.there.1, other) in
    let at : slice_get far (length b.entries) ≡ Some e =
    ap (λ (z : Broker). slice_get z.entries (length b.entries)) (set_here w.brokers (node s t y) b' lt) ∙ get_last b.entries e in
    let self : is_of x e ≡ true = eq-eqb e.ident.origin x of in
    let source : Stands near e = of_source x y near far begins (length b.entries) e at self in
    let out = out_there y x near far begins (length b.entries) e at self in
    let A = seen_with s w.brokers n t y b in
    let same : near ≡ (mirror_at s A t x).entries =
    ap (λ (z : Broker). z.entries) (elsewhere w.brokers (node s t y) (node s t x) b' apart ∙ sym (elsewhere w.brokers (node s t y) (node s t x) b apart))
    ∙ sym (seen_at (slice_set w.brokers (node s t y) b) (node s t x)) in
    let stands : Stands (mirror_at s A t e.ident.origin).entries e =
    subst (λ (z : ℕ). Stands (mirror_at s A t z).entries e) (sym of) (subst (λ (es : List Entry). Stands es e) same source) in
    let foreign : (e.ident.origin == y) ≡ false = differ e.ident.origin y (λ is. other (sym of ∙ is)) in
    let meant : meant_for y e ≡ true = or_right (e.ident.origin == y) (goes_to y e.to) (right (is_of x e) (goes_to y e.to) out) in
    let here : (mirror_at s A t y).entries ≡ b.entries = ap (λ (m : Mirror). m.entries) (seen_here s w.brokers n t y b lt) in
    let begun : StartsAs x y near (b.entries ++ e ∷ []) =
    subst (λ (z : Broker). StartsAs x y near z.entries) (set_here w.brokers (node s t y) b' lt) begins in
    let N : ℕ → List Entry → List Entry → Type 0 = λ z there mine. slice_get (outbound z y there) (length (of_origin z mine)) ≡ Some e in
    let next : N e.ident.origin (mirror_at s A t e.ident.origin).entries (mirror_at s A t y).entries =
    subst (λ (z : ℕ). N z (mirror_at s A t z).entries (mirror_at s A t y).entries) (sym of)
    (subst (N x (mirror_at s A t x).entries) (sym here) (subst (λ (es : List Entry). N x es b.entries) same (next_there x y near b.entries e begun self))) in (
      numbered,
      append_accepted s w.brokers n t y b e _ numbered new (came_stands s A t y e stands meant) (other_snapshot s A t y e e.content foreign)
          (other_update s (seen b) y e (snapshot_told (site s t y) b e e.content) e.content foreign) (came_follows s A t y e next),
    )

pub came_plan : (s : Setup) (w : World) (n t x y : ℕ) (c : Cause) (pre ws : List Write) → Here s w t y → x < length s.clusters → (x ≡ y → ⊥) → node s t y < length w.brokers
    → Each (CameWrite x) ws → fresh (all_written s.per_ledger (topic_at s w t y) pre).entries ws ≡ true
    → ((k : ℕ) → Knows s (record w { brokers = slice_set w.brokers (node s t y) (all_written s.per_ledger (topic_at s w t y) (take k (pre ++ ws))) }))
    → PlanHolds s w.brokers n t y c (all_written s.per_ledger (topic_at s w t y) pre) ws
came_plan s w n t x y c pre [] h small other lt came new knows = tt
came_plan s w n t x y c pre (write.Append e ∷ ws) h small other lt came new knows =
    let a = topic_at s w t y in let b = all_written s.per_ledger a pre in
    let whole : pre ++ write.Append e ∷ ws ≡ (pre ++ write.Append e ∷ []) ++ ws = sym (append_assoc pre (write.Append e ∷ []) ws) in
    let K : Broker → Type 0 = λ z. Knows s (record w { brokers = slice_set w.brokers (node s t y) z }) in
    let k : K (written s.per_ledger b (write.Append e)) =
    subst K (ap (all_written s.per_ledger a) (take_one_more pre (write.Append e) ws) ∙ written_last s.per_ledger a pre (write.Append e)) (knows (length pre + 1)) in (
      came_one s w n t x y c b e h small other lt came.0 (writes_steady s.per_ledger a pre (numbered_here s w t y h)).numbered (left (accepts b.entries e.ident) (fresh (b.entries ++ e ∷ []) ws) new) k,
      subst (λ (z : Broker). PlanHolds s w.brokers n t y c z ws) (written_last s.per_ledger a pre (write.Append e))
          (came_plan s w n t x y c (pre ++ write.Append e ∷ []) ws h small other lt came.1
          (subst (λ (z : Broker). fresh z.entries ws ≡ true) (sym (written_last s.per_ledger a pre (write.Append e))) (right (accepts b.entries e.ident) (fresh (b.entries ++ e ∷ []) ws) new))
          (λ j. subst (λ (l : List Write). K (all_written s.per_ledger a (take j l))) whole (knows j))),
    )
came_plan s w n t x y c pre (write.Create m kind replicated latest ∷ ws) h small other lt came new knows = absurd came.0
came_plan s w n t x y c pre (write.Alter m kind replicated ∷ ws) h small other lt came new knows = absurd came.0
came_plan s w n t x y c pre (write.Delete m ∷ ws) h small other lt came new knows = absurd came.0
came_plan s w n t x y c pre (write.Acks m is ∷ ws) h small other lt came new knows = absurd came.0
came_plan s w n t x y c pre (write.Seek m i ∷ ws) h small other lt came new knows = absurd came.0
came_plan s w n t x y c pre (write.ReplicatorAck z i ∷ ws) h small other lt came new knows = absurd came.0
came_plan s w n t x y c pre (write.SessionNumber z i ∷ ws) h small other lt came new knows = absurd came.0
came_plan s w n t x y c pre (write.Ledger ∷ ws) h small other lt came new knows = absurd came.0

taken_came : (h : Site) (b : Broker) (x : ℕ) (p : Packet) (q : Plan) → Taken h b x p q → Each (CameWrite x) q.writes
taken_came h b x p q (Taken.Stores id seq source e is at may new) = (refl, tt)
taken_came h b x p q (Taken.Unreadable is) = tt
taken_came h b x p q (Taken.Opens topic id request name is opening) = tt
taken_came h b x p q (Taken.Discards not shut) = tt
taken_came h b x p q (Taken.Refuses not at may) = tt
taken_came h b x p q (Taken.Repeats id seq source e is at may old) = tt

pub fated_came : (per : ℕ) (h : Site) (b : Broker) (x : ℕ) (p : Packet) (q : Plan) → Fated per b (λ c. Taken h c x p) (closes x) q → Each (CameWrite x) q.writes
fated_came per h b x p q (Fated.Once r k) = taken_came h b x p r k
fated_came per h b x p q Fated.Lost = tt
fated_came per h b x p q (Fated.Twice r r' k k') = each_both (CameWrite x) r.writes r'.writes (taken_came h b x p r k) (taken_came h _ x p r' k')

-- ---- receipt: the replicator's cursor alone

abbrev ReplicatorWrite : Write → Type 0
ReplicatorWrite (write.ReplicatorAck y i) = Unit {0}
ReplicatorWrite w = ⊥

answered_replicators : (b : Broker) (y : ℕ) (p : Packet) (q : Plan) → Answered b y p q → Each ReplicatorWrite q.writes
answered_replicators b y p q (Answered.Stale other) = tt
answered_replicators b y p q (Answered.Other at other) = tt
answered_replicators b y p q (Answered.Opened request name at is state) = tt
answered_replicators b y p q (Answered.OpenBefore request name at is state) = tt
answered_replicators b y p q (Answered.ClosedBefore request name at is state) = tt
answered_replicators b y p q (Answered.Received id n i position at is pending) = (tt, tt)
answered_replicators b y p q (Answered.ReceivedBefore id n position at is pending) = tt

pub fated_replicators : (per : ℕ) (b : Broker) (y : ℕ) (p : Packet) (q : Plan) → Fated per b (λ c. Answered c y p) (quiet_plan []) q → Each ReplicatorWrite q.writes
fated_replicators per b y p q (Fated.Once r k) = answered_replicators b y p r k
fated_replicators per b y p q Fated.Lost = tt
fated_replicators per b y p q (Fated.Twice r r' k k') = each_both ReplicatorWrite r.writes r'.writes (answered_replicators b y p r k) (answered_replicators _ y p r' k')

pub replicators_hold : (s : Setup) (bs : List Broker) (n t x : ℕ) (c : Cause) (b : Broker) (ws : List Write) → Each ReplicatorWrite ws → PlanHolds s bs n t x c b ws
replicators_hold s bs n t x c b [] h = tt
replicators_hold s bs n t x c b (write.ReplicatorAck y i ∷ ws) h = (tt, replicators_hold s bs n t x c (written s.per_ledger b (write.ReplicatorAck y i)) ws h.1)
replicators_hold s bs n t x c b (write.Append e ∷ ws) h = absurd h.0
replicators_hold s bs n t x c b (write.Create m kind replicated latest ∷ ws) h = absurd h.0
replicators_hold s bs n t x c b (write.Alter m kind replicated ∷ ws) h = absurd h.0
replicators_hold s bs n t x c b (write.Delete m ∷ ws) h = absurd h.0
replicators_hold s bs n t x c b (write.Acks m is ∷ ws) h = absurd h.0
replicators_hold s bs n t x c b (write.Seek m i ∷ ws) h = absurd h.0
replicators_hold s bs n t x c b (write.SessionNumber z i ∷ ws) h = absurd h.0
replicators_hold s bs n t x c b (write.Ledger ∷ ws) h = absurd h.0

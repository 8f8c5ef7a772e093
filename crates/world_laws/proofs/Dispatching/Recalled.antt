-- Every plan leaves each subscription of its topic with nothing due forgotten: one lemma for each shape.
use Rattle.std.proofs.Common.{◌≡◌, ℕ, ◌+◌, not, true, false, List, [], ◌∷◌, ◌++◌, length, refl, sym, subst, arith}
use Rattle.std.specs.Prelude.{Option, Some, if◌then◌else◌, ◌||◌}
use Rattle.std.specs.Str.{bytes_eq}
use Rattle.world_laws.proofs.Types.{Packet, Position, Write}
use Rattle.world_laws.proofs.Types.change
use Rattle.world_laws.proofs.Types.sub_kind
use Rattle.world_laws.proofs.Types.write
use Rattle.geo_base.specs.Broker.{Broker, Site, sub_named, written}
use Rattle.geo_base.specs.Cache.{cached}
use Rattle.geo_base.specs.Cursor.{below}
use Rattle.geo_base.specs.Dispatcher.{given, skipped_index}
use Rattle.geo_base.specs.Entry.{key_bytes}
use Rattle.geo_base.specs.Forwarding.{closes}
use Rattle.geo_base.specs.Plan.{Plan, done, plan_of, quiet_plan}
use Rattle.geo_base.specs.Planned.{Planned}
use Rattle.geo_base.specs.Seeking.{restart}
use Rattle.geo_base.specs.Setup.{Setup}
use Rattle.geo_base.specs.Subscription.{Subscription, after_acks, attached, cleared, new_subscription, permitted, sought, with_acks}
use Rattle.geo_base.specs.Updating.{updated_indexes}
use Rattle.geo_base.specs.World.{World, site, topic_at}
use Rattle.world_laws.proofs.Replicating.Cursors.{has_it}
use Rattle.world_laws.proofs.Dispatching.Dispatched.{attached_remembers, detached_remembers, given_remembers, permitted_remembers}
use Rattle.world_laws.proofs.Replicating.Effects.{Each, each_both}
use Rattle.world_laws.proofs.Merges.PeerWalk.{pick_has}
use Rattle.world_laws.proofs.Dispatching.Remembers.{IsLeast, Nearly, Remembers, after_acks_remembers, before_more, below_least, least_due_is, nearly, passed_nearly, unread, with_acks_nearly}
use Rattle.world_laws.proofs.Walks.Shapes.{Answered, Fated, Offers, Reads, Seeks, Served, Shape, Snaps, Taken, Updates}
use Rattle.world_laws.proofs.Dispatching.SubFrames.{AllSubs, Aside, AsideChange, IsAside, NamesApart, Only, aside_after, aside_creates, aside_subs, at_name, at_name_twice, created_subs, done_subs, each_and, found_is, forgotten_subs, only_named, sub_after, sub_then}
use Rattle.world_laws.proofs.Walks.Walk.{on_if, on_test}

-- so many are the entries before the plan
abbrev pub Recalls : ℕ → Broker → Plan → Type 0
Recalls per b p = AllSubs (Remembers (length b.entries)) (done per b p)

-- a topic with nothing due forgotten
pub record Keeping (b : Broker) : Type 0 where
  pub all : AllSubs (Remembers (length b.entries)) b
  pub apart : NamesApart b.subs

abbrev Keeps : ℕ → (Subscription → Subscription) → Type 0
Keeps m f = (v : Subscription) → Remembers m v → Remembers m (f v)

-- what is done to the subscriptions of a name
named_keeps : (m : ℕ) (n : List ℕ) (f : Subscription → Subscription) → Keeps m f → Keeps m (at_name n f)
named_keeps m n f k v h = on_if (Remembers m) (bytes_eq v.name n) (f v) v (k v h) h

-- a plan without writes of subscriptions
changes_recalled : (per : ℕ) (b : Broker) (p : Plan) → (h : Each Aside p.writes) → ((v : Subscription) → Remembers (length b.entries) v → Remembers (length b.entries) (sub_then v p.changes)) → Keeping b → Recalls per b p
changes_recalled per b p h k keep =
    done_subs (Remembers (length b.entries)) (Remembers (length b.entries)) per b p (aside_creates p.writes h)
    (λ v r. subst (λ (u : Subscription). Remembers (length b.entries) (sub_then u p.changes)) (sym (aside_after v p.writes h)) (k v r)) keep.all

updates_aside : (h : Site) (b : Broker) (v : Subscription) (ws : List Write) → Updates h b v ws → Each Aside ws
updates_aside h b v ws Updates.NoUpdate = tt
updates_aside h b v ws (Updates.Update cut replicated passed) = (tt, tt)

-- some writes aside between a write and the changes of a plan
behind : (P : Subscription → Type 0) (v : Subscription) (ws : List Write) → Each Aside ws → P v → P (sub_after v ws)
behind P v ws h p = subst P (sym (aside_after v ws h)) p

-- acknowledged on the cursor, then in memory
acked : (m : ℕ) (n is : List ℕ) (ws : List Write) → Each Aside ws → (v : Subscription) → Remembers m v
    → Remembers m (at_name n after_acks (sub_after (at_name n (with_acks is) v) ws))
acked m n is ws h v r =
    behind (λ (u : Subscription). Remembers m (at_name n after_acks u)) (at_name n (with_acks is) v) ws h
    (subst (Remembers m) (sym (at_name_twice n (with_acks is) after_acks v refl))
    (named_keeps m n (λ (u : Subscription). after_acks (with_acks is u)) (λ u k. after_acks_remembers m (with_acks is u) (with_acks_nearly m is u k)) v r))

-- serve
served_recalled : (per : ℕ) (h : Site) (b : Broker) (c : ℕ) (p : Packet) (q : Plan) → Served h b c p q → Keeping b → Recalls per b q
served_recalled per h b c p q Served.Ignores keep = changes_recalled per b q tt (λ v r. r) keep
served_recalled per h b c p q Served.Disconnects keep = changes_recalled per b q tt (λ v r. detached_remembers (length b.entries) c v r) keep
served_recalled per h b c p q (Served.Connects s is new) keep = changes_recalled per b q tt (λ v r. detached_remembers (length b.entries) c v r) keep
served_recalled per h b c p q (Served.Answers s f at) keep = changes_recalled per b q tt (λ v r. r) keep
served_recalled per h b c p q (Served.ChangesProducers s ps f at) keep = changes_recalled per b q tt (λ v r. r) keep
served_recalled per h b c p q (Served.Stores s id seq source e at sound new) keep = changes_recalled per b q (tt, tt) (λ v r. r) keep
served_recalled per h b c p q (Served.Repeats s id seq source e at sound old) keep = changes_recalled per b q tt (λ v r. r) keep
served_recalled per h b c p q (Served.Creates s topic n kind id request consumer earliest replicated at is may named) keep =
    let m = length b.entries in
    let b' = written per b (write.Create n kind replicated (not earliest)) in
    done_subs (Remembers m) (Remembers m) per b' (plan_of [] (change.Attach n (record { client = c; id = id; permits = 0 }) ∷ []) []) tt
    (named_keeps m n (attached (record { client = c; id = id; permits = 0 })) (attached_remembers m (record { client = c; id = id; permits = 0 })))
    (created_subs (Remembers m) per b n kind replicated (not earliest) keep.all
    (unread m (new_subscription n kind replicated (if not earliest then below (length b.entries) else [])) refl refl refl))
served_recalled per h b c p q (Served.Joins s topic n kind id request consumer earliest replicated v at is may named free same) keep =
    let m = length b.entries in
    changes_recalled per b q tt (named_keeps m n (attached (record { client = c; id = id; permits = 0 })) (attached_remembers m (record { client = c; id = id; permits = 0 }))) keep
served_recalled per h b c p q (Served.Alters s topic n kind id request consumer earliest replicated v at is may named free other) keep =
    let m = length b.entries in
    let altered : Subscription → Subscription = at_name v.name (λ (x : Subscription). record x { kind = kind; replicated = v.replicated || replicated }) in
    done_subs (Remembers m) (Remembers m) per b q (tt, tt)
    (λ u r. named_keeps m n (attached (record { client = c; id = id; permits = 0 })) (attached_remembers m (record { client = c; id = id; permits = 0 })) (altered u)
    (named_keeps m v.name (λ (x : Subscription). record x { kind = kind; replicated = v.replicated || replicated })
    (λ x k. record { outside = k.outside; inside = k.inside; read = k.read }) u r)) keep.all
served_recalled per h b c p q (Served.Permits s id permits v at is by) keep =
    let m = length b.entries in changes_recalled per b q tt (named_keeps m v.name (permitted c permits) (permitted_remembers m c permits)) keep
served_recalled per h b c p q (Served.Acknowledges s id kind ps v i is ws at sent by of after) keep =
    let m = length b.entries in
    let aside = updates_aside h b _ ws after in
    done_subs (Remembers m) (Remembers m) per b q (tt, aside_creates ws aside) (acked m v.name (i ∷ is) ws aside) keep.all
served_recalled per h b c p q (Served.Unsubscribes s id request v at is by last) keep =
    let m = length b.entries in done_subs (Remembers m) (Remembers m) per b q (tt, tt) (λ u r. r) keep.all
served_recalled per h b c p q (Served.ClosesConsumer s id request v at is by) keep = changes_recalled per b q tt (λ u r. detached_remembers (length b.entries) c u r) keep

-- take and receipt touch no subscription
taken_aside : (h : Site) (b : Broker) (x : ℕ) (p : Packet) (q : Plan) → Taken h b x p q → IsAside q
taken_aside h b x p q (Taken.Unreadable is) = record { writes = tt; changes = (tt, tt) }
taken_aside h b x p q (Taken.Opens topic id request name is opening) = record { writes = tt; changes = (tt, tt) }
taken_aside h b x p q (Taken.Discards other shut) = record { writes = tt; changes = tt }
taken_aside h b x p q (Taken.Refuses other at may) = record { writes = tt; changes = (tt, tt) }
taken_aside h b x p q (Taken.Stores id seq source e is at may new) = record { writes = (tt, tt); changes = tt }
taken_aside h b x p q (Taken.Repeats id seq source e is at may old) = record { writes = tt; changes = tt }

answered_aside : (b : Broker) (y : ℕ) (p : Packet) (q : Plan) → Answered b y p q → IsAside q
answered_aside b y p q (Answered.Stale other) = record { writes = tt; changes = tt }
answered_aside b y p q (Answered.Other at other) = record { writes = tt; changes = tt }
answered_aside b y p q (Answered.Opened request name at is state) = record { writes = tt; changes = (tt, tt) }
answered_aside b y p q (Answered.OpenBefore request name at is state) = record { writes = tt; changes = tt }
answered_aside b y p q (Answered.ClosedBefore request name at is state) = record { writes = tt; changes = tt }
answered_aside b y p q (Answered.Received id n i position at is pending) = record { writes = (tt, tt); changes = (tt, tt) }
answered_aside b y p q (Answered.ReceivedBefore id n position at is pending) = record { writes = tt; changes = tt }

fated_aside : (per : ℕ) (b : Broker) (Acts : Broker → Plan → Type 0) (lost q : Plan) → ((c : Broker) (p : Plan) → Acts c p → IsAside p) → IsAside lost
    → Fated per b Acts lost q → IsAside q
fated_aside per b Acts lost q f l (Fated.Once p a) = f b p a
fated_aside per b Acts lost q f l Fated.Lost = l
fated_aside per b Acts lost q f l (Fated.Twice p p' a a') =
    let one = f b p a in
    let two = f (done per b p) p' a' in
    record {
      writes = each_both Aside p.writes p'.writes one.writes two.writes;
      changes = each_both AsideChange p.changes p'.changes one.changes two.changes;
    }

aside_recalled : (per : ℕ) (b : Broker) (q : Plan) → IsAside q → Keeping b → Recalls per b q
aside_recalled per b q a keep = aside_subs (Remembers (length b.entries)) per b q a keep.all

-- read
reads_recalled : (per : ℕ) (h : Site) (b : Broker) (y : ℕ) (q : Plan) → Reads h b y q → Keeping b → Recalls per b q
reads_recalled per h b y q Reads.NothingToRead keep = changes_recalled per b q tt (λ v r. r) keep
reads_recalled per h b y q (Reads.Forwards i e next out) keep = changes_recalled per b q tt (λ v r. r) keep
reads_recalled per h b y q (Reads.Skips i e next other) keep = changes_recalled per b q (tt, tt) (λ v r. r) keep
reads_recalled per h b y q (Reads.Responds i e id source next of is) keep = changes_recalled per b q (tt, (tt, tt)) (λ v r. r) keep
reads_recalled per h b y q (Reads.Counts i e id answer u u' next is heard) keep = changes_recalled per b q (tt, tt) (λ v r. r) keep
reads_recalled per h b y q (Reads.AsksAgain i e id answer u u' next is heard) keep = changes_recalled per b q (tt, (tt, tt)) (λ v r. r) keep
reads_recalled per h b y q (Reads.Completes i e id answer u u' next is heard) keep = changes_recalled per b q (tt, (tt, tt)) (λ v r. r) keep
reads_recalled per h b y q (Reads.CreatesAt i j e n remote next is named) keep =
    let m = length b.entries in
    let is = updated_indexes y 0 (j + 1) b.entries in
    let b' = written per b (write.Create n sub_kind.Exclusive true false) in
    done_subs (Remembers m) (Remembers m) per b' (plan_of (write.Acks n is ∷ write.ReplicatorAck y i ∷ []) (change.Acked n ∷ change.ReadTo y (i + 1) ∷ []) []) (tt, (tt, tt))
    (acked m n is (write.ReplicatorAck y i ∷ []) (tt, tt))
    (created_subs (Remembers m) per b n sub_kind.Exclusive true false keep.all (unread m (new_subscription n sub_kind.Exclusive true []) refl refl refl))
reads_recalled per h b y q (Reads.ActsOnUpdate i j e n remote v ws next is named after) keep =
    let m = length b.entries in
    let aside = each_both Aside ws (write.ReplicatorAck y i ∷ []) (updates_aside h b _ ws after) (tt, tt) in
    done_subs (Remembers m) (Remembers m) per b q (tt, aside_creates (ws ++ write.ReplicatorAck y i ∷ []) aside) (acked m n (updated_indexes y 0 (j + 1) b.entries) (ws ++ write.ReplicatorAck y i ∷ []) aside) keep.all

snaps_recalled : (per : ℕ) (h : Site) (b : Broker) (q : Plan) → Snaps h b q → Keeping b → Recalls per b q
snaps_recalled per h b q Snaps.NothingToAsk keep = changes_recalled per b q tt (λ v r. r) keep
snaps_recalled per h b q (Snaps.Asks any none) keep = changes_recalled per b q (tt, tt) (λ v r. r) keep

-- offer: what is done to the subscriptions of a name is done to the one that the offer found
found_one : (b : Broker) (n : List ℕ) (v : Subscription) → sub_named b.subs n ≡ Some v → Keeping b
    → Each (λ (u : Subscription). Remembers (length b.entries) u × Only v u) b.subs
found_one b n v named keep = each_and (Remembers (length b.entries)) (Only v) b.subs keep.all (only_named b.subs n v keep.apart named)

pub found_remembers : (b : Broker) (n : List ℕ) (v : Subscription) → sub_named b.subs n ≡ Some v → Keeping b → Remembers (length b.entries) v
found_remembers b n v named keep = (found_is (Remembers (length b.entries)) (λ (u : Subscription). bytes_eq u.name n) b.subs v named keep.all).0

only_keeps : (m : ℕ) (v : Subscription) (f : Subscription → Subscription) → Remembers m (f v) → (u : Subscription) → Remembers m u × Only v u → Remembers m (at_name v.name f u)
only_keeps m v f new u h =
    on_test (Remembers m) (bytes_eq u.name v.name) (f u) u (λ is. subst (λ (x : Subscription). Remembers m (f x)) (sym (h.1 is)) new) (λ _. h.0)

-- a marker is passed, v being the subscription with whatever cache
pub marker_passed : (m i : ℕ) (v : Subscription) → IsLeast v 0 m i → Nearly m v → Remembers m (after_acks (skipped_index i (with_acks (i ∷ []) v)))
marker_passed m i v least r =
    let high = least.high in
    after_acks_remembers m (skipped_index i (with_acks (i ∷ []) v))
    (passed_nearly m i (with_acks (i ∷ []) v) (omega (arith, high)) (has_it v.cursor i)
    (λ j lo h. below_least v 0 m i j least (omega arith) lo (before_more (i ∷ []) v.cursor j h))
    (record { outside = λ j lt h. r.outside j lt (before_more (i ∷ []) v.cursor j h); read = r.read }))

offers_recalled : (per : ℕ) (h : Site) (b : Broker) (n : List ℕ) (q : Plan) → Offers h b n q → Keeping b → Recalls per b q
offers_recalled per h b n q Offers.NothingToOffer keep = changes_recalled per b q tt (λ v r. r) keep
offers_recalled per h b n q (Offers.Gives v i at e due is picked) keep =
    let m = length b.entries in
    let new = given_remembers m i at v (least_due_is v 0 m i due.1) (pick_has v.kind v.consumers (key_bytes e.meta.key) at picked) (found_remembers b n v due.0 keep) in
    done_subs (λ (u : Subscription). Remembers m u × Only v u) (Remembers m) per b q tt (only_keeps m v (given i at) new) (found_one b n v due.0 keep)
offers_recalled per h b n q (Offers.SkipsMarker v i e ws due is after) keep =
    let m = length b.entries in
    let aside = updates_aside h b _ ws after in
    let acks : Subscription → Subscription = with_acks (i ∷ []) in
    let passes : Subscription → Subscription = skipped_index i in
    let new = marker_passed m i v (least_due_is v 0 m i due.1) (nearly m v (found_remembers b n v due.0 keep)) in
    done_subs (λ (u : Subscription). Remembers m u × Only v u) (Remembers m) per b q (tt, aside_creates ws aside)
    (λ u k. behind (λ (x : Subscription). Remembers m (at_name v.name after_acks (at_name v.name passes x))) (at_name v.name acks u) ws aside
    (subst (λ (x : Subscription). Remembers m (at_name v.name after_acks x)) (sym (at_name_twice v.name acks passes u refl))
    (subst (Remembers m) (sym (at_name_twice v.name (λ (x : Subscription). passes (acks x)) after_acks u refl))
    (only_keeps m v (λ (x : Subscription). after_acks (passes (acks x))) new u k))))
    (found_one b n v due.0 keep)
offers_recalled per h b n q (Offers.Caches v i j e c ws due is after) keep =
    let m = length b.entries in
    let aside = updates_aside h b _ ws after in
    let acks : Subscription → Subscription = with_acks (i ∷ []) in
    let caches : Subscription → Subscription = λ s. record s { cache = cached s.cache c } in
    let passes : Subscription → Subscription = skipped_index i in
    let r = found_remembers b n v due.0 keep in
    let least = least_due_is v 0 m i due.1 in
    let new = marker_passed m i (caches v) (record { low = least.low; high = least.high; due = least.due; before = least.before }) (record { outside = r.outside; read = r.read }) in
    done_subs (λ (u : Subscription). Remembers m u × Only v u) (Remembers m) per b q (tt, aside_creates ws aside)
    (λ u k. behind (λ (x : Subscription). Remembers m (at_name v.name after_acks (at_name v.name passes (at_name v.name caches x)))) (at_name v.name acks u) ws aside
    (subst (λ (x : Subscription). Remembers m (at_name v.name after_acks (at_name v.name passes x))) (sym (at_name_twice v.name acks caches u refl))
    (subst (λ (x : Subscription). Remembers m (at_name v.name after_acks x)) (sym (at_name_twice v.name (λ (x : Subscription). caches (acks x)) passes u refl))
    (subst (Remembers m) (sym (at_name_twice v.name (λ (x : Subscription). passes (caches (acks x))) after_acks u refl))
    (only_keeps m v (λ (x : Subscription). after_acks (passes (caches (acks x)))) new u k)))))
    (found_one b n v due.0 keep)

-- seek
cleared_remembers : (m : ℕ) (v : Subscription) → Remembers m (cleared v)
cleared_remembers m v = unread m (cleared v) refl refl refl

seeks_recalled : (per : ℕ) (h : Site) (b : Broker) (n : List ℕ) (to : Option Position) (q : Plan) → Seeks h b n to q → Keeping b → Recalls per b q
seeks_recalled per h b n to q Seeks.NothingToSeek keep = changes_recalled per b q tt (λ v r. r) keep
seeks_recalled per h b n to q (Seeks.SeeksTo v i ws named at after) keep =
    let m = length b.entries in
    let aside = updates_aside h b _ ws after in
    done_subs (Remembers m) (Remembers m) per b q (tt, aside_creates ws aside)
    (λ u r. behind (λ (x : Subscription). Remembers m (at_name v.name cleared x)) (at_name v.name (sought i) u) ws aside
    (subst (Remembers m) (sym (at_name_twice v.name (sought i) cleared u refl)) (named_keeps m v.name (λ x. cleared (sought i x)) (λ x k. cleared_remembers m (sought i x)) u r)))
    keep.all

pub restart_recalled : (per : ℕ) (b : Broker) → Recalls per b restart
unfolding restart
restart_recalled per b = forgotten_subs (Remembers (length b.entries)) (written per b write.Ledger) (cleared_remembers (length b.entries))

-- whatever a broker does
pub shape_recalled : (s : Setup) (w : World) (p : Planned) → Shape s w p → Keeping (topic_at s w p.topic p.cluster) → Recalls s.per_ledger (topic_at s w p.topic p.cluster) p.plan
shape_recalled s w p (Shape.Idle t x within) keep = changes_recalled s.per_ledger _ p.plan tt (λ v r. r) keep
shape_recalled s w p (Shape.Empty t x k within next) keep = changes_recalled s.per_ledger _ p.plan tt (λ v r. r) keep
shape_recalled s w p (Shape.Serve x c q plan within next served) keep = served_recalled s.per_ledger _ _ c q plan served keep
shape_recalled s w p (Shape.Drop x c v within at) keep = changes_recalled s.per_ledger _ p.plan tt (λ u r. detached_remembers _ c u r) keep
shape_recalled s w p (Shape.Reset t x y within remote) keep = changes_recalled s.per_ledger _ p.plan (tt, tt) (λ v r. r) keep
shape_recalled s w p (Shape.Read t x y plan within reads) keep = reads_recalled s.per_ledger _ _ y plan reads keep
shape_recalled s w p (Shape.Take t x y q plan within next taken) keep =
    aside_recalled s.per_ledger (topic_at s w t y) plan
    (fated_aside s.per_ledger (topic_at s w t y) (λ b. Taken (site s t y) b x q) (closes x) plan (λ c r a. taken_aside _ c x q r a) (record { writes = tt; changes = (tt, tt) }) taken) keep
shape_recalled s w p (Shape.Receipt t x y q plan within next answered) keep =
    aside_recalled s.per_ledger (topic_at s w t x) plan
    (fated_aside s.per_ledger (topic_at s w t x) (λ b. Answered b y q) (quiet_plan []) plan (λ c r a. answered_aside c y q r a) (record { writes = tt; changes = tt }) answered) keep
shape_recalled s w p (Shape.Snap t x plan within snaps) keep = snaps_recalled s.per_ledger _ _ plan snaps keep
shape_recalled s w p (Shape.Offer t x n plan within offers) keep = offers_recalled s.per_ledger _ _ _ plan offers keep
shape_recalled s w p (Shape.Seek t x n to plan within seeks) keep = seeks_recalled s.per_ledger _ _ _ to plan seeks keep
shape_recalled s w p (Shape.Restart t x within) keep = restart_recalled s.per_ledger (topic_at s w t x)

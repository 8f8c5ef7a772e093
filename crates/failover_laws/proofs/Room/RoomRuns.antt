-- So it is in each world that a script's run comes to: a client subscribes by the names of its lines, and an update names a subscription of
-- the cluster that it is of.
use Rattle.std.proofs.Common.{◌≡◌, ℕ, zero, suc, ◌<◌, Bool, true, false, List, [], ◌∷◌, ◌++◌, length, map, refl, sym, ap, subst, ◌∙◌, ◌==◌, arith, inl, inr, not}
use Rattle.std.specs.Prelude.{Option, Some, None, ◌-◌, ◌*◌, ◌&&◌, ◌||◌, is_some, nat_lt, slice_get, slice_index_or, take}
use Rattle.std.specs.List.{list_any}
use Rattle.std.specs.Str.{bytes_eq}
use Rattle.std.proofs.lemmas.Bool.{eq-eqb, eqb-true, false≢true, lt-ltb, ltb-true}
use Rattle.std.proofs.lemmas.List.{get_or-replicate}
use Rattle.std.proofs.lemmas.Option.{none-some}
use Rattle.std.proofs.lemmas.Slice.Eq.{bytes_eq-Decides}
use Rattle.world_laws.proofs.Types.{CachedSnapshot, Change, ClusterPosition, Entry, Event, Frame, Packet, Position, Write}
use Rattle.world_laws.proofs.Types.change
use Rattle.world_laws.proofs.Types.content
use Rattle.world_laws.proofs.Types.frame
use Rattle.world_laws.proofs.Types.line
use Rattle.world_laws.proofs.Types.marker
use Rattle.world_laws.proofs.Types.write
use Rattle.geo_base.specs.Broker.{Broker, Site, changed, new_broker, no_broker, sub_named, written}
use Rattle.geo_base.specs.Cache.{cached}
use Rattle.geo_base.specs.Dispatcher.{given, skipped_index}
use Rattle.geo_base.specs.Forwarding.{closes, is_remote}
use Rattle.geo_base.specs.Happening.{halts_planned, happens, stops}
use Rattle.geo_base.specs.Laws.{ArePair}
use Rattle.geo_base.specs.Plan.{Plan, all_changed, all_written, done, quiet_plan}
use Rattle.geo_base.specs.Planned.{Planned, has_node, has_pair, planned}
use Rattle.geo_base.specs.Scripted.{IsScripted}
use Rattle.geo_base.specs.Seeking.{restart}
use Rattle.geo_base.specs.Setup.{Setup, declared_at, sub_name, sub_names}
use Rattle.geo_base.specs.Subscribing.{has_room, most_subs}
use Rattle.geo_base.specs.Subscription.{Subscription, after_acks, attached, cleared, detached, permitted}
use Rattle.geo_base.specs.World.{LinkName, ToBroker, World, link_at, node, opening_world, site, topic_at}
use Rattle.world_laws.specs.Reached.{ReachedFrom}
use Rattle.world_laws.proofs.Clients.CalmWalk.{IsNamed}
use Rattle.world_laws.proofs.Clients.Meeting.{MeetsAll, meets_on, opening_meets}
use Rattle.world_laws.proofs.Dispatching.Keeping.{Remembering, remembering_kept}
use Rattle.world_laws.proofs.Dispatching.SubFrames.{AllSubs, at_name, created_subs, each_at_place, each_to}
use Rattle.world_laws.proofs.Induction.Reaching.{reached_has}
use Rattle.world_laws.proofs.Merges.PeerWalk.{each_filter}
use Rattle.world_laws.proofs.OnceInOrder.Appends.{all_changed_entries, written_entries}
use Rattle.world_laws.proofs.Replicating.Effects.{Each, each_both, each_take}
use Rattle.world_laws.proofs.Replicating.Pairs.{Replicates, replicates_laws}
use Rattle.world_laws.proofs.Replicating.Prefixes.{is_of}
use Rattle.world_laws.proofs.Replicating.Sizes.{IsThere, node_lt, node_there}
use Rattle.world_laws.proofs.Snapshotting.Answering.{old_or_new}
use Rattle.world_laws.proofs.Snapshotting.Caches.{AllCached}
use Rattle.world_laws.proofs.Telling.Announcing.{Announcing, announced, announcing_halt, shape_announcing}
use Rattle.world_laws.proofs.TopicOrder.Added.{appended, after_is}
use Rattle.world_laws.proofs.TopicOrder.NoSelf.{NoSelf}
use Rattle.world_laws.proofs.TopicOrder.Order.{of_source}
use Rattle.world_laws.proofs.Walks.EventWalk.{HasShape, planned_shape}
use Rattle.world_laws.proofs.Walks.Shapes.{Answered, Fated, Offers, Reads, Seeks, Served, Shape, Snaps, Taken, Updates}
use Rattle.world_laws.proofs.Walks.Walk.{both, left, on_if, right}
use Rattle.failover_laws.specs.Room.{LawRoom}
use Rattle.failover_laws.proofs.Covers.Known.{kept_there, tracing_at}
use Rattle.failover_laws.proofs.Ending.Became.{at_node, Became, became, Halted, halted_planned}
use Rattle.failover_laws.proofs.Ending.EndedRuns.{stopped_is}
use Rattle.failover_laws.proofs.Room.Names.{few_names, InNames, line_named}

-- ---- names of subscriptions

abbrev NamedIn : List (List ℕ) → Broker → Type 0
NamedIn ns b = AllSubs (λ (v : Subscription). InNames ns v.name) b

abbrev MayName : List (List ℕ) → Write → Type 0
MayName ns (write.Create n kind replicated latest) = InNames ns n
MayName ns w = Unit {0}

at_names : (ns : List (List ℕ)) (n : List ℕ) (f : Subscription → Subscription) → ((v : Subscription) → (f v).name ≡ v.name) → (vs : List Subscription)
    → Each (λ (v : Subscription). InNames ns v.name) vs → Each (λ (v : Subscription). InNames ns v.name) (map (at_name n f) vs)
at_names ns n f same vs h =
    each_to (λ (v : Subscription). InNames ns v.name) (λ (v : Subscription). InNames ns v.name) (at_name n f)
    (λ v k. on_if (λ (u : Subscription). InNames ns u.name) (bytes_eq v.name n) (f v) v (subst (InNames ns) (sym (same v)) k) k) vs h

written_names : (ns : List (List ℕ)) (per : ℕ) (b : Broker) (w : Write) → MayName ns w → NamedIn ns b → NamedIn ns (written per b w)
written_names ns per b (write.Create n kind replicated latest) may h = created_subs (λ (v : Subscription). InNames ns v.name) per b n kind replicated latest h may
written_names ns per b (write.Alter n kind replicated) may h = at_names ns n _ (λ v. refl) b.subs h
written_names ns per b (write.Acks n is) may h = at_names ns n _ (λ v. refl) b.subs h
written_names ns per b (write.Seek n i) may h = at_names ns n _ (λ v. refl) b.subs h
written_names ns per b (write.Delete n) may h = each_filter (λ (v : Subscription). InNames ns v.name) (λ (s : Subscription). not (bytes_eq s.name n)) b.subs h
written_names ns per b (write.Append e) may h = h
written_names ns per b (write.ReplicatorAck y i) may h = h
written_names ns per b (write.SessionNumber y n) may h = h
written_names ns per b write.Ledger may h = h

all_written_names : (ns : List (List ℕ)) (per : ℕ) (b : Broker) (ws : List Write) → Each (MayName ns) ws → NamedIn ns b → NamedIn ns (all_written per b ws)
all_written_names ns per b [] may h = h
all_written_names ns per b (w ∷ ws) may h = all_written_names ns per (written per b w) ws may.1 (written_names ns per b w may.0 h)

map_names : (ns : List (List ℕ)) (f : Subscription → Subscription) → ((v : Subscription) → (f v).name ≡ v.name) → (vs : List Subscription)
    → Each (λ (v : Subscription). InNames ns v.name) vs → Each (λ (v : Subscription). InNames ns v.name) (map f vs)
map_names ns f same vs h = each_to (λ (v : Subscription). InNames ns v.name) (λ (v : Subscription). InNames ns v.name) f (λ v k. subst (InNames ns) (sym (same v)) k) vs h

changed_names : (ns : List (List ℕ)) (b : Broker) (c : Change) → NamedIn ns b → NamedIn ns (changed b c)
changed_names ns b (change.Attach n k) h = at_names ns n (attached k) (λ v. refl) b.subs h
changed_names ns b (change.Detach c) h = map_names ns (detached c) (λ v. refl) b.subs h
changed_names ns b (change.Permit n c k) h = at_names ns n (permitted c k) (λ v. refl) b.subs h
changed_names ns b (change.Skipped n i) h = at_names ns n (skipped_index i) (λ v. refl) b.subs h
changed_names ns b (change.Given n i at) h = at_names ns n (given i at) (λ v. refl) b.subs h
changed_names ns b (change.Cache n c) h = at_names ns n (λ s. record s { cache = cached s.cache c }) (λ v. refl) b.subs h
changed_names ns b (change.Acked n) h = at_names ns n after_acks (λ v. refl) b.subs h
changed_names ns b (change.Cleared n) h = at_names ns n cleared (λ v. refl) b.subs h
changed_names ns b change.Forget h = map_names ns cleared (λ v. refl) b.subs h
changed_names ns b (change.Receiver x r) h = h
changed_names ns b (change.Client c r) h = h
changed_names ns b (change.Opening y) h = h
changed_names ns b (change.Opened y) h = h
changed_names ns b (change.Pend y i) h = h
changed_names ns b (change.ReadTo y i) h = h
changed_names ns b (change.Unpend y n) h = h
changed_names ns b (change.Building o) h = h

all_changed_names : (ns : List (List ℕ)) (b : Broker) (cs : List Change) → NamedIn ns b → NamedIn ns (all_changed b cs)
all_changed_names ns b [] h = h
all_changed_names ns b (c ∷ cs) h = all_changed_names ns (changed b c) cs (changed_names ns b c h)

-- ---- plans

updates_name : (ns : List (List ℕ)) (h : Site) (b : Broker) (v : Subscription) (ws : List Write) → Updates h b v ws → Each (MayName ns) ws
updates_name ns h b v ws Updates.NoUpdate = tt
updates_name ns h b v ws (Updates.Update cut replicated passed) = (tt, tt)

abbrev Subscribes : List (List ℕ) → Frame → Type 0
Subscribes ns (frame.Subscribe topic n kind id request consumer earliest replicated) = InNames ns n
Subscribes ns f = Unit {0}

served_name : (ns : List (List ℕ)) (h : Site) (b : Broker) (c : ℕ) (p : Packet) (q : Plan) → Subscribes ns p.frame → Served h b c p q → Each (MayName ns) q.writes
served_name ns h b c p q known (Served.Creates s topic n kind id request consumer earliest replicated at is may named) = (subst (Subscribes ns) is known, tt)
served_name ns h b c p q known (Served.Acknowledges s id kind ps v j is ws at sent by of after) = (tt, updates_name ns h b _ ws after)
served_name ns h b c p q known (Served.Stores s id seq source e at sound new) = (tt, tt)
served_name ns h b c p q known Served.Ignores = tt
served_name ns h b c p q known Served.Disconnects = tt
served_name ns h b c p q known (Served.Connects s is new) = tt
served_name ns h b c p q known (Served.Answers s f at) = tt
served_name ns h b c p q known (Served.ChangesProducers s ps f at) = tt
served_name ns h b c p q known (Served.Repeats s id seq source e at sound old) = tt
served_name ns h b c p q known (Served.Joins s topic n kind id request consumer earliest replicated v at is may named free same) = tt
served_name ns h b c p q known (Served.Alters s topic n kind id request consumer earliest replicated v at is may named free other) = (tt, tt)
served_name ns h b c p q known (Served.Permits s id permits v at is by) = tt
served_name ns h b c p q known (Served.Unsubscribes s id request v at is by last) = (tt, tt)
served_name ns h b c p q known (Served.ClosesConsumer s id request v at is by) = tt

taken_name : (ns : List (List ℕ)) (h : Site) (b : Broker) (x : ℕ) (p : Packet) (q : Plan) → Taken h b x p q → Each (MayName ns) q.writes
taken_name ns h b x p q (Taken.Stores id seq source e is at may new) = (tt, tt)
taken_name ns h b x p q (Taken.Unreadable is) = tt
taken_name ns h b x p q (Taken.Opens topic id request name is opening) = tt
taken_name ns h b x p q (Taken.Discards other shut) = tt
taken_name ns h b x p q (Taken.Refuses other at may) = tt
taken_name ns h b x p q (Taken.Repeats id seq source e is at may old) = tt

answered_name : (ns : List (List ℕ)) (b : Broker) (y : ℕ) (p : Packet) (q : Plan) → Answered b y p q → Each (MayName ns) q.writes
answered_name ns b y p q (Answered.Received id n i position at is pending) = (tt, tt)
answered_name ns b y p q (Answered.Stale other) = tt
answered_name ns b y p q (Answered.Other at other) = tt
answered_name ns b y p q (Answered.Opened request name at is state) = tt
answered_name ns b y p q (Answered.OpenBefore request name at is state) = tt
answered_name ns b y p q (Answered.ClosedBefore request name at is state) = tt
answered_name ns b y p q (Answered.ReceivedBefore id n position at is pending) = tt

fated_name : (ns : List (List ℕ)) (per : ℕ) (b : Broker) (Acts : Broker → Plan → Type 0) (lost q : Plan) → ((c : Broker) (p : Plan) → Acts c p → Each (MayName ns) p.writes)
    → Each (MayName ns) lost.writes → Fated per b Acts lost q → Each (MayName ns) q.writes
fated_name ns per b Acts lost q f l (Fated.Once p a) = f b p a
fated_name ns per b Acts lost q f l Fated.Lost = l
fated_name ns per b Acts lost q f l (Fated.Twice p p' a a') = each_both (MayName ns) p.writes p'.writes (f b p a) (f (done per b p) p' a')

reads_name : (ns : List (List ℕ)) (h : Site) (b : Broker) (y : ℕ) (q : Plan)
    → ((i : ℕ) (e : Entry) (n : List ℕ) (told : List ClusterPosition) → is_remote h y ≡ true → slice_get b.entries i ≡ Some e → is_of y e ≡ true → e.content ≡ content.Marked (marker.Update n told) → InNames ns n)
    → Reads h b y q → Each (MayName ns) q.writes
reads_name ns h b y q known Reads.NothingToRead = tt
reads_name ns h b y q known (Reads.Forwards i e next out) = tt
reads_name ns h b y q known (Reads.Skips i e next other) = (tt, tt)
reads_name ns h b y q known (Reads.Responds i e id source next of is) = (tt, (tt, tt))
reads_name ns h b y q known (Reads.Counts i e id answer u u' next is heard) = (tt, tt)
reads_name ns h b y q known (Reads.AsksAgain i e id answer u u' next is heard) = (tt, (tt, tt))
reads_name ns h b y q known (Reads.Completes i e id answer u u' next is heard) = (tt, (tt, tt))
reads_name ns h b y q known (Reads.CreatesAt i j e n told next is named) = (known i e n told next.0 next.2 is.0.1 is.1, (tt, (tt, tt)))
reads_name ns h b y q known (Reads.ActsOnUpdate i j e n told v ws next is named after) = (tt, each_both (MayName ns) ws (write.ReplicatorAck y i ∷ []) (updates_name ns h b _ ws after) (tt, tt))

snaps_name : (ns : List (List ℕ)) (h : Site) (b : Broker) (q : Plan) → Snaps h b q → Each (MayName ns) q.writes
snaps_name ns h b q Snaps.NothingToAsk = tt
snaps_name ns h b q (Snaps.Asks any none) = (tt, tt)

offers_name : (ns : List (List ℕ)) (h : Site) (b : Broker) (n : List ℕ) (q : Plan) → Offers h b n q → Each (MayName ns) q.writes
offers_name ns h b n q Offers.NothingToOffer = tt
offers_name ns h b n q (Offers.Gives v i at e due is picked) = tt
offers_name ns h b n q (Offers.SkipsMarker v i e ws due is after) = (tt, updates_name ns h b _ ws after)
offers_name ns h b n q (Offers.Caches v i j e c ws due is after) = (tt, updates_name ns h b _ ws after)

seeks_name : (ns : List (List ℕ)) (h : Site) (b : Broker) (n : List ℕ) (to : Option Position) (q : Plan) → Seeks h b n to q → Each (MayName ns) q.writes
seeks_name ns h b n to q Seeks.NothingToSeek = tt
seeks_name ns h b n to q (Seeks.SeeksTo v i ws named at after) = (tt, updates_name ns h b _ ws after)

-- ---- worlds

-- each subscription of a topic has a name of it, and so has what each own update is of
record Known (s : Setup) (t x : ℕ) (b : Broker) : Type 0 where
  subs : NamedIn (sub_names s t) b
  updates : (i : ℕ) (e : Entry) (n : List ℕ) (told : List ClusterPosition) → slice_get b.entries i ≡ Some e → is_of x e ≡ true → e.content ≡ content.Marked (marker.Update n told) → InNames (sub_names s t) n

abbrev AllKnown : Setup → World → Type 0
AllKnown s w = (t x : ℕ) → IsThere s t x → Known s t x (topic_at s w t x)

-- what is known besides
record Beside (s : Setup) (w : World) : Type 0 where
  replicates : Replicates s w
  none : NoSelf s w
  meets : (c : ℕ) → MeetsAll s c w

subscribe_named : (s : Setup) (c : ℕ) (f : Frame) → IsNamed (declared_at s c) f → Subscribes (sub_names s (declared_at s c).topic) f
subscribe_named s c (frame.Subscribe topic n kind id request consumer earliest replicated) h = line_named s c id n (line.Sub n kind earliest replicated, h, refl)
subscribe_named s c f h = tt

in_pair : (s : Setup) (u x z : ℕ) → has_pair s u x z ≡ true → (u < length s.topics) × (x < length s.clusters) × (z < length s.clusters)
in_pair s u x z within =
    let here = left (nat_lt u (length s.topics) && nat_lt x (length s.clusters)) (nat_lt z (length s.clusters)) within in (
      ltb-true u (length s.topics) (left (nat_lt u (length s.topics)) (nat_lt x (length s.clusters)) here),
      ltb-true x (length s.clusters) (right (nat_lt u (length s.topics)) (nat_lt x (length s.clusters)) here),
      ltb-true z (length s.clusters) (right (has_node s u x) (nat_lt z (length s.clusters)) within),
    )

update_named : (s : Setup) (w : World) (t x y : ℕ) → Beside s w → AllKnown s w → t < length s.topics → x < length s.clusters → (i : ℕ) (e : Entry) (n : List ℕ) (told : List ClusterPosition)
    → is_remote (site s t x) y ≡ true → slice_get (topic_at s w t x).entries i ≡ Some e → is_of y e ≡ true → e.content ≡ content.Marked (marker.Update n told) → InNames (sub_names s t) n
update_named s w t x y q all lt small i e n told far at of is =
    let small_y = ltb-true y (length s.clusters) (left (nat_lt y (length s.clusters)) (not (y == x)) far) in
    let other = right (nat_lt y (length s.clusters)) (not (y == x)) far in
    let pair : ArePair s y x = (small_y, small, λ same. apart (y == x) (eq-eqb y x same) other) in
    let source = of_source y x (topic_at s w t y).entries (topic_at s w t x).entries ((replicates_laws s w q.replicates).0 t y x pair) i e at of in
    (all t y (lt, small_y)).updates source.place e n told source.is of is
  where
    apart : (b : Bool) → b ≡ true → not b ≡ true → ⊥
    apart true h k = false≢true k
    apart false h k = false≢true h

shape_name : (s : Setup) (w : World) (q : Planned) → Beside s w → AllKnown s w → Shape s w q → Each (MayName (sub_names s q.topic)) q.plan.writes
unfolding restart
shape_name s w q k all (Shape.Idle t x within) = tt
shape_name s w q k all (Shape.Empty t x l within next) = tt
shape_name s w q k all (Shape.Serve x c p plan within next served) =
    served_name (sub_names s (declared_at s c).topic) _ _ c p plan
    (subscribe_named s c p.frame (each_at_place _ (link_at w.links (ToBroker c x)).sent (link_at w.links (ToBroker c x)).taken p ((k.meets c).up x) next).named) served
shape_name s w q k all (Shape.Drop x c v within at) = tt
shape_name s w q k all (Shape.Reset t x y within remote) = (tt, tt)
shape_name s w q k all (Shape.Read t x y plan within reads) =
    let r = in_pair s t x y within in reads_name (sub_names s t) _ _ y plan (update_named s w t x y k all r.0 r.1) reads
shape_name s w q k all (Shape.Take t x y p plan within next taken) =
    fated_name (sub_names s t) s.per_ledger _ (λ b. Taken (site s t y) b x p) (closes x) plan (λ b r taken. taken_name (sub_names s t) (site s t y) b x p r taken) tt taken
shape_name s w q k all (Shape.Receipt t x y p plan within next answered) =
    fated_name (sub_names s t) s.per_ledger _ (λ b. Answered b y p) (quiet_plan []) plan (λ b r answered. answered_name (sub_names s t) b y p r answered) tt answered
shape_name s w q k all (Shape.Snap t x plan within snaps) = snaps_name (sub_names s t) _ _ plan snaps
shape_name s w q k all (Shape.Offer t x n plan within offers) = offers_name (sub_names s t) _ _ _ plan offers
shape_name s w q k all (Shape.Seek t x n to plan within seeks) = seeks_name (sub_names s t) _ _ _ to plan seeks
shape_name s w q k all (Shape.Restart t x within) = (tt, tt)

-- ---- an event

any_cached : (b : Broker) → AllCached (λ (c : CachedSnapshot). Unit {0}) b.subs
any_cached b k v at j c is = tt

-- one topic after some writes and changes
grows_known : (s : Setup) (t x : ℕ) (b c : Broker) (ws : List Write) (cs : List Change) → Announcing (λ (c : CachedSnapshot). Unit {0}) (site s t x) b ws → Each (MayName (sub_names s t)) ws
    → c ≡ all_changed (all_written s.per_ledger b ws) cs → Known s t x b → Known s t x c
grows_known s t x b c ws cs announcing may is old = record {
  subs = subst (NamedIn (sub_names s t)) (sym is) (all_changed_names (sub_names s t) (all_written s.per_ledger b ws) cs named);
  updates = λ i e n told at of is'.
      elim (old_or_new b.entries (appended ws) i e (subst (λ (es : List Entry). slice_get es i ≡ Some e) whole at)) [
        | inl was ↦ old.updates i e n told was.1 of is'
        | inr new ↦
            let u = announced (λ (c : CachedSnapshot). Unit {0}) (site s t x) s.per_ledger b ws announcing (i - length b.entries) e n told new.1 of is' in
            subst (InNames (sub_names s t)) u.name (each_at_place (λ (v : Subscription). InNames (sub_names s t) v.name) (all_written s.per_ledger b ws).subs u.stands.place u.sub named u.stands.is)
      ];
}
  where
    named : NamedIn (sub_names s t) (all_written s.per_ledger b ws)
    named = all_written_names (sub_names s t) s.per_ledger b ws may old.subs

    whole : c.entries ≡ b.entries ++ appended ws
    whole = ap (λ (z : Broker). z.entries) is ∙ (all_changed_entries (all_written s.per_ledger b ws) cs ∙ (written_entries s.per_ledger b ws ∙ after_is b.entries ws))

planned_name : (s : Setup) (w : World) (t x : ℕ) (e : Event) (k : Option LinkName) (p : Plan) → Beside s w → AllKnown s w → planned s w e ≡ Some (at_node t x k p) → Each (MayName (sub_names s t)) p.writes
planned_name s w t x e k p q all is = shape_name s w (at_node t x k p) q all (subst (HasShape s w) is (planned_shape s w e))

planned_announcing : (s : Setup) (w : World) (t x : ℕ) (e : Event) (k : Option LinkName) (p : Plan) → Beside s w → planned s w e ≡ Some (at_node t x k p)
    → Announcing (λ (c : CachedSnapshot). Unit {0}) (site s t x) (topic_at s w t x) p.writes
planned_announcing s w t x e k p q is =
    shape_announcing s w (at_node t x k p) (λ (c : CachedSnapshot). Unit {0}) (subst (HasShape s w) is (planned_shape s w e)) q.none (any_cached (topic_at s w t x)) (λ c cached. tt)

event_known : (s : Setup) (w : World) (e : Event) → Beside s w → AllKnown s w → AllKnown s (happens s w e)
event_known s w e q all t x there = by (topic_at s (happens s w e) t x) (became s w e t x there.1)
  where
    by : (c : Broker) → Became s w e t x c → Known s t x c
    by _ Became.Same = all t x there
    by _ (Became.Did k p is) =
        grows_known s t x (topic_at s w t x) _ p.writes p.changes (planned_announcing s w t x e k p q is) (planned_name s w t x e k p q all is) refl (all t x there)

halt_known : (s : Setup) (w : World) (j : ℕ) (e : Event) → Beside s w → AllKnown s w → AllKnown s (halts_planned s w j (planned s w e))
halt_known s w j e q all t x there = by (topic_at s (halts_planned s w j (planned s w e)) t x) (halted_planned s w j e t x there.1 (planned s w e) refl (planned_shape s w e))
  where
    by : (c : Broker) → Halted s w j e t x c → Known s t x c
    by _ Halted.Same = all t x there
    by _ (Halted.Did k p is) =
        grows_known s t x (topic_at s w t x) _ (take j p.writes ++ write.Ledger ∷ []) (change.Forget ∷ [])
        (announcing_halt (λ (c : CachedSnapshot). Unit {0}) (site s t x) (topic_at s w t x) j p.writes (planned_announcing s w t x e k p q is))
        (each_both (MayName (sub_names s t)) (take j p.writes) (write.Ledger ∷ []) (each_take (MayName (sub_names s t)) j p.writes (planned_name s w t x e k p q all is)) (tt, tt)) refl (all t x there)

restarted_known : (s : Setup) (t x : ℕ) (b : Broker) → Known s t x b → Known s t x (done s.per_ledger b restart)
unfolding restart
restarted_known s t x b h = grows_known s t x b _ (write.Ledger ∷ []) (change.Forget ∷ []) (Announcing.Silent _ (tt, tt)) (tt, tt) refl h

stop_known : (s : Setup) (w : World) → Beside s w → AllKnown s w → AllKnown s (stops s w)
stop_known s w q all t x there =
    subst (Known s t x) (sym (stopped_is s w t x (node_there s w t x q.replicates.sized there))) (restarted_known s t x (topic_at s w t x) (all t x there))

opening_known : (s : Setup) → AllKnown s (opening_world s)
opening_known s t x there =
    let n = length s.clusters in
    subst (Known s t x) (sym (get_or-replicate (length s.topics * n) (node s t x) (new_broker n (length s.clients)) no_broker (node_lt s t x there)))
    (record { subs = tt; updates = λ i e m told at. absurd (none-some e at) })

beside : (s : Setup) → IsScripted s → (w : World) → ReachedFrom s (opening_world s) w → Beside s w
beside s scripted w r =
    let h = tracing_at s scripted w r in
    record { replicates = h.0.0.0.0.0.0.0; none = h.0.0.0.0.0.0.1; meets = λ c. reached_has s (MeetsAll s c) (meets_on s c) (opening_world s) w (opening_meets s c) r }

known_there : (s : Setup) → IsScripted s → (w : World) → ReachedFrom s (opening_world s) w → AllKnown s w
known_there s scripted _ ReachedFrom.Starting = opening_known s
known_there s scripted _ (ReachedFrom.AfterEvent w e r) = event_known s w e (beside s scripted w r) (known_there s scripted w r)
known_there s scripted _ (ReachedFrom.AfterHalt w k e r) = halt_known s w k e (beside s scripted w r) (known_there s scripted w r)
known_there s scripted _ (ReachedFrom.AfterStop w r) = stop_known s w (beside s scripted w r) (known_there s scripted w r)
known_there s scripted _ (ReachedFrom.Idling w n r) = known_there s scripted w r
known_there s scripted _ (ReachedFrom.AfterRound w n r) = known_there s scripted w r

-- ---- so there is room

name_there : (ns : List (List ℕ)) (k : ℕ) → k < length ns → InNames ns (slice_index_or ns k [])
name_there [] k lt = absurd (omega (arith, lt))
name_there (n ∷ ns) zero lt = ap (λ (b : Bool). b || list_any (λ m. bytes_eq m n) ns) ((bytes_eq-Decides n n).1 refl)
name_there (n ∷ ns) (suc k) lt = by (bytes_eq n (slice_index_or ns k [])) (name_there ns k (omega (arith, lt)))
  where
    by : (b : Bool) → InNames ns (slice_index_or ns k []) → (b || list_any (λ m. bytes_eq m (slice_index_or ns k [])) ns) ≡ true
    by true h = refl
    by false h = h

room_named : (s : Setup) → IsScripted s → (w : World) → ReachedFrom s (opening_world s) w → (t y : ℕ) (n : List ℕ) → t < length s.topics → y < length s.clusters → InNames (sub_names s t) n
    → has_room (topic_at s w t y) n ≡ true
room_named s scripted w r t y n lt small known =
    let b = topic_at s w t y in
    by (sub_named b.subs n) refl
    (λ none.
    let few = few_names b.subs (sub_names s t) n (kept_there s Remembering (remembering_kept s) w r (node s t y)).apart (known_there s scripted w r t y (lt, small)).subs known none in
    let most = (scripted.of_a_topic t).1 in omega (arith, few, most))
  where
    by : (o : Option Subscription) → sub_named (topic_at s w t y).subs n ≡ o → (o ≡ None → length (topic_at s w t y).subs < most_subs)
        → (is_some o || nat_lt (length (topic_at s w t y).subs) most_subs) ≡ true
    by None is few = lt-ltb (length (topic_at s w t y).subs) most_subs (few refl)
    by (Some v) is few = refl

pub room_law : LawRoom
room_law s scripted w r = record {
  named = λ t y num lt small known. room_named s scripted w r t y (sub_name s t num) lt small (name_there (sub_names s t) num known);
  reads = λ t y a n told q.
      let far = q.update in
      room_named s scripted w r t y n q.topic q.pair.0
      (update_named s w t y a (beside s scripted w r) (known_there s scripted w r) q.topic q.pair.0 q.index far.entry n told (away s t y a q.pair) far.stands (eq-eqb far.entry.ident.origin a far.origin) far.is);
}
  where
    away : (s : Setup) (t y a : ℕ) → ArePair s y a → is_remote (site s t y) a ≡ true
    away s t y a pair = both (nat_lt a (length s.clusters)) (not (a == y)) (lt-ltb a (length s.clusters) pair.1) (by (a == y) refl)
      where
        by : (b : Bool) → (a == y) ≡ b → not b ≡ true
        by true e = absurd (pair.2 (sym (eqb-true a y e)))
        by false e = refl

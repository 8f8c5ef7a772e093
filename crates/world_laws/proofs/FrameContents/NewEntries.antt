-- What an event appends: an entry that came in the packet that it takes, which was judged small enough, or an own marker of one of
-- the four kinds.
use Rattle.std.proofs.Common.{◌≡◌, ℕ, ◌<◌, ◌≤◌, true, List, [], ◌∷◌, length, sym, subst, ◌∙◌, arith}
use Rattle.std.specs.Prelude.{Option, Some, None, ◌&&◌, ◌==◌, nat_le, slice_get, is_none}
use Rattle.std.specs.Str.{bytes_eq}
use Rattle.std.proofs.lemmas.Bool.{leb-true, ltb-true}
use Rattle.world_laws.proofs.Types.{SnapshotBuilder, ClusterPosition, Entry, Frame, Marker, Packet, ClusterRef, Position, Progress, Targets, Write}
use Rattle.world_laws.proofs.Types.content
use Rattle.world_laws.proofs.Types.frame
use Rattle.world_laws.proofs.Types.marker
use Rattle.world_laws.proofs.Types.progress
use Rattle.world_laws.proofs.Types.write
use Rattle.geo_base.specs.Broker.{Broker, Site, cluster_name}
use Rattle.geo_base.specs.SnapshotBuilder.{current_id, snapshot_id}
use Rattle.geo_base.specs.Cursor.{mark}
use Rattle.geo_base.specs.Entry.{is_data, with_origin}
use Rattle.geo_base.specs.Forwarding.{closes}
use Rattle.geo_base.specs.Plan.{Plan, quiet_plan}
use Rattle.geo_base.specs.Planned.{Planned}
use Rattle.geo_base.specs.Producing.{is_sound}
use Rattle.geo_base.specs.Receiver.{is_from}
use Rattle.geo_base.specs.Seeking.{restart}
use Rattle.geo_base.specs.Setup.{Setup, declared_at}
use Rattle.geo_base.specs.Sizes.{entry_size, most_entry_size}
use Rattle.geo_base.specs.Storing.{own_marker}
use Rattle.geo_base.specs.Subscription.{Subscription}
use Rattle.geo_base.specs.Topic.{next_position}
use Rattle.geo_base.specs.World.{Back, Forward, ToBroker, World, node, packet_at, site, topic_at}
use Rattle.world_laws.proofs.TopicOrder.Added.{appended}
use Rattle.world_laws.proofs.Snapshotting.Asked.{named}
use Rattle.world_laws.proofs.Snapshotting.Caches.{Cached, cached_all}
use Rattle.world_laws.proofs.Replicating.Effects.{Each, each_both, each_map}
use Rattle.world_laws.proofs.Walks.EventWalk.{of_node, of_pair, of_target}
use Rattle.world_laws.proofs.Snapshotting.Ids.{IsSmall, id_short, second_short}
use Rattle.world_laws.proofs.FrameContents.OwnSizes.{AreShort, IsOwn}
use Rattle.world_laws.proofs.Walks.Shapes.{Answered, Fated, Hears, Offers, Reads, Seeks, Served, Shape, Snaps, Taken, Updates, may_store}
use Rattle.world_laws.proofs.Dispatching.SubFrames.{found_is}
use Rattle.world_laws.proofs.Walks.Walk.{on_if, right}
use Rattle.world_laws.proofs.FrameContents.Widths.{Named, Wide, WideAt, found_cached, hears_same, last_wide, snapshot_wide}

-- small enough to be stored
abbrev pub IsFit : List (List ℕ) → Entry → Type 0
IsFit names e = entry_size names e ≤ most_entry_size

-- where C is what the packet carries, and ids are short where B holds
pub data NewEntry (B : Type 0) (h : Site) (C : Entry → Type 0) : Entry → Type 0 where
  Carried : (e : Entry) (z : ℕ) → z < length h.clusters → C e → IsFit h.clusters e → NewEntry B h C (with_origin z e)
  Own : (b : Broker) (m : Marker) (to : Targets) (names : List (List ℕ)) → IsOwn B h m to names → NewEntry B h C (own_marker h b m to names)

abbrev pub NewWrite : Type 0 → Site → (Entry → Type 0) → Write → Type 0
NewWrite B h C (write.Append e) = NewEntry B h C e
NewWrite B h C w = Unit {0}

-- the entry of a SEND
abbrev pub Carries : Frame → Entry → Type 0
Carries f e = (id : ℕ) × (seq : ℕ) × (source : Option ClusterRef) × (f ≡ frame.Send id seq source e)

-- what a broker makes its markers of: names of subscriptions, cuts that have a place for each cluster, and, where B holds, short ids
pub record Brief (B : Type 0) (h : Site) (b : Broker) : Type 0 where
  pub own : h.own < length h.clusters
  pub names : AreShort h.clusters
  pub wide : WideAt (length h.clusters) b
  pub next : B → IsSmall (next_position h.per_ledger b.ledgers)
  pub made : B → (u : SnapshotBuilder) → b.builder ≡ Some u → length u.id ≤ 58
  pub asked : B → (i : ℕ) (e : Entry) (id : List ℕ) (source : ClusterRef) → slice_get b.entries i ≡ Some e → e.content ≡ content.Marked (marker.Request id source) → length id ≤ 60

current_short : (u : SnapshotBuilder) → length u.id ≤ 58 → length (current_id u) ≤ 60
current_short u h = on_if (λ (id : List ℕ). length id ≤ 60) u.second _ _ (let l = second_short u.id in omega (arith, h, l)) (omega (arith, h))

updates_new : (B : Type 0) (h : Site) (C : Entry → Type 0) (b : Broker) (v : Subscription) (ws : List Write) → Brief B h b → Named v → Cached (Wide (length h.clusters)) v → Updates h b v ws → Each (NewWrite B h C) ws
updates_new B h C b v ws f name wide Updates.NoUpdate = tt
updates_new B h C b v ws f name wide (Updates.Update cut replicated passed) =
    (NewEntry.Own b _ _ _ (IsOwn.Update v.name cut name (last_wide (length h.clusters) (mark v.cursor) v.cache cut wide passed)), tt)

-- what a test on a message says of its size
sound_fits : (h : Site) (n : List ℕ) (seq : ℕ) (source : Option ClusterRef) (e : Entry) → is_sound h n seq source e ≡ true → IsFit h.clusters e
sound_fits h n seq source e sound =
    leb-true (entry_size h.clusters e) most_entry_size
    (right (bytes_eq n e.ident.producer && (seq == e.ident.seq) && is_none source && is_data e.content) (nat_le (entry_size h.clusters e) most_entry_size) sound)

stored_fits : (h : Site) (x id seq : ℕ) (source : Option ClusterRef) (e : Entry) (f : Frame) → f ≡ frame.Send id seq source e → may_store h x f ≡ true → IsFit h.clusters e
stored_fits h x id seq source e f is may =
    leb-true (entry_size h.clusters e) most_entry_size
    (right (is_from x source) (nat_le (entry_size h.clusters e) most_entry_size) (subst (λ (g : Frame). may_store h x g ≡ true) is may))

pub served_new : (B : Type 0) (h : Site) (b : Broker) (c : ℕ) (p : Packet) (q : Plan) → Brief B h b → Served h b c p q → Each (NewWrite B h (Carries p.frame)) q.writes
served_new B h b c p q f Served.Ignores = tt
served_new B h b c p q f Served.Disconnects = tt
served_new B h b c p q f (Served.Connects s is new) = tt
served_new B h b c p q f (Served.Answers s g at) = tt
served_new B h b c p q f (Served.ChangesProducers s ps g at) = tt
served_new B h b c p q f (Served.Stores s id seq source e at sound new) = (NewEntry.Carried e h.own f.own (id, seq, source, sound.0) (sound_fits h sound.1.0 seq source e sound.1.2), tt)
served_new B h b c p q f (Served.Repeats s id seq source e at sound old) = tt
served_new B h b c p q f (Served.Creates s topic n kind id request consumer earliest replicated at is may named) = (tt, tt)
served_new B h b c p q f (Served.Joins s topic n kind id request consumer earliest replicated v at is may named free same) = tt
served_new B h b c p q f (Served.Alters s topic n kind id request consumer earliest replicated v at is may named free other) = (tt, tt)
served_new B h b c p q f (Served.Permits s id permits v at is by) = tt
served_new B h b c p q f (Served.Acknowledges s id kind ps v i is ws at sent by of after) =
    (tt, updates_new B h (Carries p.frame) b _ ws f (found_is Named _ b.subs v by f.wide.names).0 (found_cached (Wide (length h.clusters)) _ b.subs v by f.wide.caches) after)
served_new B h b c p q f (Served.Unsubscribes s id request v at is by last) = (tt, tt)
served_new B h b c p q f (Served.ClosesConsumer s id request v at is by) = tt

pub taken_new : (B : Type 0) (h : Site) (b : Broker) (x : ℕ) (p : Packet) (q : Plan) → x < length h.clusters → Taken h b x p q → Each (NewWrite B h (Carries p.frame)) q.writes
taken_new B h b x p q lt (Taken.Stores id seq source e is at may new) = (NewEntry.Carried e x lt (id, seq, source, is) (stored_fits h x id seq source e p.frame is may), tt)
taken_new B h b x p q lt (Taken.Unreadable is) = tt
taken_new B h b x p q lt (Taken.Opens topic id request name is opening) = tt
taken_new B h b x p q lt (Taken.Discards other shut) = tt
taken_new B h b x p q lt (Taken.Refuses other at may) = tt
taken_new B h b x p q lt (Taken.Repeats id seq source e is at may old) = tt

pub answered_new : (F : Write → Type 0) → ((z i : ℕ) → F (write.ReplicatorAck z i)) → (b : Broker) (y : ℕ) (p : Packet) (q : Plan) → Answered b y p q → Each F q.writes
answered_new F acks b y p q (Answered.Stale other) = tt
answered_new F acks b y p q (Answered.Other at other) = tt
answered_new F acks b y p q (Answered.Opened request name at is state) = tt
answered_new F acks b y p q (Answered.OpenBefore request name at is state) = tt
answered_new F acks b y p q (Answered.ClosedBefore request name at is state) = tt
answered_new F acks b y p q (Answered.Received id n i position at is pending) = (acks y i, tt)
answered_new F acks b y p q (Answered.ReceivedBefore id n position at is pending) = tt

pub fated_new : (F : Write → Type 0) (per : ℕ) (b : Broker) (Acts : Broker → Plan → Type 0) (lost q : Plan) → ((c : Broker) (r : Plan) → Acts c r → Each F r.writes)
    → Each F lost.writes → Fated per b Acts lost q → Each F q.writes
fated_new F per b Acts lost q acts none (Fated.Once r t) = acts b r t
fated_new F per b Acts lost q acts none Fated.Lost = none
fated_new F per b Acts lost q acts none (Fated.Twice r r' t t') = each_both F r.writes r'.writes (acts b r t) (acts _ r' t')

-- the id of a builder that goes on
goes_on_short : (b : Broker) (y i : ℕ) (id : List ℕ) (answer : ClusterPosition) (u : SnapshotBuilder) (g : Progress) (u' : SnapshotBuilder) → Hears b y i id answer u g u' → length u.id ≤ 58 → length u'.id ≤ 58
goes_on_short b y i id answer u g u' heard h = subst (λ (id : List ℕ). length id ≤ 58) (sym (hears_same b y i id answer u g u' heard).id) h

goes_on_wide : (B : Type 0) (h : Site) (b : Broker) (y i : ℕ) (id : List ℕ) (answer : ClusterPosition) (u : SnapshotBuilder) (g : Progress) (u' : SnapshotBuilder) → Brief B h b → b.builder ≡ Some u
    → Hears b y i id answer u g u' → length u'.cut.remote ≡ length h.clusters
goes_on_wide B h b y i id answer u g u' f is heard = (hears_same b y i id answer u g u' heard).places ∙ f.wide.builder u is

pub reads_new : (B : Type 0) (h : Site) (C : Entry → Type 0) (b : Broker) (y : ℕ) (q : Plan) → y < length h.clusters → Brief B h b → Reads h b y q → Each (NewWrite B h C) q.writes
reads_new B h C b y q lt f Reads.NothingToRead = tt
reads_new B h C b y q lt f (Reads.Forwards i e next out) = tt
reads_new B h C b y q lt f (Reads.Skips i e next other) = (tt, tt)
reads_new B h C b y q lt f (Reads.Responds i e id source next of is) =
    (NewEntry.Own b _ _ _ (IsOwn.Response id y _ (λ t. f.asked t i e id source next.2 is) lt), (tt, tt))
reads_new B h C b y q lt f (Reads.Counts i e id answer u u' next is heard) = (tt, tt)
reads_new B h C b y q lt f (Reads.AsksAgain i e id answer u u' next is heard) =
    (NewEntry.Own b _ _ _ (IsOwn.Request (current_id u') (λ t. current_short u' (goes_on_short b y i id answer u progress.SecondRound u' heard (f.made t u is.2)))), (tt, tt))
reads_new B h C b y q lt f (Reads.Completes i e id answer u u' next is heard) = (
  NewEntry.Own b _ _ _
      (IsOwn.Snapshot u'.id u'.cut (λ t. let l = goes_on_short b y i id answer u progress.Done u' heard (f.made t u is.2) in omega (arith, l)) (goes_on_wide B h b y i id answer u progress.Done u' f is.2 heard)),
  (tt, tt),
)
reads_new B h C b y q lt f (Reads.CreatesAt i j e n remote next is named) = (tt, (tt, (tt, tt)))
reads_new B h C b y q lt f (Reads.ActsOnUpdate i j e n remote v ws next is named after) =
    let F = NewWrite B h C in (
      tt,
      each_both F ws (write.ReplicatorAck y i ∷ [])
          (updates_new B h C b _ ws f (found_is Named _ b.subs v named f.wide.names).0 (found_cached (Wide (length h.clusters)) _ b.subs v named f.wide.caches) after) (tt, tt),
    )

pub snaps_new : (B : Type 0) (h : Site) (C : Entry → Type 0) (b : Broker) (q : Plan) → Brief B h b → Snaps h b q → Each (NewWrite B h C) q.writes
snaps_new B h C b q f Snaps.NothingToAsk = tt
snaps_new B h C b q f (Snaps.Asks any none) =
    let p = next_position h.per_ledger b.ledgers in
    (NewEntry.Own b _ _ _ (IsOwn.Request (snapshot_id (cluster_name h h.own) p) (λ t. let l = id_short (cluster_name h h.own) p (f.names h.own) (f.next t) in omega (arith, l))), tt)

pub offers_new : (B : Type 0) (h : Site) (C : Entry → Type 0) (b : Broker) (n : List ℕ) (q : Plan) → Brief B h b → Offers h b n q → Each (NewWrite B h C) q.writes
offers_new B h C b n q f Offers.NothingToOffer = tt
offers_new B h C b n q f (Offers.Gives v i at e due is picked) = tt
offers_new B h C b n q f (Offers.SkipsMarker v i e ws due is after) =
    (tt, updates_new B h C b _ ws f (found_is Named _ b.subs v due.0 f.wide.names).0 (found_cached (Wide (length h.clusters)) _ b.subs v due.0 f.wide.caches) after)
offers_new B h C b n q f (Offers.Caches v i j e c ws due is after) =
    let W = Wide (length h.clusters) in (
      tt,
      updates_new B h C b _ ws f (found_is Named _ b.subs v due.0 f.wide.names).0
          (cached_all W v.cache c (found_cached W _ b.subs v due.0 f.wide.caches) (snapshot_wide h b v e j c is)) after,
    )

pub seeks_new : (B : Type 0) (h : Site) (C : Entry → Type 0) (b : Broker) (n : List ℕ) (to : Option Position) (q : Plan) → Brief B h b → Seeks h b n to q → Each (NewWrite B h C) q.writes
seeks_new B h C b n to q f Seeks.NothingToSeek = tt
seeks_new B h C b n to q f (Seeks.SeeksTo v i ws named at after) =
    (tt, updates_new B h C b _ ws f (found_is Named _ b.subs v named f.wide.names).0 (found_cached (Wide (length h.clusters)) _ b.subs v named f.wide.caches) after)

-- what the packet that an event takes carries
abbrev pub TakenEntry : World → Planned → Entry → Type 0
TakenEntry w p e = (q : Packet) × (packet_at w.links p.takes ≡ Some q) × Carries q.frame e

-- it carries what the packet that was found carries
new_more : (B : Type 0) (h : Site) (C D : Entry → Type 0) → ((e : Entry) → C e → D e) → (e : Entry) → NewEntry B h C e → NewEntry B h D e
new_more B h C D f e (NewEntry.Carried a z lt c fit) = NewEntry.Carried a z lt (f a c) fit
new_more B h C D f e (NewEntry.Own b m to names own) = NewEntry.Own b m to names own

pub write_more : (B : Type 0) (h : Site) (C D : Entry → Type 0) → ((e : Entry) → C e → D e) → (w : Write) → NewWrite B h C w → NewWrite B h D w
write_more B h C D f (write.Append e) n = new_more B h C D f e n
write_more B h C D f w n = tt

taken_more : (B : Type 0) (h : Site) (w : World) (p : Planned) (q : Packet) (ws : List Write) → packet_at w.links p.takes ≡ Some q → Each (NewWrite B h (Carries q.frame)) ws
    → Each (NewWrite B h (TakenEntry w p)) ws
taken_more B h w p q ws at each =
    each_map (NewWrite B h (Carries q.frame)) (NewWrite B h (TakenEntry w p)) (write_more B h (Carries q.frame) (TakenEntry w p) (λ e c. (q, at, c))) ws each

pub shape_new : (B : Type 0) (s : Setup) (w : World) (p : Planned) → Shape s w p → Brief B (site s p.topic p.cluster) (topic_at s w p.topic p.cluster)
    → Each (NewWrite B (site s p.topic p.cluster) (TakenEntry w p)) p.plan.writes
unfolding restart
shape_new B s w p (Shape.Idle t x within) f = tt
shape_new B s w p (Shape.Empty t x k within next) f = tt
shape_new B s w p (Shape.Serve x c q plan within next served) f =
    let h = site s (declared_at s c).topic x in
    taken_more B h w (record { topic = (declared_at s c).topic; cluster = x; takes = Some (ToBroker c x); plan = plan }) q plan.writes next (served_new B h _ c q plan f served)
shape_new B s w p (Shape.Drop x c v within at) f = tt
shape_new B s w p (Shape.Reset t x y within remote) f = (tt, tt)
shape_new B s w p (Shape.Read t x y plan within reads) f = reads_new B (site s t x) (TakenEntry w (record { topic = t; cluster = x; takes = None; plan = plan })) _ y plan (ltb-true _ _ (of_target s t x y within)) f reads
shape_new B s w p (Shape.Take t x y q plan within next taken) f =
    let h = site s t y in
    taken_more B h w (record { topic = t; cluster = y; takes = Some (Forward (node s t x) y); plan = plan }) q plan.writes next
    (fated_new (NewWrite B h (Carries q.frame)) s.per_ledger _ _ (closes x) plan (λ c r k. taken_new B h c x q r (ltb-true _ _ (of_node s t x (of_pair s t x y within))) k) tt taken)
shape_new B s w p (Shape.Receipt t x y q plan within next answered) f =
    let F = NewWrite B (site s t x) (TakenEntry w (record { topic = t; cluster = x; takes = Some (Back (node s t x) y); plan = plan })) in
    fated_new F s.per_ledger _ _ (quiet_plan []) plan (λ c r k. answered_new F (λ z i. tt) c y q r k) tt answered
shape_new B s w p (Shape.Snap t x plan within snaps) f = snaps_new B (site s t x) (TakenEntry w (record { topic = t; cluster = x; takes = None; plan = plan })) _ plan f snaps
shape_new B s w p (Shape.Offer t x n plan within offers) f = offers_new B (site s t x) (TakenEntry w (record { topic = t; cluster = x; takes = None; plan = plan })) _ _ plan f offers
shape_new B s w p (Shape.Seek t x n to plan within seeks) f = seeks_new B (site s t x) (TakenEntry w (record { topic = t; cluster = x; takes = None; plan = plan })) _ _ to plan f seeks
shape_new B s w p (Shape.Restart t x within) f = (tt, tt)

-- a fact of all new entries is one of all that are appended
pub all_appended : (B : Type 0) (h : Site) (C E : Entry → Type 0) → ((e : Entry) → NewEntry B h C e → E e) → (ws : List Write) → Each (NewWrite B h C) ws → Each E (appended ws)
all_appended B h C E f [] k = tt
all_appended B h C E f (write.Append e ∷ ws) k = (f e k.0, all_appended B h C E f ws k.1)
all_appended B h C E f (write.Create n kind replicated latest ∷ ws) k = all_appended B h C E f ws k.1
all_appended B h C E f (write.Alter n kind replicated ∷ ws) k = all_appended B h C E f ws k.1
all_appended B h C E f (write.Delete n ∷ ws) k = all_appended B h C E f ws k.1
all_appended B h C E f (write.Acks n is ∷ ws) k = all_appended B h C E f ws k.1
all_appended B h C E f (write.Seek n i ∷ ws) k = all_appended B h C E f ws k.1
all_appended B h C E f (write.ReplicatorAck y i ∷ ws) k = all_appended B h C E f ws k.1
all_appended B h C E f (write.SessionNumber y n ∷ ws) k = all_appended B h C E f ws k.1
all_appended B h C E f (write.Ledger ∷ ws) k = all_appended B h C E f ws k.1

-- What an event of a broker writes, keeps and sends can be written, where what it stores can.
use Rattle.std.proofs.Common.{◌≡◌, ℕ, zero, suc, ◌-◌, ◌^◌, ◌<◌, List, [], ◌∷◌, length, map, sym, subst, arith}
use Rattle.std.specs.Prelude.{Option, Some, None, drop, if◌then◌else◌, is_some, nat_lt, not, slice_get}
use Rattle.std.specs.Str.{bytes_eq}
use Rattle.world_laws.proofs.Types.{SnapshotBuilder, CachedSnapshot, Change, ClusterPosition, Entry, Frame, Out, Packet, Position, Progress, Write}
use Rattle.world_laws.proofs.Types.change
use Rattle.world_laws.proofs.Types.content
use Rattle.world_laws.proofs.Types.frame
use Rattle.world_laws.proofs.Types.marker
use Rattle.world_laws.proofs.Types.progress
use Rattle.world_laws.proofs.Types.write
use Rattle.geo_base.specs.Broker.{Broker, Site, changed, cluster_name, sub_named, written}
use Rattle.geo_base.specs.Cache.{any_passed, cached, most_cached, not_passed}
use Rattle.geo_base.specs.Cursor.{below, mark}
use Rattle.geo_base.specs.Dispatcher.{given, skipped_index}
use Rattle.geo_base.specs.Forwarding.{closes}
use Rattle.geo_base.specs.Plan.{Plan, all_changed, all_written, done, quiet_plan}
use Rattle.geo_base.specs.Planned.{Planned}
use Rattle.geo_base.specs.Seeking.{restart}
use Rattle.geo_base.specs.Setup.{Setup, declared_at}
use Rattle.geo_base.specs.Subscription.{Subscription, after_acks, attached, cleared, detached, new_subscription, permitted, sought, with_acks}
use Rattle.geo_base.specs.Topic.{next_marker, next_position, position_at}
use Rattle.geo_base.specs.World.{World, packet_at, site, topic_at}
use Rattle.world_laws.proofs.Replicating.Effects.{Each, each_both}
use Rattle.world_laws.proofs.Snapshotting.Ids.{IsSmall}
use Rattle.world_laws.proofs.Merges.PeerWalk.{each_filter}
use Rattle.world_laws.proofs.Walks.Shapes.{Answered, Fated, Hears, IsReply, IsSnapshot, Offers, Reads, Seeks, Served, Shape, Snaps, Taken, Updates}
use Rattle.world_laws.proofs.Dispatching.SubFrames.{at_name, each_at_place, each_to, found_is}
use Rattle.world_laws.proofs.Walks.Walk.{on_if}
use Rattle.world_laws.proofs.FrameContents.Widths.{Named}
use Rattle.kept_laws.proofs.Ascii.{AreLow, id_low, name_low}
use Rattle.kept_laws.proofs.Sayable.{IsSayable, IsSayableBuilder, IsSayableCached, IsSayableFrame, content_of, current_low, cut_named, cut_sayable, frame_of, hears_sayable, last_sayable, moved, own_sayable, started_sayable}
use Rattle.geo_base.proofs.Lists.{get_below}

-- ---- a broker

abbrev pub HasSayable : Subscription → Type 0
HasSayable v = Each IsSayableCached v.cache

abbrev pub BuilderSays : Option SnapshotBuilder → Type 0
BuilderSays None = Unit {0}
BuilderSays (Some u) = IsSayableBuilder u

pub record Says (b : Broker) : Type 0 where
  pub stored : Each IsSayable b.entries
  pub builder : BuilderSays b.builder
  pub caches : Each HasSayable b.subs

-- what it makes its markers of
pub record Ready (h : Site) (b : Broker) : Type 0 where
  pub says : Says b
  pub names : Each Named b.subs
  pub places : (i : ℕ) → i < length b.entries → IsSmall (position_at b.ledgers i)
  pub next : IsSmall (next_position h.per_ledger b.ledgers)
  pub number : next_marker h.own b.entries < 2 ^ 64
  pub clusters : (x : ℕ) → AreLow (cluster_name h x)

abbrev pub WritesSayable : Write → Type 0
WritesSayable (write.Append e) = IsSayable e
WritesSayable w = Unit {0}

abbrev pub ChangesSayable : Change → Type 0
ChangesSayable (change.Building o) = BuilderSays o
ChangesSayable (change.Cache n c) = IsSayableCached c
ChangesSayable c = Unit {0}

abbrev pub SendsSayable : Out → Type 0
SendsSayable o = IsSayableFrame o.frame

pub record IsSayablePlan (q : Plan) : Type 0 where
  pub writes : Each WritesSayable q.writes
  pub changes : Each ChangesSayable q.changes
  pub sent : Each SendsSayable q.sent

-- ---- after writes and changes

named_says : (n : List ℕ) (f : Subscription → Subscription) → ((v : Subscription) → HasSayable v → HasSayable (f v)) → (v : Subscription) → HasSayable v → HasSayable (at_name n f v)
named_says n f k v h = on_if HasSayable (bytes_eq v.name n) (f v) v (k v h) h

at_subs : (b : Broker) (n : List ℕ) (f : Subscription → Subscription) → ((v : Subscription) → HasSayable v → HasSayable (f v)) → Each HasSayable b.subs → Each HasSayable (map (at_name n f) b.subs)
at_subs b n f k h = each_to HasSayable HasSayable (at_name n f) (named_says n f k) b.subs h

pub written_says : (per : ℕ) (b : Broker) (w : Write) → WritesSayable w → Says b → Says (written per b w)
written_says per b (write.Append e) k h = record { stored = each_both IsSayable b.entries (e ∷ []) h.stored (k, tt); builder = h.builder; caches = h.caches }
written_says per b (write.Create n kind replicated latest) k h =
    on_if Says (is_some (sub_named b.subs n)) b _ h
    (record { stored = h.stored; builder = h.builder; caches = each_both HasSayable b.subs (new_subscription n kind replicated (if latest then below (length b.entries) else []) ∷ []) h.caches (tt, tt) })
written_says per b (write.Alter n kind replicated) k h =
    record { stored = h.stored; builder = h.builder; caches = at_subs b n (λ s. record s { kind = kind; replicated = replicated }) (λ v p. p) h.caches }
written_says per b (write.Delete n) k h = record { stored = h.stored; builder = h.builder; caches = each_filter HasSayable (λ (s : Subscription). not (bytes_eq s.name n)) b.subs h.caches }
written_says per b (write.Acks n is) k h = record { stored = h.stored; builder = h.builder; caches = at_subs b n (with_acks is) (λ v p. p) h.caches }
written_says per b (write.Seek n i) k h = record { stored = h.stored; builder = h.builder; caches = at_subs b n (sought i) (λ v p. p) h.caches }
written_says per b (write.ReplicatorAck y i) k h = record { stored = h.stored; builder = h.builder; caches = h.caches }
written_says per b (write.SessionNumber y n) k h = record { stored = h.stored; builder = h.builder; caches = h.caches }
written_says per b write.Ledger k h = record { stored = h.stored; builder = h.builder; caches = h.caches }

each_behind : {X : Type 0} (P : X → Type 0) (n : ℕ) (xs : List X) → Each P xs → Each P (drop n xs)
each_behind P zero xs h = h
each_behind P (suc n) [] h = tt
each_behind P (suc n) (x ∷ xs) h = each_behind P n xs h.1

cached_says : (cs : List CachedSnapshot) (c : CachedSnapshot) → IsSayableCached c → Each IsSayableCached cs → Each IsSayableCached (cached cs c)
cached_says cs c k h =
    on_if (Each IsSayableCached) (nat_lt (length cs) most_cached) _ _ (each_both IsSayableCached cs (c ∷ []) h (k, tt)) (each_both IsSayableCached (drop 1 cs) (c ∷ []) (each_behind IsSayableCached 1 cs h) (k, tt))

left_says : (m : ℕ) (cs : List CachedSnapshot) → Each IsSayableCached cs → Each IsSayableCached (not_passed m cs)
left_says m [] h = tt
left_says m (c ∷ cs) h = on_if (Each IsSayableCached) (any_passed m (c ∷ cs)) _ _ (left_says m cs h.1) h

acked_says : (v : Subscription) → HasSayable v → HasSayable (after_acks v)
acked_says v h = on_if (Each IsSayableCached) v.replicated _ v.cache (left_says (mark v.cursor) v.cache h) h

pub changed_says : (b : Broker) (c : Change) → ChangesSayable c → Says b → Says (changed b c)
changed_says b (change.Attach n p) k h = record { stored = h.stored; builder = h.builder; caches = at_subs b n (attached p) (λ v p. p) h.caches }
changed_says b (change.Detach c) k h = record { stored = h.stored; builder = h.builder; caches = each_to HasSayable HasSayable (detached c) (λ v p. p) b.subs h.caches }
changed_says b (change.Permit n c permits) k h = record { stored = h.stored; builder = h.builder; caches = at_subs b n (permitted c permits) (λ v p. p) h.caches }
changed_says b (change.Skipped n i) k h = record { stored = h.stored; builder = h.builder; caches = at_subs b n (skipped_index i) (λ v p. p) h.caches }
changed_says b (change.Given n i at) k h = record { stored = h.stored; builder = h.builder; caches = at_subs b n (given i at) (λ v p. p) h.caches }
changed_says b (change.Cache n c) k h = record { stored = h.stored; builder = h.builder; caches = at_subs b n (λ s. record s { cache = cached s.cache c }) (λ v p. cached_says v.cache c k p) h.caches }
changed_says b (change.Acked n) k h = record { stored = h.stored; builder = h.builder; caches = at_subs b n after_acks acked_says h.caches }
changed_says b (change.Cleared n) k h = record { stored = h.stored; builder = h.builder; caches = at_subs b n cleared (λ v p. tt) h.caches }
changed_says b (change.Building o) k h = record { stored = h.stored; builder = k; caches = h.caches }
changed_says b change.Forget k h = record { stored = h.stored; builder = tt; caches = each_to HasSayable HasSayable cleared (λ v p. tt) b.subs h.caches }
changed_says b (change.Receiver x r) k h = record { stored = h.stored; builder = h.builder; caches = h.caches }
changed_says b (change.Client c r) k h = record { stored = h.stored; builder = h.builder; caches = h.caches }
changed_says b (change.Opening y) k h = record { stored = h.stored; builder = h.builder; caches = h.caches }
changed_says b (change.Opened y) k h = record { stored = h.stored; builder = h.builder; caches = h.caches }
changed_says b (change.Pend y i) k h = record { stored = h.stored; builder = h.builder; caches = h.caches }
changed_says b (change.ReadTo y i) k h = record { stored = h.stored; builder = h.builder; caches = h.caches }
changed_says b (change.Unpend y n) k h = record { stored = h.stored; builder = h.builder; caches = h.caches }

pub all_written_says : (per : ℕ) (b : Broker) (ws : List Write) → Each WritesSayable ws → Says b → Says (all_written per b ws)
all_written_says per b [] k h = h
all_written_says per b (w ∷ ws) k h = all_written_says per (written per b w) ws k.1 (written_says per b w k.0 h)

pub all_changed_says : (b : Broker) (cs : List Change) → Each ChangesSayable cs → Says b → Says (all_changed b cs)
all_changed_says b [] k h = h
all_changed_says b (c ∷ cs) k h = all_changed_says (changed b c) cs k.1 (changed_says b c k.0 h)

pub done_says : (per : ℕ) (b : Broker) (q : Plan) → IsSayablePlan q → Says b → Says (done per b q)
done_says per b q k h = all_changed_says (all_written per b q.writes) q.changes k.changes (all_written_says per b q.writes k.writes h)

-- ---- what an event does

stored_at : (b : Broker) (i : ℕ) (e : Entry) → Says b → slice_get b.entries i ≡ Some e → IsSayable e
stored_at b i e h at = each_at_place IsSayable b.entries i e h.stored at

builder_says : (b : Broker) (u : SnapshotBuilder) → Says b → b.builder ≡ Some u → IsSayableBuilder u
builder_says b u h is = subst BuilderSays is h.builder

updates_say : (h : Site) (b : Broker) (v : Subscription) (ws : List Write) → Ready h b → Named v → HasSayable v → Updates h b v ws → Each WritesSayable ws
updates_say h b v ws r name caches Updates.NoUpdate = tt
updates_say h b v ws r name caches (Updates.Update cut replicated passed) =
    (own_sayable h b _ _ [] r.number (name_low v.name name, cut_named cut (last_sayable (mark v.cursor) v.cache cut caches passed)), tt)

reply_says : (f : Frame) → IsReply f → IsSayableFrame f
reply_says (frame.ProducerSuccess request n) h = tt
reply_says (frame.Error request code) h = tt
reply_says (frame.Success request) h = tt
reply_says (frame.SendError id seq code) h = tt
reply_says frame.Pong h = tt
reply_says f h = absurd h

served_says : (h : Site) (b : Broker) (c : ℕ) (p : Packet) (q : Plan) → Ready h b → IsSayableFrame p.frame → Served h b c p q → IsSayablePlan q
served_says h b c p q r f Served.Ignores = record { writes = tt; changes = tt; sent = tt }
served_says h b c p q r f Served.Disconnects = record { writes = tt; changes = (tt, (tt, tt)); sent = tt }
served_says h b c p q r f (Served.Connects s is new) = record { writes = tt; changes = (tt, (tt, tt)); sent = (tt, tt) }
served_says h b c p q r f (Served.Answers s g at) = record { writes = tt; changes = tt; sent = (reply_says g at.1, tt) }
served_says h b c p q r f (Served.ChangesProducers s ps g at) = record { writes = tt; changes = (tt, tt); sent = (reply_says g at.1, tt) }
served_says h b c p q r f (Served.Stores s id seq source e at sound new) =
    record { writes = (moved h.own e (frame_of p.frame (frame.Send id seq source e) sound.0 f), tt); changes = tt; sent = (tt, tt) }
served_says h b c p q r f (Served.Repeats s id seq source e at sound old) = record { writes = tt; changes = tt; sent = (tt, tt) }
served_says h b c p q r f (Served.Creates s topic n kind id request consumer earliest replicated at is may named) = record { writes = (tt, tt); changes = (tt, tt); sent = (tt, tt) }
served_says h b c p q r f (Served.Joins s topic n kind id request consumer earliest replicated v at is may named free same) = record { writes = tt; changes = (tt, tt); sent = (tt, tt) }
served_says h b c p q r f (Served.Alters s topic n kind id request consumer earliest replicated v at is may named free other) = record { writes = (tt, tt); changes = (tt, tt); sent = (tt, tt) }
served_says h b c p q r f (Served.Permits s id permits v at is by) = record { writes = tt; changes = (tt, tt); sent = tt }
served_says h b c p q r f (Served.Acknowledges s id kind ps v i is ws at sent by of after) =
    record { writes = (tt, updates_say h b _ ws r (found_is Named _ b.subs v by r.names).0 (found_is HasSayable _ b.subs v by r.says.caches).0 after); changes = (tt, tt); sent = tt }
served_says h b c p q r f (Served.Unsubscribes s id request v at is by last) = record { writes = (tt, tt); changes = tt; sent = (tt, tt) }
served_says h b c p q r f (Served.ClosesConsumer s id request v at is by) = record { writes = tt; changes = (tt, tt); sent = (tt, tt) }

taken_says : (h : Site) (b : Broker) (x : ℕ) (p : Packet) (q : Plan) → IsSayableFrame p.frame → Taken h b x p q → IsSayablePlan q
taken_says h b x p q f (Taken.Unreadable is) = record { writes = tt; changes = (tt, tt); sent = tt }
taken_says h b x p q f (Taken.Opens topic id request name is opening) = record { writes = tt; changes = (tt, tt); sent = (tt, tt) }
taken_says h b x p q f (Taken.Discards other shut) = record { writes = tt; changes = tt; sent = tt }
taken_says h b x p q f (Taken.Refuses other at may) = record { writes = tt; changes = (tt, tt); sent = tt }
taken_says h b x p q f (Taken.Stores id seq source e is at may new) =
    record { writes = (moved x e (frame_of p.frame (frame.Send id seq source e) is f), tt); changes = tt; sent = (tt, tt) }
taken_says h b x p q f (Taken.Repeats id seq source e is at may old) = record { writes = tt; changes = tt; sent = (tt, tt) }

answered_says : (b : Broker) (y : ℕ) (p : Packet) (q : Plan) → Answered b y p q → IsSayablePlan q
answered_says b y p q (Answered.Stale other) = record { writes = tt; changes = tt; sent = tt }
answered_says b y p q (Answered.Other at other) = record { writes = tt; changes = tt; sent = tt }
answered_says b y p q (Answered.Opened request name at is state) = record { writes = tt; changes = (tt, tt); sent = tt }
answered_says b y p q (Answered.OpenBefore request name at is state) = record { writes = tt; changes = tt; sent = tt }
answered_says b y p q (Answered.ClosedBefore request name at is state) = record { writes = tt; changes = tt; sent = tt }
answered_says b y p q (Answered.Received id n i position at is pending) = record { writes = (tt, tt); changes = (tt, tt); sent = tt }
answered_says b y p q (Answered.ReceivedBefore id n position at is pending) = record { writes = tt; changes = tt; sent = tt }

fated_says : (per : ℕ) (b : Broker) (Acts : Broker → Plan → Type 0) (lost q : Plan) → ((c : Broker) (r : Plan) → Acts c r → IsSayablePlan r) → IsSayablePlan lost
    → Fated per b Acts lost q → IsSayablePlan q
fated_says per b Acts lost q acts none (Fated.Once r t) = acts b r t
fated_says per b Acts lost q acts none Fated.Lost = none
fated_says per b Acts lost q acts none (Fated.Twice r r' t t') =
    let f = acts b r t in let g = acts _ r' t' in
    record {
      writes = each_both WritesSayable r.writes r'.writes f.writes g.writes;
      changes = each_both ChangesSayable r.changes r'.changes f.changes g.changes;
      sent = each_both SendsSayable r.sent r'.sent f.sent g.sent;
    }

-- what a response makes of the builder
goes_on : (h : Site) (b : Broker) (y i : ℕ) (e : Entry) (id : List ℕ) (answer : ClusterPosition) (u : SnapshotBuilder) (g : Progress) (u' : SnapshotBuilder) → Ready h b → slice_get b.entries i ≡ Some e
    → e.content ≡ content.Marked (marker.Response id answer) → b.builder ≡ Some u → Hears b y i id answer u g u' → IsSayableBuilder u'
goes_on h b y i e id answer u g u' r at is made heard =
    hears_sayable b y i id answer u g u' (position_at b.ledgers i) heard (content_of e (content.Marked (marker.Response id answer)) is (stored_at b i e r.says at)).1
    (r.places i (get_below b.entries i e at)) (builder_says b u r.says made)

reads_says : (h : Site) (b : Broker) (y : ℕ) (q : Plan) → Ready h b → Reads h b y q → IsSayablePlan q
reads_says h b y q r Reads.NothingToRead = record { writes = tt; changes = tt; sent = tt }
reads_says h b y q r (Reads.Forwards i e next out) = record { writes = tt; changes = (tt, tt); sent = (stored_at b i e r.says next.2, tt) }
reads_says h b y q r (Reads.Skips i e next other) = record { writes = (tt, tt); changes = (tt, tt); sent = tt }
reads_says h b y q r (Reads.Responds i e id source next of is) =
    let last : length b.entries - 1 < length b.entries = let lt = get_below b.entries i e next.2 in omega (arith, lt) in
    record {
      writes = (
        own_sayable h b _ _ _ r.number (content_of e (content.Marked (marker.Request id source)) is (stored_at b i e r.says next.2), r.places (length b.entries - 1) last),
        (tt, tt),
      );
      changes = (tt, tt);
      sent = tt;
    }
reads_says h b y q r (Reads.Counts i e id answer u u' next is heard) =
    record { writes = (tt, tt); changes = (goes_on h b y i e id answer u progress.Kept u' r next.2 is.1 is.2 heard, (tt, tt)); sent = tt }
reads_says h b y q r (Reads.AsksAgain i e id answer u u' next is heard) =
    let k = goes_on h b y i e id answer u progress.SecondRound u' r next.2 is.1 is.2 heard in
    record { writes = (own_sayable h b _ _ _ r.number (current_low u' k), (tt, tt)); changes = (k, (tt, tt)); sent = tt }
reads_says h b y q r (Reads.Completes i e id answer u u' next is heard) =
    let k = goes_on h b y i e id answer u progress.Done u' r next.2 is.1 is.2 heard in
    record { writes = (own_sayable h b _ _ _ r.number (k.id, k.cut.local, cut_named u'.cut k.cut), (tt, tt)); changes = (tt, (tt, tt)); sent = tt }
reads_says h b y q r (Reads.CreatesAt i j e n remote next is named) = record { writes = (tt, (tt, (tt, tt))); changes = (tt, (tt, tt)); sent = tt }
reads_says h b y q r (Reads.ActsOnUpdate i j e n remote v ws next is named after) = record {
  writes = (
    tt,
    each_both WritesSayable ws (write.ReplicatorAck y i ∷ [])
        (updates_say h b _ ws r (found_is Named _ b.subs v named r.names).0 (found_is HasSayable _ b.subs v named r.says.caches).0 after) (tt, tt),
  );
  changes = (tt, (tt, tt));
  sent = tt;
}

snaps_says : (h : Site) (b : Broker) (q : Plan) → Ready h b → Snaps h b q → IsSayablePlan q
snaps_says h b q r Snaps.NothingToAsk = record { writes = tt; changes = tt; sent = tt }
snaps_says h b q r (Snaps.Asks any none) =
    let id = id_low (cluster_name h h.own) (next_position h.per_ledger b.ledgers) (r.clusters h.own) r.next in
    record { writes = (own_sayable h b _ _ _ r.number id, tt); changes = (started_sayable _ h.own (length h.clusters) id, tt); sent = tt }

snapshot_says : (h : Site) (b : Broker) (v : Subscription) (i : ℕ) (e : Entry) (j : ℕ) (c : CachedSnapshot) → Says b → slice_get b.entries i ≡ Some e → IsSnapshot h b v e j c → IsSayableCached c
snapshot_says h b v i e j c k at (id, local, remote, is, own, here, made) =
    let m = content_of e (content.Marked (marker.Snapshot id local remote)) is (stored_at b i e k at) in
    subst IsSayableCached (sym made) (cut_sayable h.own (length h.clusters) local remote m.1 m.2)

offers_says : (h : Site) (b : Broker) (n : List ℕ) (q : Plan) → Ready h b → Offers h b n q → IsSayablePlan q
offers_says h b n q r Offers.NothingToOffer = record { writes = tt; changes = tt; sent = tt }
offers_says h b n q r (Offers.Gives v i at e due is picked) = record { writes = tt; changes = (tt, tt); sent = (stored_at b i e r.says due.2, tt) }
offers_says h b n q r (Offers.SkipsMarker v i e ws due is after) =
    record { writes = (tt, updates_say h b _ ws r (found_is Named _ b.subs v due.0 r.names).0 (found_is HasSayable _ b.subs v due.0 r.says.caches).0 after); changes = (tt, (tt, tt)); sent = tt }
offers_says h b n q r (Offers.Caches v i j e c ws due is after) =
    let k = snapshot_says h b v i e j c r.says due.2 is in
    record {
      writes = (tt, updates_say h b _ ws r (found_is Named _ b.subs v due.0 r.names).0 (cached_says v.cache c k (found_is HasSayable _ b.subs v due.0 r.says.caches).0) after);
      changes = (k, (tt, (tt, tt)));
      sent = tt;
    }

seeks_says : (h : Site) (b : Broker) (n : List ℕ) (to : Option Position) (q : Plan) → Ready h b → Seeks h b n to q → IsSayablePlan q
seeks_says h b n to q r Seeks.NothingToSeek = record { writes = tt; changes = tt; sent = tt }
seeks_says h b n to q r (Seeks.SeeksTo v i ws named at after) =
    record { writes = (tt, updates_say h b _ ws r (found_is Named _ b.subs v named r.names).0 (found_is HasSayable _ b.subs v named r.says.caches).0 after); changes = (tt, tt); sent = tt }

-- the packet that is taken can be written
abbrev pub TakesSayable : World → Planned → Type 0
TakesSayable w p = (q : Packet) → packet_at w.links p.takes ≡ Some q → IsSayableFrame q.frame

pub shape_says : (s : Setup) (w : World) (p : Planned) → Shape s w p → Ready (site s p.topic p.cluster) (topic_at s w p.topic p.cluster) → TakesSayable w p → IsSayablePlan p.plan
unfolding restart
shape_says s w p (Shape.Idle t x lt) r f = record { writes = tt; changes = tt; sent = tt }
shape_says s w p (Shape.Empty t x k lt next) r f = record { writes = tt; changes = tt; sent = tt }
shape_says s w p (Shape.Serve x c q plan lt next served) r f = served_says (site s (declared_at s c).topic x) (topic_at s w (declared_at s c).topic x) c q plan r (f q next) served
shape_says s w p (Shape.Drop x c v lt at) r f = record { writes = tt; changes = (tt, (tt, tt)); sent = tt }
shape_says s w p (Shape.Reset t x y lt remote) r f = record { writes = (tt, tt); changes = (tt, tt); sent = (tt, tt) }
shape_says s w p (Shape.Read t x y plan lt reads) r f = reads_says (site s t x) (topic_at s w t x) y plan r reads
shape_says s w p (Shape.Take t x y q plan lt next taken) r f =
    fated_says s.per_ledger (topic_at s w t y) (λ b. Taken (site s t y) b x q) (closes x) plan (λ c k t'. taken_says (site s t y) c x q k (f q next) t')
    (record { writes = tt; changes = (tt, tt); sent = tt }) taken
shape_says s w p (Shape.Receipt t x y q plan lt next answered) r f =
    fated_says s.per_ledger (topic_at s w t x) (λ b. Answered b y q) (quiet_plan []) plan (λ c k a. answered_says c y q k a)
    (record { writes = tt; changes = tt; sent = tt }) answered
shape_says s w p (Shape.Snap t x plan lt snaps) r f = snaps_says (site s t x) (topic_at s w t x) plan r snaps
shape_says s w p (Shape.Offer t x n plan lt offers) r f = offers_says (site s t x) (topic_at s w t x) _ plan r offers
shape_says s w p (Shape.Seek t x n to plan lt seeks) r f = seeks_says (site s t x) (topic_at s w t x) _ to plan r seeks
shape_says s w p (Shape.Restart t x lt) r f = record { writes = (tt, tt); changes = (tt, tt); sent = tt }

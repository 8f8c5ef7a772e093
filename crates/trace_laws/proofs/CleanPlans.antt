-- What an event of a broker writes, keeps and sends is clean, where what it stores is.
use Rattle.std.proofs.Common.{◌≡◌, ℕ, zero, suc, ◌-◌, ◌^◌, ◌<◌, true, List, [], ◌∷◌, length, map, sym, subst, arith}
use Rattle.std.specs.Prelude.{Option, Some, None, drop, if◌then◌else◌, is_some, nat_lt, not, slice_get}
use Rattle.std.specs.Str.{bytes_eq}
use Rattle.world_laws.proofs.Types.{SnapshotBuilder, CachedSnapshot, Change, ClusterPosition, Entry, Frame, Out, Packet, Position, Progress, Write}
use Rattle.world_laws.proofs.Types.change
use Rattle.world_laws.proofs.Types.content
use Rattle.world_laws.proofs.Types.frame
use Rattle.world_laws.proofs.Types.marker
use Rattle.world_laws.proofs.Types.progress
use Rattle.world_laws.proofs.Types.write
use Rattle.geo_base.specs.Broker.{Broker, Site, changed, cluster_name, sub_named, written}
use Rattle.geo_base.specs.Cache.{any_passed, cached, most_cached, not_passed}
use Rattle.geo_base.specs.Cursor.{below, mark}
use Rattle.geo_base.specs.Dispatcher.{given, skipped_index}
use Rattle.geo_base.specs.Forwarding.{closes}
use Rattle.geo_base.specs.Plan.{Plan, all_changed, all_written, done, quiet_plan}
use Rattle.geo_base.specs.Planned.{Planned}
use Rattle.geo_base.specs.Seeking.{restart}
use Rattle.geo_base.specs.Setup.{Setup, declared_at}
use Rattle.geo_base.specs.Subscription.{Subscription, after_acks, attached, cleared, detached, new_subscription, permitted, sought, with_acks}
use Rattle.geo_base.specs.Topic.{next_marker, next_position, position_at}
use Rattle.geo_base.specs.World.{World, packet_at, site, topic_at}
use Rattle.world_laws.proofs.Replicating.Effects.{Each, each_both}
use Rattle.world_laws.proofs.Snapshotting.Ids.{IsSmall}
use Rattle.world_laws.proofs.Merges.PeerWalk.{each_filter}
use Rattle.world_laws.proofs.Walks.Shapes.{Answered, Fated, Hears, IsReply, IsSnapshot, Offers, Reads, Seeks, Served, Shape, Snaps, Taken, Updates}
use Rattle.world_laws.proofs.Dispatching.SubFrames.{at_name, each_at_place, each_to, found_is}
use Rattle.world_laws.proofs.Walks.Walk.{on_if}
use Rattle.world_laws.proofs.FrameContents.Widths.{Named}
use Rattle.trace_laws.proofs.Words.{id_token, is_plain}
use Rattle.trace_laws.proofs.Clean.{IsClean, IsCleanBuilder, IsCleanCached, IsCleanFrame, marker_of, current_token, cut_named, cut_clean, frame_of, hears_clean, last_clean, moved, own_clean, started_clean}
use Rattle.geo_base.proofs.Lists.{get_below}

-- ---- a broker

abbrev pub HasClean : Subscription → Type 0
HasClean v = Each IsCleanCached v.cache

abbrev pub BuilderIsClean : Option SnapshotBuilder → Type 0
BuilderIsClean None = Unit {0}
BuilderIsClean (Some u) = IsCleanBuilder u

pub record KeepsClean (b : Broker) : Type 0 where
  pub stored : Each IsClean b.entries
  pub builder : BuilderIsClean b.builder
  pub caches : Each HasClean b.subs

-- what it makes its markers of
pub record Ready (h : Site) (b : Broker) : Type 0 where
  pub clean : KeepsClean b
  pub names : Each Named b.subs
  pub places : (i : ℕ) → i < length b.entries → IsSmall (position_at b.ledgers i)
  pub next : IsSmall (next_position h.per_ledger b.ledgers)
  pub number : next_marker h.own b.entries < 2 ^ 64
  pub clusters : (x : ℕ) → is_plain (cluster_name h x) ≡ true

abbrev pub WritesClean : Write → Type 0
WritesClean (write.Append e) = IsClean e
WritesClean w = Unit {0}

abbrev pub ChangesClean : Change → Type 0
ChangesClean (change.Building o) = BuilderIsClean o
ChangesClean (change.Cache n c) = IsCleanCached c
ChangesClean c = Unit {0}

abbrev pub SendsClean : Out → Type 0
SendsClean o = IsCleanFrame o.frame

pub record IsCleanPlan (q : Plan) : Type 0 where
  pub writes : Each WritesClean q.writes
  pub changes : Each ChangesClean q.changes
  pub sent : Each SendsClean q.sent

-- ---- after writes and changes

named_clean : (n : List ℕ) (f : Subscription → Subscription) → ((v : Subscription) → HasClean v → HasClean (f v)) → (v : Subscription) → HasClean v → HasClean (at_name n f v)
named_clean n f k v h = on_if HasClean (bytes_eq v.name n) (f v) v (k v h) h

at_subs : (b : Broker) (n : List ℕ) (f : Subscription → Subscription) → ((v : Subscription) → HasClean v → HasClean (f v)) → Each HasClean b.subs → Each HasClean (map (at_name n f) b.subs)
at_subs b n f k h = each_to HasClean HasClean (at_name n f) (named_clean n f k) b.subs h

pub written_clean : (per : ℕ) (b : Broker) (w : Write) → WritesClean w → KeepsClean b → KeepsClean (written per b w)
written_clean per b (write.Append e) k h = record { stored = each_both IsClean b.entries (e ∷ []) h.stored (k, tt); builder = h.builder; caches = h.caches }
written_clean per b (write.Create n kind replicated latest) k h =
    on_if KeepsClean (is_some (sub_named b.subs n)) b _ h
    (record { stored = h.stored; builder = h.builder; caches = each_both HasClean b.subs (new_subscription n kind replicated (if latest then below (length b.entries) else []) ∷ []) h.caches (tt, tt) })
written_clean per b (write.Alter n kind replicated) k h =
    record { stored = h.stored; builder = h.builder; caches = at_subs b n (λ s. record s { kind = kind; replicated = replicated }) (λ v p. p) h.caches }
written_clean per b (write.Delete n) k h = record { stored = h.stored; builder = h.builder; caches = each_filter HasClean (λ (s : Subscription). not (bytes_eq s.name n)) b.subs h.caches }
written_clean per b (write.Acks n is) k h = record { stored = h.stored; builder = h.builder; caches = at_subs b n (with_acks is) (λ v p. p) h.caches }
written_clean per b (write.Seek n i) k h = record { stored = h.stored; builder = h.builder; caches = at_subs b n (sought i) (λ v p. p) h.caches }
written_clean per b (write.ReplicatorAck y i) k h = record { stored = h.stored; builder = h.builder; caches = h.caches }
written_clean per b (write.SessionNumber y n) k h = record { stored = h.stored; builder = h.builder; caches = h.caches }
written_clean per b write.Ledger k h = record { stored = h.stored; builder = h.builder; caches = h.caches }

each_behind : {X : Type 0} (P : X → Type 0) (n : ℕ) (xs : List X) → Each P xs → Each P (drop n xs)
each_behind P zero xs h = h
each_behind P (suc n) [] h = tt
each_behind P (suc n) (x ∷ xs) h = each_behind P n xs h.1

cached_clean : (cs : List CachedSnapshot) (c : CachedSnapshot) → IsCleanCached c → Each IsCleanCached cs → Each IsCleanCached (cached cs c)
cached_clean cs c k h =
    on_if (Each IsCleanCached) (nat_lt (length cs) most_cached) _ _ (each_both IsCleanCached cs (c ∷ []) h (k, tt)) (each_both IsCleanCached (drop 1 cs) (c ∷ []) (each_behind IsCleanCached 1 cs h) (k, tt))

left_clean : (m : ℕ) (cs : List CachedSnapshot) → Each IsCleanCached cs → Each IsCleanCached (not_passed m cs)
left_clean m [] h = tt
left_clean m (c ∷ cs) h = on_if (Each IsCleanCached) (any_passed m (c ∷ cs)) _ _ (left_clean m cs h.1) h

acked_clean : (v : Subscription) → HasClean v → HasClean (after_acks v)
acked_clean v h = on_if (Each IsCleanCached) v.replicated _ v.cache (left_clean (mark v.cursor) v.cache h) h

pub changed_clean : (b : Broker) (c : Change) → ChangesClean c → KeepsClean b → KeepsClean (changed b c)
changed_clean b (change.Attach n p) k h = record { stored = h.stored; builder = h.builder; caches = at_subs b n (attached p) (λ v p. p) h.caches }
changed_clean b (change.Detach c) k h = record { stored = h.stored; builder = h.builder; caches = each_to HasClean HasClean (detached c) (λ v p. p) b.subs h.caches }
changed_clean b (change.Permit n c permits) k h = record { stored = h.stored; builder = h.builder; caches = at_subs b n (permitted c permits) (λ v p. p) h.caches }
changed_clean b (change.Skipped n i) k h = record { stored = h.stored; builder = h.builder; caches = at_subs b n (skipped_index i) (λ v p. p) h.caches }
changed_clean b (change.Given n i at) k h = record { stored = h.stored; builder = h.builder; caches = at_subs b n (given i at) (λ v p. p) h.caches }
changed_clean b (change.Cache n c) k h = record { stored = h.stored; builder = h.builder; caches = at_subs b n (λ s. record s { cache = cached s.cache c }) (λ v p. cached_clean v.cache c k p) h.caches }
changed_clean b (change.Acked n) k h = record { stored = h.stored; builder = h.builder; caches = at_subs b n after_acks acked_clean h.caches }
changed_clean b (change.Cleared n) k h = record { stored = h.stored; builder = h.builder; caches = at_subs b n cleared (λ v p. tt) h.caches }
changed_clean b (change.Building o) k h = record { stored = h.stored; builder = k; caches = h.caches }
changed_clean b change.Forget k h = record { stored = h.stored; builder = tt; caches = each_to HasClean HasClean cleared (λ v p. tt) b.subs h.caches }
changed_clean b (change.Receiver x r) k h = record { stored = h.stored; builder = h.builder; caches = h.caches }
changed_clean b (change.Client c r) k h = record { stored = h.stored; builder = h.builder; caches = h.caches }
changed_clean b (change.Opening y) k h = record { stored = h.stored; builder = h.builder; caches = h.caches }
changed_clean b (change.Opened y) k h = record { stored = h.stored; builder = h.builder; caches = h.caches }
changed_clean b (change.Pend y i) k h = record { stored = h.stored; builder = h.builder; caches = h.caches }
changed_clean b (change.ReadTo y i) k h = record { stored = h.stored; builder = h.builder; caches = h.caches }
changed_clean b (change.Unpend y n) k h = record { stored = h.stored; builder = h.builder; caches = h.caches }

pub all_written_clean : (per : ℕ) (b : Broker) (ws : List Write) → Each WritesClean ws → KeepsClean b → KeepsClean (all_written per b ws)
all_written_clean per b [] k h = h
all_written_clean per b (w ∷ ws) k h = all_written_clean per (written per b w) ws k.1 (written_clean per b w k.0 h)

pub all_changed_clean : (b : Broker) (cs : List Change) → Each ChangesClean cs → KeepsClean b → KeepsClean (all_changed b cs)
all_changed_clean b [] k h = h
all_changed_clean b (c ∷ cs) k h = all_changed_clean (changed b c) cs k.1 (changed_clean b c k.0 h)

pub done_clean : (per : ℕ) (b : Broker) (q : Plan) → IsCleanPlan q → KeepsClean b → KeepsClean (done per b q)
done_clean per b q k h = all_changed_clean (all_written per b q.writes) q.changes k.changes (all_written_clean per b q.writes k.writes h)

-- ---- what an event does

stored_at : (b : Broker) (i : ℕ) (e : Entry) → KeepsClean b → slice_get b.entries i ≡ Some e → IsClean e
stored_at b i e h at = each_at_place IsClean b.entries i e h.stored at

builder_clean : (b : Broker) (u : SnapshotBuilder) → KeepsClean b → b.builder ≡ Some u → IsCleanBuilder u
builder_clean b u h is = subst BuilderIsClean is h.builder

updates_clean : (h : Site) (b : Broker) (v : Subscription) (ws : List Write) → Ready h b → Named v → HasClean v → Updates h b v ws → Each WritesClean ws
updates_clean h b v ws r name caches Updates.NoUpdate = tt
updates_clean h b v ws r name caches (Updates.Update cut replicated passed) =
    (own_clean h b _ _ [] r.number (name, cut_named cut (last_clean (mark v.cursor) v.cache cut caches passed)), tt)

reply_clean : (f : Frame) → IsReply f → IsCleanFrame f
reply_clean (frame.ProducerSuccess request n) h = tt
reply_clean (frame.Error request code) h = tt
reply_clean (frame.Success request) h = tt
reply_clean (frame.SendError id seq code) h = tt
reply_clean frame.Pong h = tt
reply_clean f h = absurd h

served_clean : (h : Site) (b : Broker) (c : ℕ) (p : Packet) (q : Plan) → Ready h b → IsCleanFrame p.frame → Served h b c p q → IsCleanPlan q
served_clean h b c p q r f Served.Ignores = record { writes = tt; changes = tt; sent = tt }
served_clean h b c p q r f Served.Disconnects = record { writes = tt; changes = (tt, (tt, tt)); sent = tt }
served_clean h b c p q r f (Served.Connects s is new) = record { writes = tt; changes = (tt, (tt, tt)); sent = (tt, tt) }
served_clean h b c p q r f (Served.Answers s g at) = record { writes = tt; changes = tt; sent = (reply_clean g at.1, tt) }
served_clean h b c p q r f (Served.ChangesProducers s ps g at) = record { writes = tt; changes = (tt, tt); sent = (reply_clean g at.1, tt) }
served_clean h b c p q r f (Served.Stores s id seq source e at sound new) =
    record { writes = (moved h.own e (frame_of p.frame (frame.Send id seq source e) sound.0 f), tt); changes = tt; sent = (tt, tt) }
served_clean h b c p q r f (Served.Repeats s id seq source e at sound old) = record { writes = tt; changes = tt; sent = (tt, tt) }
served_clean h b c p q r f (Served.Creates s topic n kind id request consumer earliest replicated at is may named) = record { writes = (tt, tt); changes = (tt, tt); sent = (tt, tt) }
served_clean h b c p q r f (Served.Joins s topic n kind id request consumer earliest replicated v at is may named free same) = record { writes = tt; changes = (tt, tt); sent = (tt, tt) }
served_clean h b c p q r f (Served.Alters s topic n kind id request consumer earliest replicated v at is may named free other) = record { writes = (tt, tt); changes = (tt, tt); sent = (tt, tt) }
served_clean h b c p q r f (Served.Permits s id permits v at is by) = record { writes = tt; changes = (tt, tt); sent = tt }
served_clean h b c p q r f (Served.Acknowledges s id kind ps v i is ws at sent by of after) =
    record { writes = (tt, updates_clean h b _ ws r (found_is Named _ b.subs v by r.names).0 (found_is HasClean _ b.subs v by r.clean.caches).0 after); changes = (tt, tt); sent = tt }
served_clean h b c p q r f (Served.Unsubscribes s id request v at is by last) = record { writes = (tt, tt); changes = tt; sent = (tt, tt) }
served_clean h b c p q r f (Served.ClosesConsumer s id request v at is by) = record { writes = tt; changes = (tt, tt); sent = (tt, tt) }

taken_clean : (h : Site) (b : Broker) (x : ℕ) (p : Packet) (q : Plan) → IsCleanFrame p.frame → Taken h b x p q → IsCleanPlan q
taken_clean h b x p q f (Taken.Unreadable is) = record { writes = tt; changes = (tt, tt); sent = tt }
taken_clean h b x p q f (Taken.Opens topic id request name is opening) = record { writes = tt; changes = (tt, tt); sent = (tt, tt) }
taken_clean h b x p q f (Taken.Discards other shut) = record { writes = tt; changes = tt; sent = tt }
taken_clean h b x p q f (Taken.Refuses other at may) = record { writes = tt; changes = (tt, tt); sent = tt }
taken_clean h b x p q f (Taken.Stores id seq source e is at may new) =
    record { writes = (moved x e (frame_of p.frame (frame.Send id seq source e) is f), tt); changes = tt; sent = (tt, tt) }
taken_clean h b x p q f (Taken.Repeats id seq source e is at may old) = record { writes = tt; changes = tt; sent = (tt, tt) }

answered_clean : (b : Broker) (y : ℕ) (p : Packet) (q : Plan) → Answered b y p q → IsCleanPlan q
answered_clean b y p q (Answered.Stale other) = record { writes = tt; changes = tt; sent = tt }
answered_clean b y p q (Answered.Other at other) = record { writes = tt; changes = tt; sent = tt }
answered_clean b y p q (Answered.Opened request name at is state) = record { writes = tt; changes = (tt, tt); sent = tt }
answered_clean b y p q (Answered.OpenBefore request name at is state) = record { writes = tt; changes = tt; sent = tt }
answered_clean b y p q (Answered.ClosedBefore request name at is state) = record { writes = tt; changes = tt; sent = tt }
answered_clean b y p q (Answered.Received id n i position at is pending) = record { writes = (tt, tt); changes = (tt, tt); sent = tt }
answered_clean b y p q (Answered.ReceivedBefore id n position at is pending) = record { writes = tt; changes = tt; sent = tt }

fated_clean : (per : ℕ) (b : Broker) (Acts : Broker → Plan → Type 0) (lost q : Plan) → ((c : Broker) (r : Plan) → Acts c r → IsCleanPlan r) → IsCleanPlan lost
    → Fated per b Acts lost q → IsCleanPlan q
fated_clean per b Acts lost q acts none (Fated.Once r t) = acts b r t
fated_clean per b Acts lost q acts none Fated.Lost = none
fated_clean per b Acts lost q acts none (Fated.Twice r r' t t') =
    let f = acts b r t in let g = acts _ r' t' in
    record {
      writes = each_both WritesClean r.writes r'.writes f.writes g.writes;
      changes = each_both ChangesClean r.changes r'.changes f.changes g.changes;
      sent = each_both SendsClean r.sent r'.sent f.sent g.sent;
    }

-- what a response makes of the builder
goes_on : (h : Site) (b : Broker) (y i : ℕ) (e : Entry) (id : List ℕ) (answer : ClusterPosition) (u : SnapshotBuilder) (g : Progress) (u' : SnapshotBuilder) → Ready h b → slice_get b.entries i ≡ Some e
    → e.content ≡ content.Marked (marker.Response id answer) → b.builder ≡ Some u → Hears b y i id answer u g u' → IsCleanBuilder u'
goes_on h b y i e id answer u g u' r at is made heard =
    hears_clean b y i id answer u g u' (position_at b.ledgers i) heard (marker_of e (marker.Response id answer) is (stored_at b i e r.clean at)).1
    (r.places i (get_below b.entries i e at)) (builder_clean b u r.clean made)

reads_clean : (h : Site) (b : Broker) (y : ℕ) (q : Plan) → Ready h b → Reads h b y q → IsCleanPlan q
reads_clean h b y q r Reads.NothingToRead = record { writes = tt; changes = tt; sent = tt }
reads_clean h b y q r (Reads.Forwards i e next out) = record { writes = tt; changes = (tt, tt); sent = (stored_at b i e r.clean next.2, tt) }
reads_clean h b y q r (Reads.Skips i e next other) = record { writes = (tt, tt); changes = (tt, tt); sent = tt }
reads_clean h b y q r (Reads.Responds i e id source next of is) =
    let last : length b.entries - 1 < length b.entries = let lt = get_below b.entries i e next.2 in omega (arith, lt) in
    record {
      writes = (
        own_clean h b _ _ _ r.number (marker_of e (marker.Request id source) is (stored_at b i e r.clean next.2), r.places (length b.entries - 1) last),
        (tt, tt),
      );
      changes = (tt, tt);
      sent = tt;
    }
reads_clean h b y q r (Reads.Counts i e id answer u u' next is heard) =
    record { writes = (tt, tt); changes = (goes_on h b y i e id answer u progress.Kept u' r next.2 is.1 is.2 heard, (tt, tt)); sent = tt }
reads_clean h b y q r (Reads.AsksAgain i e id answer u u' next is heard) =
    let k = goes_on h b y i e id answer u progress.SecondRound u' r next.2 is.1 is.2 heard in
    record { writes = (own_clean h b _ _ _ r.number (current_token u' k), (tt, tt)); changes = (k, (tt, tt)); sent = tt }
reads_clean h b y q r (Reads.Completes i e id answer u u' next is heard) =
    let k = goes_on h b y i e id answer u progress.Done u' r next.2 is.1 is.2 heard in
    record { writes = (own_clean h b _ _ _ r.number (k.id, k.cut.local, cut_named u'.cut k.cut), (tt, tt)); changes = (tt, (tt, tt)); sent = tt }
reads_clean h b y q r (Reads.CreatesAt i j e n remote next is named) = record { writes = (tt, (tt, (tt, tt))); changes = (tt, (tt, tt)); sent = tt }
reads_clean h b y q r (Reads.ActsOnUpdate i j e n remote v ws next is named after) = record {
  writes = (
    tt,
    each_both WritesClean ws (write.ReplicatorAck y i ∷ [])
        (updates_clean h b _ ws r (found_is Named _ b.subs v named r.names).0 (found_is HasClean _ b.subs v named r.clean.caches).0 after) (tt, tt),
  );
  changes = (tt, (tt, tt));
  sent = tt;
}

snaps_clean : (h : Site) (b : Broker) (q : Plan) → Ready h b → Snaps h b q → IsCleanPlan q
snaps_clean h b q r Snaps.NothingToAsk = record { writes = tt; changes = tt; sent = tt }
snaps_clean h b q r (Snaps.Asks any none) =
    let id = id_token (cluster_name h h.own) (next_position h.per_ledger b.ledgers) (r.clusters h.own) r.next in
    record { writes = (own_clean h b _ _ _ r.number id, tt); changes = (started_clean _ h.own (length h.clusters) id, tt); sent = tt }

snapshot_clean : (h : Site) (b : Broker) (v : Subscription) (i : ℕ) (e : Entry) (j : ℕ) (c : CachedSnapshot) → KeepsClean b → slice_get b.entries i ≡ Some e → IsSnapshot h b v e j c → IsCleanCached c
snapshot_clean h b v i e j c k at (id, local, remote, is, own, here, made) =
    let m = marker_of e (marker.Snapshot id local remote) is (stored_at b i e k at) in
    subst IsCleanCached (sym made) (cut_clean h.own (length h.clusters) local remote m.1 m.2)

offers_clean : (h : Site) (b : Broker) (n : List ℕ) (q : Plan) → Ready h b → Offers h b n q → IsCleanPlan q
offers_clean h b n q r Offers.NothingToOffer = record { writes = tt; changes = tt; sent = tt }
offers_clean h b n q r (Offers.Gives v i at e due is picked) = record { writes = tt; changes = (tt, tt); sent = (stored_at b i e r.clean due.2, tt) }
offers_clean h b n q r (Offers.SkipsMarker v i e ws due is after) =
    record { writes = (tt, updates_clean h b _ ws r (found_is Named _ b.subs v due.0 r.names).0 (found_is HasClean _ b.subs v due.0 r.clean.caches).0 after); changes = (tt, (tt, tt)); sent = tt }
offers_clean h b n q r (Offers.Caches v i j e c ws due is after) =
    let k = snapshot_clean h b v i e j c r.clean due.2 is in
    record {
      writes = (tt, updates_clean h b _ ws r (found_is Named _ b.subs v due.0 r.names).0 (cached_clean v.cache c k (found_is HasClean _ b.subs v due.0 r.clean.caches).0) after);
      changes = (k, (tt, (tt, tt)));
      sent = tt;
    }

seeks_clean : (h : Site) (b : Broker) (n : List ℕ) (to : Option Position) (q : Plan) → Ready h b → Seeks h b n to q → IsCleanPlan q
seeks_clean h b n to q r Seeks.NothingToSeek = record { writes = tt; changes = tt; sent = tt }
seeks_clean h b n to q r (Seeks.SeeksTo v i ws named at after) =
    record { writes = (tt, updates_clean h b _ ws r (found_is Named _ b.subs v named r.names).0 (found_is HasClean _ b.subs v named r.clean.caches).0 after); changes = (tt, tt); sent = tt }

-- the packet that is taken is clean
abbrev pub TakesClean : World → Planned → Type 0
TakesClean w p = (q : Packet) → packet_at w.links p.takes ≡ Some q → IsCleanFrame q.frame

pub shape_clean : (s : Setup) (w : World) (p : Planned) → Shape s w p → Ready (site s p.topic p.cluster) (topic_at s w p.topic p.cluster) → TakesClean w p → IsCleanPlan p.plan
unfolding restart
shape_clean s w p (Shape.Idle t x lt) r f = record { writes = tt; changes = tt; sent = tt }
shape_clean s w p (Shape.Empty t x k lt next) r f = record { writes = tt; changes = tt; sent = tt }
shape_clean s w p (Shape.Serve x c q plan lt next served) r f = served_clean (site s (declared_at s c).topic x) (topic_at s w (declared_at s c).topic x) c q plan r (f q next) served
shape_clean s w p (Shape.Drop x c v lt at) r f = record { writes = tt; changes = (tt, (tt, tt)); sent = tt }
shape_clean s w p (Shape.Reset t x y lt remote) r f = record { writes = (tt, tt); changes = (tt, tt); sent = (tt, tt) }
shape_clean s w p (Shape.Read t x y plan lt reads) r f = reads_clean (site s t x) (topic_at s w t x) y plan r reads
shape_clean s w p (Shape.Take t x y q plan lt next taken) r f =
    fated_clean s.per_ledger (topic_at s w t y) (λ b. Taken (site s t y) b x q) (closes x) plan (λ c k t'. taken_clean (site s t y) c x q k (f q next) t')
    (record { writes = tt; changes = (tt, tt); sent = tt }) taken
shape_clean s w p (Shape.Receipt t x y q plan lt next answered) r f =
    fated_clean s.per_ledger (topic_at s w t x) (λ b. Answered b y q) (quiet_plan []) plan (λ c k a. answered_clean c y q k a)
    (record { writes = tt; changes = tt; sent = tt }) answered
shape_clean s w p (Shape.Snap t x plan lt snaps) r f = snaps_clean (site s t x) (topic_at s w t x) plan r snaps
shape_clean s w p (Shape.Offer t x n plan lt offers) r f = offers_clean (site s t x) (topic_at s w t x) _ plan r offers
shape_clean s w p (Shape.Seek t x n to plan lt seeks) r f = seeks_clean (site s t x) (topic_at s w t x) _ to plan r seeks
shape_clean s w p (Shape.Restart t x lt) r f = record { writes = (tt, tt); changes = (tt, tt); sent = tt }

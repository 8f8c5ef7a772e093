-- What an event does with the snapshot that is being made: whether it appends an own request, and what becomes of the builder.
use Rattle.std.proofs.Common.{◌≡◌, ℕ, zero, suc, ◌+◌, Bool, true, false, List, [], ◌∷◌, ◌++◌, length, refl, sym, ap, subst, ◌∙◌, ◌==◌}
use Rattle.std.specs.Prelude.{Option, Some, None, ◌&&◌, ◌||◌, is_some, nat_lt, take, slice_get}
use Rattle.std.proofs.lemmas.Bool.{false≢true, ltb-true}
use Rattle.std.proofs.lemmas.List.{append-nil}
use Rattle.world_laws.proofs.Types.{SnapshotBuilder, CachedSnapshot, Change, ClusterPosition, Content, Entry, Packet, Position, Progress, Write}
use Rattle.world_laws.proofs.Types.change
use Rattle.world_laws.proofs.Types.content
use Rattle.world_laws.proofs.Types.progress
use Rattle.world_laws.proofs.Types.write
use Rattle.geo_base.specs.Broker.{Broker, Site, changed, cluster_name, sub_named, written}
use Rattle.geo_base.specs.SnapshotBuilder.{Heard, counts, current_id, judged, on_response, snapshot_id, with_response}
use Rattle.geo_base.specs.Entry.{is_data}
use Rattle.geo_base.specs.Forwarding.{closes}
use Rattle.geo_base.specs.Markers.{asks, request_marker}
use Rattle.geo_base.specs.Plan.{Plan, all_changed, all_written, done, quiet_plan}
use Rattle.geo_base.specs.Planned.{Planned}
use Rattle.geo_base.specs.Seeking.{restart}
use Rattle.geo_base.specs.Setup.{Setup}
use Rattle.geo_base.specs.Subscription.{Subscription}
use Rattle.geo_base.specs.Topic.{next_position, position_at}
use Rattle.geo_base.specs.Updating.{handled}
use Rattle.geo_base.specs.World.{World, site, topic_at}
use Rattle.world_laws.proofs.TopicOrder.Added.{appended, appended_both, appended_take, came_other, sound_data}
use Rattle.world_laws.proofs.Snapshotting.Answering.{is_request}
use Rattle.world_laws.proofs.Replicating.Effects.{Each, each_both, each_map, each_take}
use Rattle.world_laws.proofs.Walks.EventWalk.{of_target}
use Rattle.world_laws.proofs.TopicOrder.NoSelf.{NoSelf}
use Rattle.world_laws.proofs.Replicating.Prefixes.{is_of}
use Rattle.world_laws.proofs.Walks.Shapes.{Answered, Fated, Hears, IsResponse, IsSnapshot, Offers, Reads, ReadsNext, Seeks, Served, Shape, Snaps, Taken, Updates}
use Rattle.world_laws.proofs.Walks.Walk.{on_if}
pub use Rattle.geo_base.proofs.Bools.{and_no_second as other_silent}
pub use Rattle.geo_base.proofs.Sums.{eq_apart as differ}

-- THE BUILDER

abbrev builder_changed : Option SnapshotBuilder → Change → Option SnapshotBuilder
builder_changed o (change.Building u) = u
builder_changed o change.Forget = None
builder_changed o c = o

abbrev pub builder_then : Option SnapshotBuilder → List Change → Option SnapshotBuilder
builder_then o [] = o
builder_then o (c ∷ cs) = builder_then (builder_changed o c) cs

changed_builder : (b : Broker) (c : Change) → (changed b c).builder ≡ builder_changed b.builder c
changed_builder b (change.Receiver x r) = refl
changed_builder b c = refl

all_changed_builder : (b : Broker) (cs : List Change) → (all_changed b cs).builder ≡ builder_then b.builder cs
all_changed_builder b [] = refl
all_changed_builder b (c ∷ cs) = all_changed_builder (changed b c) cs ∙ ap (λ (o : Option SnapshotBuilder). builder_then o cs) (changed_builder b c)

written_builder : (per : ℕ) (b : Broker) (w : Write) → (written per b w).builder ≡ b.builder
written_builder per b (write.Create n kind replicated latest) = on_if (λ (c : Broker). c.builder ≡ b.builder) (is_some (sub_named b.subs n)) _ _ refl refl
written_builder per b w = refl

pub all_written_builder : (per : ℕ) (b : Broker) (ws : List Write) → (all_written per b ws).builder ≡ b.builder
all_written_builder per b [] = refl
all_written_builder per b (w ∷ ws) = all_written_builder per (written per b w) ws ∙ written_builder per b w

pub done_builder : (per : ℕ) (b : Broker) (p : Plan) → (done per b p).builder ≡ builder_then b.builder p.changes
done_builder per b p =
    all_changed_builder (all_written per b p.writes) p.changes ∙ ap (λ (o : Option SnapshotBuilder). builder_then o p.changes) (all_written_builder per b p.writes)

-- what comes into a cache is a snapshot that stands here
pub record IsCached (h : Site) (b : Broker) (c : CachedSnapshot) : Type 0 where
  pub sub : Subscription
  pub place : ℕ
  pub local : ℕ
  pub entry : Entry
  pub stands : slice_get b.entries place ≡ Some entry
  pub is : IsSnapshot h b sub entry local c

abbrev pub CacheChange : Site → Broker → Change → Type 0
CacheChange h b (change.Cache n c) = IsCached h b c
CacheChange h b c = Unit {0}

-- a change that leaves the builder
abbrev pub QuietChange : Site → Broker → Change → Type 0
QuietChange h b (change.Building u) = ⊥
QuietChange h b change.Forget = ⊥
QuietChange h b c = CacheChange h b c

quiet_one : (h : Site) (b : Broker) (o : Option SnapshotBuilder) (c : Change) → QuietChange h b c → builder_changed o c ≡ o
quiet_one h b o (change.Building u) q = absurd q
quiet_one h b o change.Forget q = absurd q
quiet_one h b o c q = refl

pub quiet_builder : (h : Site) (b : Broker) (o : Option SnapshotBuilder) (cs : List Change) → Each (QuietChange h b) cs → builder_then o cs ≡ o
quiet_builder h b o [] q = refl
quiet_builder h b o (c ∷ cs) q = ap (λ (p : Option SnapshotBuilder). builder_then p cs) (quiet_one h b o c q.0) ∙ quiet_builder h b o cs q.1

quiet_cache : (h : Site) (b : Broker) (c : Change) → QuietChange h b c → CacheChange h b c
quiet_cache h b (change.Building u) q = absurd q
quiet_cache h b change.Forget q = absurd q
quiet_cache h b (change.Cache n c) q = q
quiet_cache h b c q = tt

-- OWN REQUESTS

abbrev pub requests : ℕ → Entry → Bool
requests own e = is_request e.content && is_of own e

-- a write that appends none
abbrev pub SilentWrite : ℕ → Write → Type 0
SilentWrite own (write.Append e) = requests own e ≡ false
SilentWrite own w = Unit {0}

abbrev pub Silent : ℕ → List Write → Type 0
Silent own ws = Each (SilentWrite own) ws

-- what an event does
pub data Building (h : Site) (b : Broker) : Plan → Type 0 where
  Leaves : (p : Plan) → Silent h.own p.writes → Each (QuietChange h b) p.changes → Building h b p
  Ends : (p : Plan) → Silent h.own p.writes → builder_then b.builder p.changes ≡ None → Each (CacheChange h b) p.changes → Building h b p
  Begins : b.builder ≡ None → Building h b (asks h b (snapshot_id (cluster_name h h.own) (next_position h.per_ledger b.ledgers)))
  Counts : (y i : ℕ) (e : Entry) (id : List ℕ) (answer : ClusterPosition) (u u' : SnapshotBuilder) → ReadsNext h b y i e → IsResponse h b y e id answer u
      → Hears b y i id answer u progress.Kept u' → Building h b (handled y i [] (change.Building (Some u') ∷ []))
  AsksAgain : (y i : ℕ) (e : Entry) (id : List ℕ) (answer : ClusterPosition) (u u' : SnapshotBuilder) → ReadsNext h b y i e → IsResponse h b y e id answer u
      → Hears b y i id answer u progress.SecondRound u'
      → Building h b (handled y i (write.Append (request_marker h b (current_id u')) ∷ []) (change.Building (Some u') ∷ []))

data_silent : (c : Content) (t : Bool) → is_data c ≡ true → (is_request c && t) ≡ false
data_silent content.Data t h = refl
data_silent (content.Marked m) t h = absurd (false≢true h)
data_silent (content.Unread k) t h = absurd (false≢true h)

updates_silent : (h : Site) (b : Broker) (v : Subscription) (ws : List Write) → Updates h b v ws → Silent h.own ws
updates_silent h b v ws Updates.NoUpdate = tt
updates_silent h b v ws (Updates.Update cut replicated passed) = (refl, tt)

served_building : (h : Site) (b : Broker) (c : ℕ) (p : Packet) (q : Plan) → Served h b c p q → Building h b q
served_building h b c p q (Served.Stores s id seq source e at sound new) =
    Building.Leaves q (data_silent e.content (h.own == h.own) (sound_data h sound.1.0 seq source e sound.1.2), tt) tt
served_building h b c p q (Served.Acknowledges s id kind ps v i is ws at sent by of after) = Building.Leaves q (tt, updates_silent h b _ ws after) (tt, tt)
served_building h b c p q Served.Ignores = Building.Leaves q tt tt
served_building h b c p q Served.Disconnects = Building.Leaves q tt (tt, (tt, tt))
served_building h b c p q (Served.Connects s is new) = Building.Leaves q tt (tt, (tt, tt))
served_building h b c p q (Served.Answers s f at) = Building.Leaves q tt tt
served_building h b c p q (Served.ChangesProducers s ps f at) = Building.Leaves q tt (tt, tt)
served_building h b c p q (Served.Repeats s id seq source e at sound old) = Building.Leaves q tt tt
served_building h b c p q (Served.Creates s topic n kind id request consumer earliest replicated at is may named) = Building.Leaves q (tt, tt) (tt, tt)
served_building h b c p q (Served.Joins s topic n kind id request consumer earliest replicated v at is may named free same) = Building.Leaves q tt (tt, tt)
served_building h b c p q (Served.Alters s topic n kind id request consumer earliest replicated v at is may named free other) = Building.Leaves q (tt, tt) (tt, tt)
served_building h b c p q (Served.Permits s id permits v at is by) = Building.Leaves q tt (tt, tt)
served_building h b c p q (Served.Unsubscribes s id request v at is by last) = Building.Leaves q (tt, tt) tt
served_building h b c p q (Served.ClosesConsumer s id request v at is by) = Building.Leaves q tt (tt, tt)

-- what came from another cluster
record Quiet (h : Site) (b : Broker) (p : Plan) : Type 0 where
  writes : Silent h.own p.writes
  changes : Each (QuietChange h b) p.changes

taken_quiet : (h : Site) (b c : Broker) (x : ℕ) (p : Packet) (q : Plan) → (x ≡ h.own → ⊥) → Taken h c x p q → Quiet h b q
taken_quiet h b c x p q other (Taken.Stores id seq source e is at may new) =
    record { writes = (other_silent (is_request e.content) (x == h.own) (differ x h.own other), tt); changes = tt }
taken_quiet h b c x p q other (Taken.Unreadable is) = record { writes = tt; changes = (tt, tt) }
taken_quiet h b c x p q other (Taken.Opens topic id request name is opening) = record { writes = tt; changes = (tt, tt) }
taken_quiet h b c x p q other (Taken.Discards not shut) = record { writes = tt; changes = tt }
taken_quiet h b c x p q other (Taken.Refuses not at may) = record { writes = tt; changes = (tt, tt) }
taken_quiet h b c x p q other (Taken.Repeats id seq source e is at may old) = record { writes = tt; changes = tt }

answered_quiet : (h : Site) (b c : Broker) (y : ℕ) (p : Packet) (q : Plan) → Answered c y p q → Quiet h b q
answered_quiet h b c y p q (Answered.Stale other) = record { writes = tt; changes = tt }
answered_quiet h b c y p q (Answered.Other at other) = record { writes = tt; changes = tt }
answered_quiet h b c y p q (Answered.Opened request name at is state) = record { writes = tt; changes = (tt, tt) }
answered_quiet h b c y p q (Answered.OpenBefore request name at is state) = record { writes = tt; changes = tt }
answered_quiet h b c y p q (Answered.ClosedBefore request name at is state) = record { writes = tt; changes = tt }
answered_quiet h b c y p q (Answered.Received id n i position at is pending) = record { writes = (tt, tt); changes = (tt, tt) }
answered_quiet h b c y p q (Answered.ReceivedBefore id n position at is pending) = record { writes = tt; changes = tt }

fated_quiet : (per : ℕ) (h : Site) (b c : Broker) (Acts : Broker → Plan → Type 0) (lost q : Plan) → ((d : Broker) (r : Plan) → Acts d r → Quiet h b r) → Quiet h b lost
    → Fated per c Acts lost q → Quiet h b q
fated_quiet per h b c Acts lost q acts none (Fated.Once r t) = acts c r t
fated_quiet per h b c Acts lost q acts none Fated.Lost = none
fated_quiet per h b c Acts lost q acts none (Fated.Twice r r' t t') =
    let k = acts c r t in let k' = acts _ r' t' in
    record { writes = each_both (SilentWrite h.own) r.writes r'.writes k.writes k'.writes; changes = each_both (QuietChange h b) r.changes r'.changes k.changes k'.changes }

leaves : (h : Site) (b : Broker) (q : Plan) → Quiet h b q → Building h b q
leaves h b q k = Building.Leaves q k.writes k.changes

reads_building : (h : Site) (b : Broker) (y : ℕ) (q : Plan) → Reads h b y q → Building h b q
reads_building h b y q Reads.NothingToRead = Building.Leaves q tt tt
reads_building h b y q (Reads.Forwards i e next out) = Building.Leaves q tt (tt, tt)
reads_building h b y q (Reads.Skips i e next other) = Building.Leaves q (tt, tt) (tt, tt)
reads_building h b y q (Reads.Responds i e id source next of is) = Building.Leaves q (refl, (tt, tt)) (tt, tt)
reads_building h b y q (Reads.Counts i e id answer u u' next is heard) = Building.Counts y i e id answer u u' next is heard
reads_building h b y q (Reads.AsksAgain i e id answer u u' next is heard) = Building.AsksAgain y i e id answer u u' next is heard
reads_building h b y q (Reads.Completes i e id answer u u' next is heard) = Building.Ends q (refl, (tt, tt)) refl (tt, (tt, tt))
reads_building h b y q (Reads.CreatesAt i j e n remote next is named) = Building.Leaves q (tt, (tt, (tt, tt))) (tt, (tt, tt))
reads_building h b y q (Reads.ActsOnUpdate i j e n remote v ws next is named after) =
    Building.Leaves q (tt, each_both (SilentWrite h.own) ws (write.ReplicatorAck y i ∷ []) (updates_silent h b _ ws after) (tt, tt)) (tt, (tt, tt))

snaps_building : (h : Site) (b : Broker) (q : Plan) → Snaps h b q → Building h b q
snaps_building h b q Snaps.NothingToAsk = Building.Leaves q tt tt
snaps_building h b q (Snaps.Asks any none) = Building.Begins none

offers_building : (h : Site) (b : Broker) (n : List ℕ) (q : Plan) → Offers h b n q → Building h b q
offers_building h b n q Offers.NothingToOffer = Building.Leaves q tt tt
offers_building h b n q (Offers.Gives v i at e due is picked) = Building.Leaves q tt (tt, tt)
offers_building h b n q (Offers.SkipsMarker v i e ws due is after) = Building.Leaves q (tt, updates_silent h b _ ws after) (tt, (tt, tt))
offers_building h b n q (Offers.Caches v i j e c ws due is after) =
    Building.Leaves q (tt, updates_silent h b _ ws after) (record { sub = v; place = i; local = j; entry = e; stands = due.2; is = is }, (tt, (tt, tt)))

seeks_building : (h : Site) (b : Broker) (n : List ℕ) (to : Option Position) (q : Plan) → Seeks h b n to q → Building h b q
seeks_building h b n to q Seeks.NothingToSeek = Building.Leaves q tt tt
seeks_building h b n to q (Seeks.SeeksTo v i ws named at after) = Building.Leaves q (tt, updates_silent h b _ ws after) (tt, tt)

pub shape_building : (s : Setup) (w : World) (p : Planned) → Shape s w p → NoSelf s w → Building (site s p.topic p.cluster) (topic_at s w p.topic p.cluster) p.plan
unfolding restart
shape_building s w p (Shape.Idle t x within) none = Building.Leaves _ tt tt
shape_building s w p (Shape.Empty t x k within next) none = Building.Leaves _ tt tt
shape_building s w p (Shape.Serve x c q plan within next served) none = served_building _ _ c q plan served
shape_building s w p (Shape.Drop x c v within at) none = Building.Leaves _ tt (tt, (tt, tt))
shape_building s w p (Shape.Reset t x y within remote) none = Building.Leaves _ (tt, tt) (tt, tt)
shape_building s w p (Shape.Read t x y plan within reads) none = reads_building _ _ y plan reads
shape_building s w p (Shape.Take t x y q plan within next taken) none =
    let small = ltb-true _ _ (of_target s t x y within) in
    let other = came_other s w t x y q none small next in
    leaves (site s t y) (topic_at s w t y) plan
    (fated_quiet s.per_ledger (site s t y) (topic_at s w t y) _ _ (closes x) plan (λ c r k. taken_quiet (site s t y) (topic_at s w t y) c x q r other k) (record { writes = tt; changes = (tt, tt) }) taken)
shape_building s w p (Shape.Receipt t x y q plan within next answered) none =
    leaves (site s t x) (topic_at s w t x) plan
    (fated_quiet s.per_ledger (site s t x) (topic_at s w t x) _ _ (quiet_plan []) plan (λ c r k. answered_quiet (site s t x) (topic_at s w t x) c y q r k) (record { writes = tt; changes = tt }) answered)
shape_building s w p (Shape.Snap t x plan within snaps) none = snaps_building _ _ plan snaps
shape_building s w p (Shape.Offer t x n plan within offers) none = offers_building _ _ _ plan offers
shape_building s w p (Shape.Seek t x n to plan within seeks) none = seeks_building _ _ _ to plan seeks
shape_building s w p (Shape.Restart t x within) none = Building.Ends _ (tt, tt) refl (tt, tt)

-- what comes into caches
pub building_caches : (h : Site) (b : Broker) (p : Plan) → Building h b p → Each (CacheChange h b) p.changes
building_caches h b p (Building.Leaves q silent quiet) = each_map (QuietChange h b) (CacheChange h b) (quiet_cache h b) p.changes quiet
building_caches h b p (Building.Ends q silent ends caches) = caches
building_caches h b p (Building.Begins none) = (tt, tt)
building_caches h b p (Building.Counts y i e id answer u u' next is heard) = (tt, (tt, tt))
building_caches h b p (Building.AsksAgain y i e id answer u u' next is heard) = (tt, (tt, tt))

-- BEGINNINGS OF WRITES

-- what any beginning of them appends
pub data Requests (h : Site) (b : Broker) : List Write → Type 0 where
  NoRequest : (ws : List Write) → Silent h.own ws → Requests h b ws
  First : (ws : List Write) → appended ws ≡ []
      → Requests h b (write.Append (request_marker h b (snapshot_id (cluster_name h h.own) (next_position h.per_ledger b.ledgers))) ∷ ws)
  Second : (y i : ℕ) (id : List ℕ) (answer : ClusterPosition) (u u' : SnapshotBuilder) → b.builder ≡ Some u → Hears b y i id answer u progress.SecondRound u'
      → (ws : List Write) → appended ws ≡ [] → Requests h b (write.Append (request_marker h b (current_id u')) ∷ ws)

pub building_requests : (h : Site) (b : Broker) (p : Plan) → Building h b p → Requests h b p.writes
building_requests h b p (Building.Leaves q silent quiet) = Requests.NoRequest _ silent
building_requests h b p (Building.Ends q silent ends caches) = Requests.NoRequest _ silent
building_requests h b p (Building.Begins none) = Requests.First [] refl
building_requests h b p (Building.Counts y i e id answer u u' next is heard) = Requests.NoRequest _ (tt, tt)
building_requests h b p (Building.AsksAgain y i e id answer u u' next is heard) = Requests.Second y i id answer u u' is.2 heard (write.ReplicatorAck y i ∷ []) refl

abbrev is_empty : List Entry → Bool
is_empty [] = true
is_empty (e ∷ es) = false

take_none : (j : ℕ) (es : List Entry) → es ≡ [] → take j es ≡ []
take_none zero es is = refl
take_none (suc j) [] is = refl
take_none (suc j) (e ∷ es) is = absurd (some is)
  where
    some : e ∷ es ≡ [] → ⊥
    some h = false≢true (ap is_empty h)

still_none : (k : ℕ) (ws : List Write) → appended ws ≡ [] → appended (take k ws) ≡ []
still_none k ws none = let t = appended_take k ws in t.1 ∙ take_none t.0 (appended ws) none

pub requests_take : (h : Site) (b : Broker) (k : ℕ) (ws : List Write) → Requests h b ws → Requests h b (take k ws)
requests_take h b zero ws r = Requests.NoRequest [] tt
requests_take h b (suc k) ws (Requests.NoRequest ws' silent) = Requests.NoRequest _ (each_take (SilentWrite h.own) (suc k) ws silent)
requests_take h b (suc k) ws (Requests.First vs none) = Requests.First (take k vs) (still_none k vs none)
requests_take h b (suc k) ws (Requests.Second y i id answer u u' is heard vs none) = Requests.Second y i id answer u u' is heard (take k vs) (still_none k vs none)

none_opened : (ws : List Write) → appended ws ≡ [] → appended (ws ++ write.Ledger ∷ []) ≡ []
none_opened ws none = appended_both ws (write.Ledger ∷ []) ∙ append-nil (appended ws) ∙ none

pub requests_opened : (h : Site) (b : Broker) (ws : List Write) → Requests h b ws → Requests h b (ws ++ write.Ledger ∷ [])
requests_opened h b ws (Requests.NoRequest ws' silent) = Requests.NoRequest _ (each_both (SilentWrite h.own) ws (write.Ledger ∷ []) silent (tt, tt))
requests_opened h b ws (Requests.First vs none) = Requests.First (vs ++ write.Ledger ∷ []) (none_opened vs none)
requests_opened h b ws (Requests.Second y i id answer u u' is heard vs none) =
    Requests.Second y i id answer u u' is heard (vs ++ write.Ledger ∷ []) (none_opened vs none)

-- WHAT A RESPONSE LEAVES

abbrev is_second : Progress → Bool
is_second progress.SecondRound = true
is_second g = false

pub record Later (u : SnapshotBuilder) (r : Heard) : Type 0 where
  pub same : r.builder.id ≡ u.id
  pub later : r.builder.second ≡ false → u.second ≡ false
  pub begins : is_second r.progress ≡ true → r.builder.second ≡ true

judged_later : (u : SnapshotBuilder) → Later u (judged u)
judged_later u =
    on_if (Later u) (nat_lt (length u.heard + 1) u.clusters) _ _ (record { same = refl; later = λ h. h; begins = λ h. absurd (false≢true h) })
    (on_if (Later u) (u.second || (u.clusters == 2)) _ _ (record { same = refl; later = λ h. h; begins = λ h. absurd (false≢true h) })
    (record { same = refl; later = λ h. absurd (false≢true (sym h)); begins = λ h. refl }))

pub response_later : (u : SnapshotBuilder) (id : List ℕ) (c : ℕ) (remote local : Position) → Later u (on_response u id c remote local)
response_later u id c remote local =
    let j = judged_later (with_response u c remote local) in
    on_if (Later u) (counts u id c) _ _ (record { same = j.same; later = j.later; begins = j.begins })
    (record { same = refl; later = λ h. h; begins = λ h. absurd (false≢true h) })

-- the builder that a response left, in round two where it began that
pub heard_later : (b : Broker) (y i : ℕ) (id : List ℕ) (answer : ClusterPosition) (g : Progress) (u u' : SnapshotBuilder) → Hears b y i id answer u g u'
    → Later u (record { progress = g; builder = u' })
heard_later b y i id answer g u u' heard = subst (Later u) heard (response_later u id y answer.position (position_at b.ledgers i))

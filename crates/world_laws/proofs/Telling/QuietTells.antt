-- What neither a client's packet nor a seek brings about gains nothing that is not told already: an offer passes over a marker alone,
-- and an update of another cluster passes over markers and over what it says is told. Nothing else writes a cursor.
use Rattle.std.proofs.Common.{◌≡◌, ℕ, ◌+◌, ◌<◌, Bool, true, false, List, [], ◌∷◌, ◌++◌, length, sym, ap, subst, ◌∙◌, arith}
use Rattle.std.specs.Prelude.{Option, Some, None, ◌||◌, not, slice_get}
use Rattle.std.proofs.lemmas.Bool.{eqb-true, false≢true}
use Rattle.world_laws.proofs.Types.{ClusterPosition, Entry, Event, Fate, Packet, Session, Write}
use Rattle.world_laws.proofs.Types.event
use Rattle.world_laws.proofs.Types.sub_kind
use Rattle.world_laws.proofs.Types.write
use Rattle.geo_base.specs.Broker.{Broker, Site, written}
use Rattle.geo_base.specs.Cursor.{has}
use Rattle.geo_base.specs.Entry.{is_data, meant_for}
use Rattle.geo_base.specs.Forwarding.{closes, is_remote, receipt, reset, take_packet}
use Rattle.geo_base.specs.Laws.{IsShort}
use Rattle.geo_base.specs.Plan.{Plan, idle_plan, quiet_plan}
use Rattle.geo_base.specs.Planned.{in_range, planned, planned_in}
use Rattle.geo_base.specs.Seeking.{restart}
use Rattle.geo_base.specs.Serving.{drop_client, drop_session}
use Rattle.geo_base.specs.Settled.{SettledSoFar}
use Rattle.geo_base.specs.Setup.{Setup, sub_name}
use Rattle.geo_base.specs.Subscription.{Subscription}
use Rattle.geo_base.specs.Updating.{updated_indexes, is_updated, positions_for}
use Rattle.geo_base.specs.World.{World, site, topic_at}
use Rattle.world_laws.proofs.OnceInOrder.Appends.{written_entries}
use Rattle.world_laws.proofs.Replicating.Effects.{Each, each_both}
use Rattle.world_laws.proofs.Walks.LinkWalk.{fate_answered, fate_taken}
use Rattle.world_laws.proofs.Telling.NamesTold.{update_told}
use Rattle.world_laws.proofs.TopicOrder.NoSelf.{remote_other}
use Rattle.world_laws.proofs.Walks.OfferWalk.{offer_shape, snap_shape}
use Rattle.world_laws.proofs.Telling.Passing.{one_index, passed_over_is}
use Rattle.world_laws.proofs.Walks.ReadWalk.{read_shape}
use Rattle.world_laws.proofs.Walks.Shapes.{Answered, Fated, IsUpdate, Offers, Reads, ReadsNext, Snaps, Taken, Updates}
use Rattle.world_laws.proofs.Replicating.Sizes.{IsThere}
use Rattle.world_laws.proofs.Telling.Told.{IsTold, NamesTo, Tells, TellsAll, ToldOver, UpdateTold, told_now}
use Rattle.world_laws.proofs.Walks.Walk.{on_if, on_test}

-- A write that gains nothing for a cursor
abbrev pub GainsNone : Write → Type 0
GainsNone (write.Acks n is) = ⊥
GainsNone (write.Seek n i) = ⊥
GainsNone (write.Create n kind replicated latest) = ⊥
GainsNone w = Unit {0}

abbrev Gainless : Plan → Type 0
Gainless p = Each GainsNone p.writes

pub gains_none : (told : SettledSoFar) (t per : ℕ) (b : Broker) (ws : List Write) → Each GainsNone ws → Tells told t per b ws
gains_none told t per b [] h = tt
gains_none told t per b (write.Acks n is ∷ ws) h = absurd h.0
gains_none told t per b (write.Seek n i ∷ ws) h = absurd h.0
gains_none told t per b (write.Create n kind replicated latest ∷ ws) h = absurd h.0
gains_none told t per b (w ∷ ws) h = (tt, gains_none told t per (written per b w) ws h.1)

-- an update that follows is none
pub updates_gain : (h : Site) (b : Broker) (v : Subscription) (ws : List Write) → Updates h b v ws → Each GainsNone ws
updates_gain h b v ws Updates.NoUpdate = tt
updates_gain h b v ws (Updates.Update cut replicated passed) = (tt, tt)

-- OFFERS

-- the one index that is passed is that of a marker
marker_told : (told : SettledSoFar) (t : ℕ) (n : List ℕ) (es : List Entry) (i : ℕ) (e : Entry) → slice_get es i ≡ Some e → is_data e.content ≡ false
    → (j : ℕ) → has (i ∷ []) j ≡ true → IsTold told t n es j
marker_told told t n es i e at other j h =
    let same : i ≡ j = eqb-true i j (grind (arith, h)) in
    subst (IsTold told t n es) same (e, at, λ message. absurd (false≢true (sym other ∙ message)))

offers_tell : (told : SettledSoFar) (t : ℕ) (h : Site) (b : Broker) (n : List ℕ) (q : Plan) → Offers h b n q → Tells told t h.per_ledger b q.writes
offers_tell told t h b n q Offers.NothingToOffer = tt
offers_tell told t h b n q (Offers.Gives v i at e due is picked) = tt
offers_tell told t h b n q (Offers.SkipsMarker v i e ws due is after) =
    (marker_told told t v.name b.entries i e due.2 is, gains_none told t h.per_ledger (written h.per_ledger b (write.Acks v.name (i ∷ []))) ws (updates_gain h b _ ws after))
offers_tell told t h b n q (Offers.Caches v i j e c ws due is after) = (
  marker_told told t v.name b.entries i e due.2 (ap is_data is.3),
  gains_none told t h.per_ledger (written h.per_ledger b (write.Acks v.name (i ∷ []))) ws (updates_gain h b _ ws after),
)

-- UPDATES OF OTHER CLUSTERS

meant : (y : ℕ) (e : Entry) → is_updated y e ≡ true → is_data e.content ≡ true → meant_for y e ≡ true
meant y e h message = subst (λ (t : Bool). (not t || meant_for y e) ≡ true) message h

-- j is the index that an update of y names here
passed_over_told : (told : SettledSoFar) (t y j : ℕ) (n : List ℕ) (remote : List ClusterPosition) (x : ℕ) (b : Broker) → (names : NamesTo told t y n remote x b)
    → names.1 ≡ j → (i : ℕ) → has (updated_indexes y 0 (j + 1) b.entries) i ≡ true → IsTold told t n b.entries i
passed_over_told told t y j n remote x b names same i h =
    let o = passed_over_is y 0 (j + 1) b.entries i h in
    let small = o.small in let at = o.is in
    let here : o.place ≡ i = omega (arith, at) in
    subst (IsTold told t n b.entries) here
    (o.entry, o.at, λ message. names.4 o.place o.entry (omega (arith, small, same)) o.at message (meant y o.entry o.passed message))

-- each update that is read, wherever that is, names only what is told
abbrev pub ReadsTold : Setup → World → SettledSoFar → Type 0
ReadsTold s w told = (t x y i j : ℕ) (e : Entry) (n : List ℕ) (remote : List ClusterPosition) → IsThere s t x
    → ReadsNext (site s t x) (topic_at s w t x) y i e → IsUpdate (site s t x) (topic_at s w t x) y e n remote j → UpdateTold s w told t y n remote

-- the update e of y stands at index i of x's topic
names_here : (s : Setup) (w : World) (told : SettledSoFar) (t x y i j : ℕ) (e : Entry) (n : List ℕ) (remote : List ClusterPosition) → ReadsTold s w told → IsThere s t x
    → ReadsNext (site s t x) (topic_at s w t x) y i e → IsUpdate (site s t x) (topic_at s w t x) y e n remote j
    → (m : ℕ) → has (updated_indexes y 0 (j + 1) (topic_at s w t x).entries) m ≡ true → IsTold told t n (topic_at s w t x).entries m
names_here s w told t x y i j e n remote read there next is =
    let b = topic_at s w t x in
    let names = read t x y i j e n remote there next is x there.1 (remote_other (site s t x) y next.0) in
    passed_over_told told t y j n remote x b names (one_index b.ledgers (positions_for x remote) names.0 names.1 j names.2 names.3 is.2)

-- a creation at Earliest gains nothing
create_none : (told : SettledSoFar) (t : ℕ) (n : List ℕ) (b : Broker) (i : ℕ) → false ≡ true → i < length b.entries → IsTold told t n b.entries i
create_none told t n b i never lt = absurd (false≢true never)

reads_tell : (s : Setup) (w : World) (told : SettledSoFar) (t x y : ℕ) (q : Plan) → ReadsTold s w told → IsThere s t x → Reads (site s t x) (topic_at s w t x) y q
    → Tells told t s.per_ledger (topic_at s w t x) q.writes
reads_tell s w told t x y q read there Reads.NothingToRead = tt
reads_tell s w told t x y q read there (Reads.Forwards i e next out) = tt
reads_tell s w told t x y q read there (Reads.Skips i e next other) = (tt, tt)
reads_tell s w told t x y q read there (Reads.Responds i e id source next of is) = (tt, (tt, tt))
reads_tell s w told t x y q read there (Reads.Counts i e id answer u u' next is heard) = (tt, tt)
reads_tell s w told t x y q read there (Reads.AsksAgain i e id answer u u' next is heard) = (tt, (tt, tt))
reads_tell s w told t x y q read there (Reads.Completes i e id answer u u' next is heard) = (tt, (tt, tt))
reads_tell s w told t x y q read there (Reads.CreatesAt i j e n remote next is absent) =
    let b = topic_at s w t x in
    let same = written_entries s.per_ledger b (write.Create n sub_kind.Exclusive true false ∷ []) in
    let P : List Entry → Type 0 = λ es. (m : ℕ) → has (updated_indexes y 0 (j + 1) b.entries) m ≡ true → IsTold told t n es m in
    (create_none told t n b, (subst P (sym same) (names_here s w told t x y i j e n remote read there next is), (tt, tt)))
reads_tell s w told t x y q read there (Reads.ActsOnUpdate i j e n remote v ws next is found after) =
    let b = topic_at s w t x in
    let acks = write.Acks n (updated_indexes y 0 (j + 1) b.entries) in (
      names_here s w told t x y i j e n remote read there next is,
      gains_none told t s.per_ledger (written s.per_ledger b acks) (ws ++ write.ReplicatorAck y i ∷ [])
          (each_both GainsNone ws (write.ReplicatorAck y i ∷ []) (updates_gain (site s t x) b _ ws after) (tt, tt)),
    )

-- ALL ELSE

taken_gains : (h : Site) (b : Broker) (x : ℕ) (p : Packet) (q : Plan) → Taken h b x p q → Gainless q
taken_gains h b x p q (Taken.Stores id seq source e is at may new) = (tt, tt)
taken_gains h b x p q (Taken.Unreadable is) = tt
taken_gains h b x p q (Taken.Opens topic id request name is opening) = tt
taken_gains h b x p q (Taken.Discards not shut) = tt
taken_gains h b x p q (Taken.Refuses not at may) = tt
taken_gains h b x p q (Taken.Repeats id seq source e is at may stands) = tt

answered_gains : (b : Broker) (y : ℕ) (p : Packet) (q : Plan) → Answered b y p q → Gainless q
answered_gains b y p q (Answered.Stale other) = tt
answered_gains b y p q (Answered.Other at other) = tt
answered_gains b y p q (Answered.Opened request name at is state) = tt
answered_gains b y p q (Answered.OpenBefore request name at is state) = tt
answered_gains b y p q (Answered.ClosedBefore request name at is state) = tt
answered_gains b y p q (Answered.Received id n i position at is pending) = (tt, tt)
answered_gains b y p q (Answered.ReceivedBefore id n position at is pending) = tt

fated_gains : (per : ℕ) (b : Broker) (Acts : Broker → Plan → Type 0) (lost q : Plan) → ((c : Broker) (r : Plan) → Acts c r → Gainless r) → Gainless lost
    → Fated per b Acts lost q → Gainless q
fated_gains per b Acts lost q acts none (Fated.Once r t) = acts b r t
fated_gains per b Acts lost q acts none Fated.Lost = none
fated_gains per b Acts lost q acts none (Fated.Twice r r' t t') = each_both GainsNone r.writes r'.writes (acts b r t) (acts _ r' t')

packet_gains : (h : Site) (b : Broker) (x : ℕ) (f : Fate) (o : Option Packet) → Gainless (take_packet h b x f o)
unfolding take_packet
packet_gains h b x f None = tt
packet_gains h b x f (Some p) = fated_gains h.per_ledger b (λ c. Taken h c x p) (closes x) _ (λ c r k. taken_gains h c x p r k) tt (fate_taken h b x p f)

receipt_gains : (h : Site) (b : Broker) (y : ℕ) (f : Fate) (o : Option Packet) → Gainless (receipt h b y f o)
unfolding receipt
receipt_gains h b y f None = tt
receipt_gains h b y f (Some p) = fated_gains h.per_ledger b (λ c. Answered c y p) (quiet_plan []) _ (λ c r k. answered_gains c y p r k) tt (fate_answered h b y p f)

drop_gains : (c : ℕ) (o : Option Session) → Gainless (drop_session c o)
drop_gains c None = tt
drop_gains c (Some v) = tt

reset_gains : (h : Site) (b : Broker) (y : ℕ) → Gainless (reset h b y)
unfolding reset
reset_gains h b y = on_if Gainless (is_remote h y) _ idle_plan (tt, tt) tt

snaps_gain : (h : Site) (b : Broker) (q : Plan) → Snaps h b q → Gainless q
snaps_gain h b q Snaps.NothingToAsk = tt
snaps_gain h b q (Snaps.Asks any none) = (tt, tt)

-- THE EVENTS

-- an event that settles nothing, whatever comes
abbrev pub settles_none : Event → Bool
settles_none (event.Serve x c) = false
settles_none (event.Seek t x n to) = false
settles_none e = true

quiet_planned : (s : Setup) (w : World) (told : SettledSoFar) (e : Event) → in_range s e ≡ true → settles_none e ≡ true → (IsShort w → ReadsTold s w told) → TellsAll s w told (planned_in s w e)
unfolding drop_client restart
quiet_planned s w told (event.Serve x c) within quiet h = absurd (false≢true quiet)
quiet_planned s w told (event.Seek t x n to) within quiet h = absurd (false≢true quiet)
quiet_planned s w told (event.Drop x c) within quiet h = λ short there. gains_none told _ s.per_ledger _ _ (drop_gains c _)
quiet_planned s w told (event.Reset t x y) within quiet h = λ short there. gains_none told t s.per_ledger _ _ (reset_gains (site s t x) (topic_at s w t x) y)
quiet_planned s w told (event.Read t x y) within quiet h = λ short there.
    reads_tell s w told t x y _ (h short) there (read_shape (site s t x) (topic_at s w t x) y)
quiet_planned s w told (event.Take t x y f) within quiet h = λ short there. gains_none told t s.per_ledger _ _ (packet_gains (site s t y) (topic_at s w t y) x f _)
quiet_planned s w told (event.Receipt t x y f) within quiet h = λ short there. gains_none told t s.per_ledger _ _ (receipt_gains (site s t x) (topic_at s w t x) y f _)
quiet_planned s w told (event.Snap t x) within quiet h = λ short there.
    gains_none told t s.per_ledger _ _ (snaps_gain (site s t x) (topic_at s w t x) _ (snap_shape (site s t x) (topic_at s w t x)))
quiet_planned s w told (event.Offer t x n) within quiet h = λ short there.
    offers_tell told t (site s t x) (topic_at s w t x) (sub_name s t n) _ (offer_shape (site s t x) (topic_at s w t x) (sub_name s t n))
quiet_planned s w told (event.Restart t x) within quiet h = λ short there. (tt, tt)
quiet_planned s w told (event.Go c) within quiet h = tt
quiet_planned s w told (event.Get c) within quiet h = tt
quiet_planned s w told (event.Reconnect c) within quiet h = tt

pub quiet_told : (s : Setup) (w : World) (told : SettledSoFar) (e : Event) → settles_none e ≡ true → (IsShort w → ReadsTold s w told) → TellsAll s w told (planned s w e)
unfolding planned
quiet_told s w told e quiet h = on_test (TellsAll s w told) (in_range s e) (planned_in s w e) None (λ within. quiet_planned s w told e within quiet h) (λ _. tt)

-- where all updates name only what is told
pub quiet_tells : (s : Setup) (w : World) (told : SettledSoFar) (e : Event) → settles_none e ≡ true → ToldOver s told w → TellsAll s w told (planned s w e)
quiet_tells s w told e quiet h =
    quiet_told s w told e quiet (λ short t x y i j f n remote there next is.
    let now = told_now s told w h short in update_told s w told t x i y f n remote now.knows now.kept there next.2 is.0.1 is.1)

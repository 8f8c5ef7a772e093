-- Of the writes of an event none looks at what another one before it changed, as far as a trace tells: so each line may be told at
-- the broker as it is before the event.
use Rattle.std.proofs.Common.{◌≡◌, ℕ, zero, suc, ◌+◌, Bool, true, false, List, [], ◌∷◌, ◌++◌, refl, sym, ap, ◌∙◌, arith, not}
use Rattle.std.specs.Prelude.{Option, Some, None, if◌then◌else◌, is_some, take}
use Rattle.std.specs.Str.{bytes_eq}
use Rattle.std.proofs.lemmas.Bool.{false≢true}
use Rattle.std.proofs.lemmas.Bool.Decides.{nat_tests}
use Rattle.std.proofs.lemmas.Slice.Eq.{bytes_eq-Decides}
use Rattle.world_laws.proofs.Types.{Content, Entry, Event, Fate, Frame, Packet, ClusterRef, Position, Session, Write}
use Rattle.world_laws.proofs.Types.content
use Rattle.world_laws.proofs.Types.event
use Rattle.world_laws.proofs.Types.frame
use Rattle.world_laws.proofs.Types.marker
use Rattle.world_laws.proofs.Types.sub_kind
use Rattle.world_laws.proofs.Types.write
use Rattle.geo_base.specs.declared.planned.Cause.{Cause}
use Rattle.geo_base.specs.Broker.{Broker, Site, session_at, sub_named, written}
use Rattle.geo_base.specs.Entry.{with_origin}
use Rattle.geo_base.specs.Forwarding.{closes, is_remote, receipt, reset, take_packet}
use Rattle.geo_base.specs.Plan.{Plan, done, idle_plan, quiet_plan}
use Rattle.geo_base.specs.Planned.{broker_plan}
use Rattle.geo_base.specs.Seeking.{restart}
use Rattle.geo_base.specs.Serving.{drop_client, drop_session, serve}
use Rattle.geo_base.specs.Setup.{Setup, declared_at, sub_name}
use Rattle.geo_base.specs.Subscription.{Subscription, new_subscription}
use Rattle.geo_base.specs.Topic.{accepts, next_position}
use Rattle.geo_base.specs.TraceItems.{Act, Acks, Appends}
use Rattle.geo_base.specs.Traced.{act_of, acts_of, cursor_of, gained, snapshot_told}
use Rattle.geo_base.specs.Updating.{updated_indexes}
use Rattle.geo_base.specs.World.{site}
use Rattle.world_laws.proofs.OnceInOrder.Appends.{after_writes, done_entries}
use Rattle.world_laws.proofs.Replicating.Effects.{Each, each_both}
use Rattle.world_laws.proofs.Walks.LinkWalk.{fate_answered, fate_taken}
use Rattle.world_laws.proofs.Walks.OfferWalk.{offer_shape, seek_shape, snap_shape}
use Rattle.world_laws.proofs.Walks.ReadWalk.{read_shape}
use Rattle.world_laws.proofs.Walks.ServeWalk.{frame_served}
use Rattle.world_laws.proofs.Walks.Shapes.{Answered, Fated, Offers, Reads, Seeks, Served, Snaps, Taken, Updates}
use Rattle.world_laws.proofs.Walks.Walk.{on_if}
use Rattle.kept_laws.specs.Events.{cluster_of, topic_of}
use Rattle.trace_runs.specs.Acts.{acts_before}

-- ---- writes after others

-- the lines of the first so many of these writes, told one after another from b on, are those that are told at a
abbrev pub Apart : Site → Cause → (b a : Broker) → List Write → Type 0
Apart h c b a ws = (k : ℕ) → acts_of h c b (take k ws) ≡ acts_before h c a (take k ws)

-- a write whose line is the same at every broker
abbrev Anywhere : Site → Cause → Write → Type 0
Anywhere h c w = (b a : Broker) → act_of h c b w ≡ act_of h c a w

none_apart : (h : Site) (c : Cause) (b a : Broker) → Apart h c b a []
none_apart h c b a zero = refl
none_apart h c b a (suc k) = refl

-- one write, and those after it
one_apart : (h : Site) (c : Cause) (b a : Broker) (w : Write) (ws : List Write) → act_of h c b w ≡ act_of h c a w → Apart h c (written h.per_ledger b w) a ws → Apart h c b a (w ∷ ws)
one_apart h c b a w ws one rest zero = refl
one_apart h c b a w ws one rest (suc k) =
    ap (λ (ds : List Act). ds ++ acts_of h c (written h.per_ledger b w) (take k ws)) one ∙ ap (λ (ds : List Act). act_of h c a w ++ ds) (rest k)

still_apart : (h : Site) (c : Cause) (b a : Broker) (ws : List Write) → Each (Anywhere h c) ws → Apart h c b a ws
still_apart h c b a [] all = none_apart h c b a
still_apart h c b a (w ∷ ws) all = one_apart h c b a w ws (all.0 b a) (still_apart h c (written h.per_ledger b w) a ws all.1)

-- an append tells of the topic alone
append_same : (h : Site) (c : Cause) (b a : Broker) (e : Entry) → b.entries ≡ a.entries → b.ledgers ≡ a.ledgers → act_of h c b (write.Append e) ≡ act_of h c a (write.Append e)
append_same h c b a e entries ledgers =
    ap (λ (ls : List ℕ). Appends (next_position h.per_ledger ls) e (snapshot_told h b e e.content) ∷ []) ledgers
    ∙ ap (λ (o : Option Position). Appends (next_position h.per_ledger a.ledgers) e o ∷ []) (told e.content)
  where
    told : (k : Content) → snapshot_told h b e k ≡ snapshot_told h a e k
    told content.Data = refl
    told (content.Marked (marker.Request id source)) = refl
    told (content.Marked (marker.Response id answer)) = refl
    told (content.Marked (marker.Snapshot id local remote)) = refl
    told (content.Marked (marker.Update n remote)) = rw (entries, ledgers) refl
    told (content.Unread k) = refl

append_apart : (h : Site) (c : Cause) (b a : Broker) (e : Entry) (ws : List Write) → b.entries ≡ a.entries → b.ledgers ≡ a.ledgers → Each (Anywhere h c) ws
    → Apart h c b a (write.Append e ∷ ws)
append_apart h c b a e ws entries ledgers all =
    one_apart h c b a (write.Append e) ws (append_same h c b a e entries ledgers) (still_apart h c (written h.per_ledger b (write.Append e)) a ws all)

-- what follows a write of a cursor, and then the replicator's
updates_apart : (h : Site) (c : Cause) (b a : Broker) (v : Subscription) (ws vs : List Write) → b.entries ≡ a.entries → b.ledgers ≡ a.ledgers → Updates h a v ws → Each (Anywhere h c) vs
    → Apart h c b a (ws ++ vs)
updates_apart h c b a v ws vs entries ledgers Updates.NoUpdate all = still_apart h c b a vs all
updates_apart h c b a v ws vs entries ledgers (Updates.Update cut replicated passed) all = append_apart h c b a _ vs entries ledgers all

follows : (h : Site) (c : Cause) (b a : Broker) (v : Subscription) (ws : List Write) → b.entries ≡ a.entries → b.ledgers ≡ a.ledgers → Updates h a v ws → Apart h c b a ws
follows h c b a v ws entries ledgers Updates.NoUpdate = none_apart h c b a
follows h c b a v ws entries ledgers (Updates.Update cut replicated passed) = append_apart h c b a _ [] entries ledgers tt

-- ---- shapes

served_apart : (h : Site) (c : Cause) (b : Broker) (k : ℕ) (p : Packet) (q : Plan) → Served h b k p q → Apart h c b b q.writes
served_apart h c b k p q (Served.Stores v id seq source e at sound accepted) = append_apart h c b b (with_origin h.own e) [] refl refl tt
served_apart h c b k p q (Served.Creates v topic m kind id request consumer earliest replicated at is may named) = still_apart h c b b _ ((λ b' a'. refl), tt)
served_apart h c b k p q (Served.Alters v topic m kind id request consumer earliest replicated u at is may named free other) = still_apart h c b b _ ((λ b' a'. refl), tt)
served_apart h c b k p q (Served.Acknowledges v id kind ps u i is ws at is_ack by of after) =
    one_apart h c b b (write.Acks u.name (i ∷ is)) ws refl (follows h c _ b _ ws refl refl after)
served_apart h c b k p q (Served.Unsubscribes v id request u at is by last) = still_apart h c b b _ ((λ b' a'. refl), tt)
served_apart h c b k p q Served.Ignores = none_apart h c b b
served_apart h c b k p q Served.Disconnects = none_apart h c b b
served_apart h c b k p q (Served.Connects v is made) = none_apart h c b b
served_apart h c b k p q (Served.Answers v f at) = none_apart h c b b
served_apart h c b k p q (Served.ChangesProducers v ps f at) = none_apart h c b b
served_apart h c b k p q (Served.Repeats v id seq source e at sound old) = none_apart h c b b
served_apart h c b k p q (Served.Joins v topic m kind id request consumer earliest replicated u at is may named free same) = none_apart h c b b
served_apart h c b k p q (Served.Permits v id permits u at is by) = none_apart h c b b
served_apart h c b k p q (Served.ClosesConsumer v id request u at is by) = none_apart h c b b

snaps_apart : (h : Site) (c : Cause) (b : Broker) (q : Plan) → Snaps h b q → Apart h c b b q.writes
snaps_apart h c b q Snaps.NothingToAsk = none_apart h c b b
snaps_apart h c b q (Snaps.Asks any none) = append_apart h c b b _ [] refl refl tt

offers_apart : (h : Site) (c : Cause) (b : Broker) (n : List ℕ) (q : Plan) → Offers h b n q → Apart h c b b q.writes
offers_apart h c b n q Offers.NothingToOffer = none_apart h c b b
offers_apart h c b n q (Offers.Gives v i at e due is picked) = none_apart h c b b
offers_apart h c b n q (Offers.SkipsMarker v i e ws due silent after) = one_apart h c b b (write.Acks v.name (i ∷ [])) ws refl (follows h c _ b _ ws refl refl after)
offers_apart h c b n q (Offers.Caches v i j e k ws due is after) = one_apart h c b b (write.Acks v.name (i ∷ [])) ws refl (follows h c _ b _ ws refl refl after)

seeks_apart : (h : Site) (c : Cause) (b : Broker) (n : List ℕ) (to : Option Position) (q : Plan) → Seeks h b n to q → Apart h c b b q.writes
seeks_apart h c b n to q Seeks.NothingToSeek = none_apart h c b b
seeks_apart h c b n to q (Seeks.SeeksTo v i ws named at after) = one_apart h c b b (write.Seek v.name i) ws refl (follows h c _ b _ ws refl refl after)

-- a subscription that is created has the cursor that none has
new_cursor : (vs : List Subscription) (u : Subscription) (n : List ℕ) → u.cursor ≡ [] → sub_named vs n ≡ None → cursor_of (sub_named (vs ++ u ∷ []) n) ≡ []
new_cursor [] u n is none = by (bytes_eq u.name n)
  where
    by : (b : Bool) → cursor_of (if b then Some u else None) ≡ []
    by true = is
    by false = refl
new_cursor (v ∷ vs) u n is none = by (bytes_eq v.name n) refl none (new_cursor vs u n is)
  where
    by : (b : Bool) → bytes_eq v.name n ≡ b → (if b then Some v else sub_named vs n) ≡ None → (sub_named vs n ≡ None → cursor_of (sub_named (vs ++ u ∷ []) n) ≡ [])
        → cursor_of (if b then Some v else sub_named (vs ++ u ∷ []) n) ≡ []
    by true same missing ih = cc
    by false same missing ih = ih missing

created_acks : (h : Site) (c : Cause) (b : Broker) (n is : List ℕ) → sub_named b.subs n ≡ None
    → act_of h c (written h.per_ledger b (write.Create n sub_kind.Exclusive true false)) (write.Acks n is) ≡ act_of h c b (write.Acks n is)
created_acks h c b n is none = ap (λ (set : List ℕ). Acks n (gained set is) c ∷ []) (cursor ∙ sym old)
  where
    new : Subscription
    new = new_subscription n sub_kind.Exclusive true []

    more : Broker
    more = record b { subs = b.subs ++ new ∷ [] }

    made : written h.per_ledger b (write.Create n sub_kind.Exclusive true false) ≡ more
    made = ap (λ (o : Option Subscription). if is_some o then b else more) none

    cursor : cursor_of (sub_named (written h.per_ledger b (write.Create n sub_kind.Exclusive true false)).subs n) ≡ []
    cursor = ap (λ (d : Broker). cursor_of (sub_named d.subs n)) made ∙ new_cursor b.subs new n refl none

    old : cursor_of (sub_named b.subs n) ≡ []
    old = ap cursor_of none

reads_apart : (h : Site) (c : Cause) (b : Broker) (y : ℕ) (q : Plan) → Reads h b y q → Apart h c b b q.writes
reads_apart h c b y q Reads.NothingToRead = none_apart h c b b
reads_apart h c b y q (Reads.Forwards i e next out) = none_apart h c b b
reads_apart h c b y q (Reads.Skips i e next out) = still_apart h c b b _ ((λ b' a'. refl), tt)
reads_apart h c b y q (Reads.Responds i e id source next is said) = append_apart h c b b _ _ refl refl ((λ b' a'. refl), tt)
reads_apart h c b y q (Reads.Counts i e id answer u u' next is heard) = still_apart h c b b _ ((λ b' a'. refl), tt)
reads_apart h c b y q (Reads.AsksAgain i e id answer u u' next is heard) = append_apart h c b b _ _ refl refl ((λ b' a'. refl), tt)
reads_apart h c b y q (Reads.Completes i e id answer u u' next is heard) = append_apart h c b b _ _ refl refl ((λ b' a'. refl), tt)
reads_apart h c b y q (Reads.CreatesAt i j e n remote next is none) =
    one_apart h c b b (write.Create n sub_kind.Exclusive true false) _ refl
    (one_apart h c (written h.per_ledger b (write.Create n sub_kind.Exclusive true false)) b (write.Acks n (updated_indexes y 0 (j + 1) b.entries)) _ (created_acks h c b n (updated_indexes y 0 (j + 1) b.entries) none)
    (still_apart h c _ b _ ((λ b' a'. refl), tt)))
reads_apart h c b y q (Reads.ActsOnUpdate i j e n remote v ws next is found after) =
    one_apart h c b b (write.Acks n _) _ refl (updates_apart h c _ b _ ws _ refl refl after ((λ b' a'. refl), tt))

-- ---- a packet that is acted on twice: it stores its entry once

once_refused : (es : List Entry) (e : Entry) → accepts (es ++ e ∷ []) e.ident ≡ false
once_refused [] e =
    let same : bytes_eq e.ident.producer e.ident.producer ≡ true = (bytes_eq-Decides e.ident.producer e.ident.producer).1 refl in
    grind (arith, nat_tests, same)
once_refused (f ∷ es) e = grind (arith, once_refused es e)

-- what one act stores, if it stores
data Stored (x : ℕ) (p : Packet) (b : Broker) : List Write → Type 0 where
  Nothing : Stored x p b []
  One : (id seq : ℕ) (source : Option ClusterRef) (e : Entry) → p.frame ≡ frame.Send id seq source e → accepts b.entries (with_origin x e).ident ≡ true → Stored x p b (write.Append (with_origin x e) ∷ [])

stores : (h : Site) (b : Broker) (x : ℕ) (p : Packet) (q : Plan) → Taken h b x p q → Stored x p b q.writes
stores h b x p q (Taken.Stores id seq source e is at may new) = One id seq source e is new
stores h b x p q (Taken.Unreadable is) = Nothing
stores h b x p q (Taken.Opens topic id request name is opening) = Nothing
stores h b x p q (Taken.Discards not shut) = Nothing
stores h b x p q (Taken.Refuses not at may) = Nothing
stores h b x p q (Taken.Repeats id seq source e is at may old) = Nothing

entry_of : Frame → Entry → Entry
entry_of (frame.Send id seq source e) d = e
entry_of f d = d

same_entry : (f : Frame) (i j m n : ℕ) (s t : Option ClusterRef) (e d : Entry) → f ≡ frame.Send i m s e → f ≡ frame.Send j n t d → d ≡ e
unfolding entry_of
same_entry f i j m n s t e d one two = ap (λ (g : Frame). entry_of g e) (sym two ∙ one)

once_apart : (h : Site) (c : Cause) (b a : Broker) (x : ℕ) (p : Packet) (d : Broker) (ws : List Write) → b.entries ≡ a.entries → b.ledgers ≡ a.ledgers → Stored x p d ws → Apart h c b a ws
once_apart h c b a x p d ws entries ledgers Nothing = none_apart h c b a
once_apart h c b a x p d ws entries ledgers (One id seq source e is new) = append_apart h c b a (with_origin x e) [] entries ledgers tt

twice_apart : (h : Site) (c : Cause) (b d : Broker) (x : ℕ) (p : Packet) (ws vs : List Write) → Stored x p b ws → Stored x p d vs
    → ((e : Entry) → ws ≡ write.Append e ∷ [] → d.entries ≡ b.entries ++ e ∷ []) → Apart h c b b (ws ++ vs)
twice_apart h c b d x p ws vs Nothing two grows = once_apart h c b b x p d vs refl refl two
twice_apart h c b d x p ws vs (One id seq source e is new) Nothing grows = append_apart h c b b (with_origin x e) [] refl refl tt
twice_apart h c b d x p ws vs (One id seq source e is new) (One id' seq' source' e' is' new') grows = absurd (false≢true (sym refused ∙ new'))
  where
    same : e' ≡ e
    same = same_entry p.frame id id' seq seq' source source' e e' is is'

    refused : accepts d.entries (with_origin x e').ident ≡ false
    refused =
        ap (λ (f : Entry). accepts d.entries (with_origin x f).ident) same
        ∙ (ap (λ (es : List Entry). accepts es (with_origin x e).ident) (grows (with_origin x e) refl) ∙ once_refused b.entries (with_origin x e))

taken_apart : (h : Site) (c : Cause) (b : Broker) (x : ℕ) (p : Packet) (q : Plan) → Fated h.per_ledger b (λ d. Taken h d x p) (closes x) q → Apart h c b b q.writes
taken_apart h c b x p q (Fated.Once r k) = once_apart h c b b x p b r.writes refl refl (stores h b x p r k)
taken_apart h c b x p q Fated.Lost = none_apart h c b b
taken_apart h c b x p q (Fated.Twice r r' k k') = twice_apart h c b (done h.per_ledger b r) x p r.writes r'.writes (stores h b x p r k) (stores h (done h.per_ledger b r) x p r' k') (grows r)
  where
    grows : (r : Plan) (e : Entry) → r.writes ≡ write.Append e ∷ [] → (done h.per_ledger b r).entries ≡ b.entries ++ e ∷ []
    grows r e is = done_entries h.per_ledger b r ∙ ap (λ (ws : List Write). after_writes b.entries ws) is

-- ---- receipts write the replicator's cursor alone

answered_apart : (h : Site) (c : Cause) (b : Broker) (y : ℕ) (p : Packet) (q : Plan) → Answered b y p q → Each (Anywhere h c) q.writes
answered_apart h c b y p q (Answered.Stale other) = tt
answered_apart h c b y p q (Answered.Other at other) = tt
answered_apart h c b y p q (Answered.Opened request name at is state) = tt
answered_apart h c b y p q (Answered.OpenBefore request name at is state) = tt
answered_apart h c b y p q (Answered.ClosedBefore request name at is state) = tt
answered_apart h c b y p q (Answered.Received id n i position at is pending) = ((λ b' a'. refl), tt)
answered_apart h c b y p q (Answered.ReceivedBefore id n position at is pending) = tt

fated_apart : (h : Site) (c : Cause) (b : Broker) (y : ℕ) (p : Packet) (q : Plan) → Fated h.per_ledger b (λ d. Answered d y p) (quiet_plan []) q → Each (Anywhere h c) q.writes
fated_apart h c b y p q (Fated.Once r k) = answered_apart h c b y p r k
fated_apart h c b y p q Fated.Lost = tt
fated_apart h c b y p q (Fated.Twice r r' k k') = each_both (Anywhere h c) r.writes r'.writes (answered_apart h c b y p r k) (answered_apart h c _ y p r' k')

-- ---- every event

serve_apart : (h : Site) (c : Cause) (b : Broker) (k : ℕ) (o : Option Packet) → Apart h c b b (serve h b k o).writes
unfolding serve
serve_apart h c b k None = none_apart h c b b
serve_apart h c b k (Some p) = served_apart h c b k p _ (frame_served h b k p p.frame refl)

drop_apart : (h : Site) (c : Cause) (b : Broker) (k : ℕ) (o : Option Session) → Apart h c b b (drop_session k o).writes
drop_apart h c b k None = none_apart h c b b
drop_apart h c b k (Some v) = none_apart h c b b

reset_apart : (h : Site) (c : Cause) (b : Broker) (y : ℕ) → Apart h c b b (reset h b y).writes
unfolding reset
reset_apart h c b y = on_if (λ (q : Plan). Apart h c b b q.writes) (is_remote h y) _ idle_plan (still_apart h c b b _ ((λ b' a'. refl), tt)) (none_apart h c b b)

take_apart : (h : Site) (c : Cause) (b : Broker) (x : ℕ) (f : Fate) (o : Option Packet) → Apart h c b b (take_packet h b x f o).writes
unfolding take_packet
take_apart h c b x f None = none_apart h c b b
take_apart h c b x f (Some p) = taken_apart h c b x p _ (fate_taken h b x p f)

receipt_apart : (h : Site) (c : Cause) (b : Broker) (y : ℕ) (f : Fate) (o : Option Packet) → Apart h c b b (receipt h b y f o).writes
unfolding receipt
receipt_apart h c b y f None = none_apart h c b b
receipt_apart h c b y f (Some p) = still_apart h c b b _ (fated_apart h c b y p _ (fate_answered h b y p f))

-- at its broker
pub plan_apart : (s : Setup) (c : Cause) (b : Broker) (e : Event) (o : Option Packet) → Apart (site s (topic_of s e) (cluster_of e)) c b b (broker_plan s b e o).writes
unfolding drop_client restart
plan_apart s c b (event.Serve x k) o = serve_apart (site s (declared_at s k).topic x) c b k o
plan_apart s c b (event.Drop x k) o = drop_apart (site s (declared_at s k).topic x) c b k (session_at b k)
plan_apart s c b (event.Reset t x y) o = reset_apart (site s t x) c b y
plan_apart s c b (event.Read t x y) o = reads_apart (site s t x) c b y _ (read_shape (site s t x) b y)
plan_apart s c b (event.Take t x y f) o = take_apart (site s t y) c b x f o
plan_apart s c b (event.Receipt t x y f) o = receipt_apart (site s t x) c b y f o
plan_apart s c b (event.Snap t x) o = snaps_apart (site s t x) c b _ (snap_shape (site s t x) b)
plan_apart s c b (event.Offer t x n) o = offers_apart (site s t x) c b (sub_name s t n) _ (offer_shape (site s t x) b (sub_name s t n))
plan_apart s c b (event.Seek t x n to) o = seeks_apart (site s t x) c b (sub_name s t n) to _ (seek_shape (site s t x) b (sub_name s t n) to)
plan_apart s c b (event.Restart t x) o = still_apart (site s t x) c b b _ ((λ b' a'. refl), tt)
plan_apart s c b (event.Go k) o = none_apart (site s (topic_of s (event.Go k)) (cluster_of (event.Go k))) c b b
plan_apart s c b (event.Get k) o = none_apart (site s (topic_of s (event.Get k)) (cluster_of (event.Get k))) c b b
plan_apart s c b (event.Reconnect k) o = none_apart (site s (topic_of s (event.Reconnect k)) (cluster_of (event.Reconnect k))) c b b

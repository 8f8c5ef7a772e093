-- What each event appends, and why it may: messages, entries that came from another cluster, and own markers.
use Rattle.std.proofs.Common.{◌≡◌, ℕ, zero, suc, ◌<◌, true, List, [], ◌∷◌, ◌++◌, length, refl, sym, ap, subst, ◌∙◌, ◌==◌, append_assoc}
use Rattle.std.specs.Prelude.{Option, Some, None, nat_le, nat_lt, not, slice_get, is_none, take}
use Rattle.std.specs.Str.{bytes_eq}
use Rattle.std.proofs.lemmas.Bool.{ltb-true}
use Rattle.std.proofs.lemmas.List.{append-nil}
use Rattle.std.proofs.lemmas.Option.{none-some}
use Rattle.world_laws.proofs.Types.{SnapshotBuilder, ClusterPosition, Cut, Entry, Packet, ClusterRef, Position, Write}
use Rattle.world_laws.proofs.Types.content
use Rattle.world_laws.proofs.Types.marker
use Rattle.world_laws.proofs.Types.progress
use Rattle.world_laws.proofs.Types.write
use Rattle.geo_base.specs.Broker.{Broker, Site, cluster_name}
use Rattle.geo_base.specs.SnapshotBuilder.{current_id, snapshot_id}
use Rattle.geo_base.specs.Entry.{is_data, with_origin}
use Rattle.geo_base.specs.Forwarding.{closes}
use Rattle.geo_base.specs.Link.{next_packet}
use Rattle.geo_base.specs.Markers.{request_marker, response_marker, snapshot_marker}
use Rattle.geo_base.specs.Plan.{Plan, quiet_plan}
use Rattle.geo_base.specs.Planned.{Planned}
use Rattle.geo_base.specs.Producing.{is_sound}
use Rattle.geo_base.specs.Seeking.{restart}
use Rattle.geo_base.specs.Setup.{Setup}
use Rattle.geo_base.specs.Sizes.{entry_size, most_entry_size}
use Rattle.geo_base.specs.Storing.{update_marker}
use Rattle.geo_base.specs.Subscription.{Subscription}
use Rattle.geo_base.specs.Topic.{next_position}
use Rattle.geo_base.specs.World.{Forward, World, link_at, node, site, topic_at}
use Rattle.world_laws.proofs.OnceInOrder.Appends.{after_writes}
use Rattle.world_laws.proofs.Walks.EventWalk.{of_node, of_pair, of_target}
use Rattle.world_laws.proofs.TopicOrder.NoSelf.{NoSelf, remote_other}
use Rattle.world_laws.proofs.Walks.Shapes.{Answered, Fated, Hears, IsResponse, Offers, Reads, ReadsNext, Seeks, Served, Shape, Snaps, Taken, Updates}
use Rattle.world_laws.proofs.Walks.Walk.{left}
use Rattle.geo_base.proofs.Bools.{and_fourth_of_five}

-- the entries that writes append, in order
abbrev pub appended : List Write → List Entry
appended [] = []
appended (write.Append e ∷ ws) = e ∷ appended ws
appended (w ∷ ws) = appended ws

-- they come after those that stand
pub after_is : (es : List Entry) (ws : List Write) → after_writes es ws ≡ es ++ appended ws
after_is es [] = sym (append-nil es)
after_is es (write.Append e ∷ ws) = after_is (es ++ e ∷ []) ws ∙ append_assoc es (e ∷ []) (appended ws)
after_is es (w ∷ ws) = after_is es ws

pub appended_both : (ws vs : List Write) → appended (ws ++ vs) ≡ appended ws ++ appended vs
appended_both [] vs = refl
appended_both (write.Append e ∷ ws) vs = ap (λ (es : List Entry). e ∷ es) (appended_both ws vs)
appended_both (w ∷ ws) vs = appended_both ws vs

-- a beginning of the writes appends a beginning
pub appended_take : (k : ℕ) (ws : List Write) → (j : ℕ) × (appended (take k ws) ≡ take j (appended ws))
appended_take zero ws = (zero, refl)
appended_take (suc k) [] = (zero, refl)
appended_take (suc k) (write.Append e ∷ ws) = let r = appended_take k ws in (suc r.0, ap (λ (es : List Entry). e ∷ es) r.1)
appended_take (suc k) (w ∷ ws) = appended_take k ws

-- why an entry may be appended at the end of the broker b
pub data Added (h : Site) (b : Broker) : Entry → Type 0 where
  Published : (e : Entry) → e.ident.origin ≡ h.own → is_data e.content ≡ true → Added h b e
  Came : (e : Entry) (z : ℕ) → z < length h.clusters → (z ≡ h.own → ⊥) → e.ident.origin ≡ z → Added h b e
  Asked : b.builder ≡ None → Added h b (request_marker h b (snapshot_id (cluster_name h h.own) (next_position h.per_ledger b.ledgers)))
  AskedAgain : (y i : ℕ) (e : Entry) (id : List ℕ) (answer : ClusterPosition) (u u' : SnapshotBuilder) → ReadsNext h b y i e → IsResponse h b y e id answer u
      → Hears b y i id answer u progress.SecondRound u' → Added h b (request_marker h b (current_id u'))
  Responded : (y i : ℕ) (e : Entry) (id : List ℕ) (source : ClusterRef) → y < length h.clusters → (y ≡ h.own → ⊥) → slice_get b.entries i ≡ Some e
      → (e.ident.origin == y) ≡ true → e.content ≡ content.Marked (marker.Request id source) → Added h b (response_marker h b y id)
  Completed : (y i : ℕ) (e : Entry) (id : List ℕ) (answer : ClusterPosition) (u u' : SnapshotBuilder) → ReadsNext h b y i e → IsResponse h b y e id answer u
      → Hears b y i id answer u progress.Done u' → Added h b (snapshot_marker h b u')
  Updated : (v : Subscription) (cut : Cut) → Added h b (update_marker h b v.name cut)

-- An own marker comes alone, so that its index is the number of entries. A packet that is taken two times may bring two entries
pub data Adds (h : Site) (b : Broker) : List Entry → Type 0 where
  Nothing : Adds h b []
  One : (e : Entry) → Added h b e → Adds h b (e ∷ [])
  Two : (e f : Entry) (z : ℕ) → z < length h.clusters → (z ≡ h.own → ⊥) → e.ident.origin ≡ z → f.ident.origin ≡ z → Adds h b (e ∷ f ∷ [])

adds_beginning : (h : Site) (b : Broker) (j : ℕ) (es : List Entry) → Adds h b es → Adds h b (take j es)
adds_beginning h b zero es a = Adds.Nothing
adds_beginning h b (suc j) es Adds.Nothing = Adds.Nothing
adds_beginning h b (suc zero) es (Adds.One e a) = Adds.One e a
adds_beginning h b (suc (suc j)) es (Adds.One e a) = Adds.One e a
adds_beginning h b (suc zero) es (Adds.Two e f z small other of of') = Adds.One e (Added.Came e z small other of)
adds_beginning h b (suc (suc zero)) es (Adds.Two e f z small other of of') = Adds.Two e f z small other of of'
adds_beginning h b (suc (suc (suc j))) es (Adds.Two e f z small other of of') = Adds.Two e f z small other of of'

-- after a beginning of the writes
pub adds_take : (h : Site) (b : Broker) (k : ℕ) (ws : List Write) → Adds h b (appended ws) → Adds h b (appended (take k ws))
adds_take h b k ws a = let r = appended_take k ws in subst (Adds h b) (sym r.1) (adds_beginning h b r.0 (appended ws) a)

-- and after a stop there
pub adds_halt : (h : Site) (b : Broker) (k : ℕ) (ws : List Write) → Adds h b (appended ws) → Adds h b (appended (take k ws ++ write.Ledger ∷ []))
adds_halt h b k ws a =
    subst (Adds h b) (sym (appended_both (take k ws) (write.Ledger ∷ []) ∙ append-nil (appended (take k ws)))) (adds_take h b k ws a)

pub sound_data : (h : Site) (n : List ℕ) (seq : ℕ) (source : Option ClusterRef) (e : Entry) → is_sound h n seq source e ≡ true → is_data e.content ≡ true
sound_data h n seq source e sound =
    and_fourth_of_five (bytes_eq n e.ident.producer) (seq == e.ident.seq) (is_none source) (is_data e.content) (nat_le (entry_size h.clusters e) most_entry_size) sound

updates_adds : (h : Site) (b : Broker) (v : Subscription) (ws : List Write) → Updates h b v ws → Adds h b (appended ws)
updates_adds h b v ws Updates.NoUpdate = Adds.Nothing
updates_adds h b v ws (Updates.Update cut replicated passed) = Adds.One _ (Added.Updated v cut)

served_adds : (h : Site) (b : Broker) (c : ℕ) (p : Packet) (q : Plan) → Served h b c p q → Adds h b (appended q.writes)
served_adds h b c p q (Served.Stores s id seq source e at sound new) =
    Adds.One _ (Added.Published (with_origin h.own e) refl (sound_data h sound.1.0 seq source e sound.1.2))
served_adds h b c p q (Served.Acknowledges s id kind ps v i is ws at sent by of after) = updates_adds h b _ ws after
served_adds h b c p q Served.Ignores = Adds.Nothing
served_adds h b c p q Served.Disconnects = Adds.Nothing
served_adds h b c p q (Served.Connects s is new) = Adds.Nothing
served_adds h b c p q (Served.Answers s f at) = Adds.Nothing
served_adds h b c p q (Served.ChangesProducers s ps f at) = Adds.Nothing
served_adds h b c p q (Served.Repeats s id seq source e at sound old) = Adds.Nothing
served_adds h b c p q (Served.Creates s topic n kind id request consumer earliest replicated at is may named) = Adds.Nothing
served_adds h b c p q (Served.Joins s topic n kind id request consumer earliest replicated v at is may named free same) = Adds.Nothing
served_adds h b c p q (Served.Alters s topic n kind id request consumer earliest replicated v at is may named free other) = Adds.Nothing
served_adds h b c p q (Served.Permits s id permits v at is by) = Adds.Nothing
served_adds h b c p q (Served.Unsubscribes s id request v at is by last) = Adds.Nothing
served_adds h b c p q (Served.ClosesConsumer s id request v at is by) = Adds.Nothing

-- what a packet of x brings
pub data Brings (x : ℕ) : List Entry → Type 0 where
  Nothing : Brings x []
  One : (e : Entry) → e.ident.origin ≡ x → Brings x (e ∷ [])

taken_brings : (h : Site) (b : Broker) (x : ℕ) (p : Packet) (q : Plan) → Taken h b x p q → Brings x (appended q.writes)
taken_brings h b x p q (Taken.Stores id seq source e is at may new) = Brings.One _ refl
taken_brings h b x p q (Taken.Unreadable is) = Brings.Nothing
taken_brings h b x p q (Taken.Opens topic id request name is opening) = Brings.Nothing
taken_brings h b x p q (Taken.Discards other shut) = Brings.Nothing
taken_brings h b x p q (Taken.Refuses other at may) = Brings.Nothing
taken_brings h b x p q (Taken.Repeats id seq source e is at may old) = Brings.Nothing

came : (h : Site) (b : Broker) (x : ℕ) (es : List Entry) → x < length h.clusters → (x ≡ h.own → ⊥) → Brings x es → Adds h b es
came h b x es small other Brings.Nothing = Adds.Nothing
came h b x es small other (Brings.One e of) = Adds.One e (Added.Came e x small other of)

came_both : (h : Site) (b : Broker) (x : ℕ) (es fs : List Entry) → x < length h.clusters → (x ≡ h.own → ⊥) → Brings x es → Brings x fs → Adds h b (es ++ fs)
came_both h b x es fs small other Brings.Nothing k = came h b x fs small other k
came_both h b x es fs small other (Brings.One e of) Brings.Nothing = Adds.One e (Added.Came e x small other of)
came_both h b x es fs small other (Brings.One e of) (Brings.One f of') = Adds.Two e f x small other of of'

fated_adds : (per : ℕ) (h : Site) (b : Broker) (x : ℕ) (p : Packet) (q : Plan) → x < length h.clusters → (x ≡ h.own → ⊥)
    → Fated per b (λ c. Taken h c x p) (closes x) q → Adds h b (appended q.writes)
fated_adds per h b x p q small other (Fated.Once r t) = came h b x (appended r.writes) small other (taken_brings h b x p r t)
fated_adds per h b x p q small other Fated.Lost = Adds.Nothing
fated_adds per h b x p q small other (Fated.Twice r r' t t') =
    subst (Adds h b) (sym (appended_both r.writes r'.writes))
    (came_both h b x (appended r.writes) (appended r'.writes) small other (taken_brings h b x p r t) (taken_brings h _ x p r' t'))

-- receipts bring nothing
answered_appends : (b : Broker) (y : ℕ) (p : Packet) (q : Plan) → Answered b y p q → appended q.writes ≡ []
answered_appends b y p q (Answered.Stale other) = refl
answered_appends b y p q (Answered.Other at other) = refl
answered_appends b y p q (Answered.Opened request name at is state) = refl
answered_appends b y p q (Answered.OpenBefore request name at is state) = refl
answered_appends b y p q (Answered.ClosedBefore request name at is state) = refl
answered_appends b y p q (Answered.Received id n i position at is pending) = refl
answered_appends b y p q (Answered.ReceivedBefore id n position at is pending) = refl

receipts_append : (per : ℕ) (b : Broker) (y : ℕ) (p : Packet) (q : Plan) → Fated per b (λ c. Answered c y p) (quiet_plan []) q → appended q.writes ≡ []
receipts_append per b y p q (Fated.Once r t) = answered_appends b y p r t
receipts_append per b y p q Fated.Lost = refl
receipts_append per b y p q (Fated.Twice r r' t t') =
    appended_both r.writes r'.writes ∙ ap (λ (es : List Entry). es ++ appended r'.writes) (answered_appends b y p r t) ∙ answered_appends _ y p r' t'

reads_adds : (h : Site) (b : Broker) (y : ℕ) (q : Plan) → Reads h b y q → Adds h b (appended q.writes)
reads_adds h b y q Reads.NothingToRead = Adds.Nothing
reads_adds h b y q (Reads.Forwards i e next out) = Adds.Nothing
reads_adds h b y q (Reads.Skips i e next other) = Adds.Nothing
reads_adds h b y q (Reads.Responds i e id source next of is) =
    Adds.One _ (Added.Responded y i e id source (ltb-true _ _ (left (nat_lt y (length h.clusters)) (not (y == h.own)) next.0)) (remote_other h y next.0) next.2 of.1 is)
reads_adds h b y q (Reads.Counts i e id answer u u' next is heard) = Adds.Nothing
reads_adds h b y q (Reads.AsksAgain i e id answer u u' next is heard) = Adds.One _ (Added.AskedAgain y i e id answer u u' next is heard)
reads_adds h b y q (Reads.Completes i e id answer u u' next is heard) = Adds.One _ (Added.Completed y i e id answer u u' next is heard)
reads_adds h b y q (Reads.CreatesAt i j e n remote next is named) = Adds.Nothing
reads_adds h b y q (Reads.ActsOnUpdate i j e n remote v ws next is named after) =
    subst (Adds h b) (sym (appended_both ws (write.ReplicatorAck y i ∷ []) ∙ append-nil (appended ws))) (updates_adds h b _ ws after)

snaps_adds : (h : Site) (b : Broker) (q : Plan) → Snaps h b q → Adds h b (appended q.writes)
snaps_adds h b q Snaps.NothingToAsk = Adds.Nothing
snaps_adds h b q (Snaps.Asks any none) = Adds.One _ (Added.Asked none)

offers_adds : (h : Site) (b : Broker) (n : List ℕ) (q : Plan) → Offers h b n q → Adds h b (appended q.writes)
offers_adds h b n q Offers.NothingToOffer = Adds.Nothing
offers_adds h b n q (Offers.Gives v i at e due is picked) = Adds.Nothing
offers_adds h b n q (Offers.SkipsMarker v i e ws due is after) = updates_adds h b _ ws after
offers_adds h b n q (Offers.Caches v i j e c ws due is after) = updates_adds h b _ ws after

seeks_adds : (h : Site) (b : Broker) (n : List ℕ) (to : Option Position) (q : Plan) → Seeks h b n to q → Adds h b (appended q.writes)
seeks_adds h b n to q Seeks.NothingToSeek = Adds.Nothing
seeks_adds h b n to q (Seeks.SeeksTo v i ws named at after) = updates_adds h b _ ws after

-- a packet came on a link, so that it is none of a cluster to itself
pub came_other : (s : Setup) (w : World) (t x y : ℕ) (p : Packet) → NoSelf s w → y < length s.clusters → next_packet (link_at w.links (Forward (node s t x) y)) ≡ Some p
    → x ≡ y → ⊥
came_other s w t x y p none small next is =
    let P : ℕ → Type 0 = λ z. next_packet (link_at w.links (Forward (node s t z) y)) ≡ Some p in
    let at : P y = subst P is next in
    let taken = (link_at w.links (Forward (node s t y) y)).taken in
    none-some p (subst (λ (ps : List Packet). slice_get ps taken ≡ Some p) (none t y small) at)

-- what an event appends
pub shape_adds : (s : Setup) (w : World) (p : Planned) → Shape s w p → NoSelf s w → Adds (site s p.topic p.cluster) (topic_at s w p.topic p.cluster) (appended p.plan.writes)
unfolding restart
shape_adds s w p (Shape.Idle t x within) none = Adds.Nothing
shape_adds s w p (Shape.Empty t x k within next) none = Adds.Nothing
shape_adds s w p (Shape.Serve x c q plan within next served) none = served_adds _ _ c q plan served
shape_adds s w p (Shape.Drop x c v within at) none = Adds.Nothing
shape_adds s w p (Shape.Reset t x y within remote) none = Adds.Nothing
shape_adds s w p (Shape.Read t x y plan within reads) none = reads_adds _ _ y plan reads
shape_adds s w p (Shape.Take t x y q plan within next taken) none =
    let lt = ltb-true _ _ (of_node s t x (of_pair s t x y within)) in
    let small = ltb-true _ _ (of_target s t x y within) in
    fated_adds s.per_ledger (site s t y) _ x q plan lt (came_other s w t x y q none small next) taken
shape_adds s w p (Shape.Receipt t x y q plan within next answered) none =
    subst (Adds (site s t x) (topic_at s w t x)) (sym (receipts_append s.per_ledger _ y q plan answered)) Adds.Nothing
shape_adds s w p (Shape.Snap t x plan within snaps) none = snaps_adds _ _ plan snaps
shape_adds s w p (Shape.Offer t x n plan within offers) none = offers_adds _ _ _ plan offers
shape_adds s w p (Shape.Seek t x n to plan within seeks) none = seeks_adds _ _ _ to plan seeks
shape_adds s w p (Shape.Restart t x within) none = Adds.Nothing

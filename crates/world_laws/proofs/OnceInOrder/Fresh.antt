-- Every plan appends entries alone that the topic accepts: one lemma for each shape.
use Rattle.std.proofs.Common.{◌≡◌, ℕ, ◌+◌, ◌≤◌, Bool, true, false, List, [], ◌∷◌, ◌++◌, refl, sym, subst, arith}
use Rattle.std.specs.Prelude.{Option, if◌then◌else◌, ◌&&◌, ◌||◌, not, nat_lt, max}
use Rattle.std.proofs.lemmas.Bool.Decides.{nat_tests}
use Rattle.world_laws.proofs.Types.{Entry, Ident, Packet, Position, Write}
use Rattle.world_laws.proofs.Types.write
use Rattle.geo_base.specs.Broker.{Broker, Site, cluster_name}
use Rattle.geo_base.specs.SnapshotBuilder.{current_id, snapshot_id}
use Rattle.geo_base.specs.Entry.{is_own_marker, marker_producer, with_origin}
use Rattle.geo_base.specs.Forwarding.{closes}
use Rattle.geo_base.specs.Markers.{request_marker, response_marker, snapshot_marker}
use Rattle.geo_base.specs.Plan.{Plan, quiet_plan, done}
use Rattle.geo_base.specs.Planned.{Planned}
use Rattle.geo_base.specs.Seeking.{restart}
use Rattle.geo_base.specs.Setup.{Setup}
use Rattle.geo_base.specs.Storing.{update_marker}
use Rattle.geo_base.specs.Subscription.{Subscription}
use Rattle.geo_base.specs.Topic.{accepts, next_marker, next_position}
use Rattle.geo_base.specs.World.{World, site, topic_at}
use Rattle.world_laws.proofs.OnceInOrder.Appends.{done_entries, fresh, fresh_both}
use Rattle.world_laws.proofs.Walks.Shapes.{Answered, Fated, Offers, Reads, Seeks, Served, Shape, Snaps, Taken, Updates}

-- an own marker's number is above those of all own markers, so it is accepted
above_one : (own : ℕ) (e : Entry) (rest n : ℕ) (a b : Bool) → (rest ≤ n → a ≡ true)
    → (if b then max (e.ident.seq + 1) rest else rest) ≤ n
    → ((not b || nat_lt e.ident.seq n) && a) ≡ true
above_one own e rest n a true ih h = grind (arith, nat_tests)
above_one own e rest n a false ih h = ih h

above : (own : ℕ) (es : List Entry) (n : ℕ) → next_marker own es ≤ n → accepts es (record { origin = own; producer = marker_producer; seq = n }) ≡ true
above own [] n h = refl
above own (e ∷ es) n h =
    above_one own e (next_marker own es) n (accepts es (record { origin = own; producer = marker_producer; seq = n })) (is_own_marker own e) (above own es n) h

abbrev pub Fresh : Broker → Plan → Type 0
Fresh b p = fresh b.entries p.writes ≡ true

one_fresh : (es : List Entry) (e : Entry) → accepts es e.ident ≡ true → fresh es (write.Append e ∷ []) ≡ true
one_fresh es e ok = subst (λ (t : Bool). (t && true) ≡ true) (sym ok) refl

-- an entry named as the next own marker
own_fresh : (own : ℕ) (b : Broker) (e : Entry) → e.ident ≡ record { origin = own; producer = marker_producer; seq = next_marker own b.entries }
    → fresh b.entries (write.Append e ∷ []) ≡ true
own_fresh own b e is =
    one_fresh b.entries e (subst (λ (i : Ident). accepts b.entries i ≡ true) (sym is) (above own b.entries (next_marker own b.entries) (omega arith)))

-- each shape appends accepted entries alone
updates_fresh : (h : Site) (b : Broker) (v : Subscription) (ws : List Write) → Updates h b v ws → fresh b.entries ws ≡ true
updates_fresh h b v ws Updates.NoUpdate = refl
updates_fresh h b v ws (Updates.Update cut replicated passed) = own_fresh h.own b (update_marker h b v.name cut) refl

served_fresh : (h : Site) (b : Broker) (c : ℕ) (p : Packet) (q : Plan) → Served h b c p q → Fresh b q
served_fresh h b c p q (Served.Stores s id seq source e at sound new) = one_fresh b.entries (with_origin h.own e) new
served_fresh h b c p q (Served.Acknowledges s id kind ps v i is ws at sent by of after) = updates_fresh h b _ ws after
served_fresh h b c p q Served.Ignores = refl
served_fresh h b c p q Served.Disconnects = refl
served_fresh h b c p q (Served.Connects s is new) = refl
served_fresh h b c p q (Served.Answers s f at) = refl
served_fresh h b c p q (Served.ChangesProducers s ps f at) = refl
served_fresh h b c p q (Served.Repeats s id seq source e at sound old) = refl
served_fresh h b c p q (Served.Creates s topic n kind id request consumer earliest replicated at is may named) = refl
served_fresh h b c p q (Served.Joins s topic n kind id request consumer earliest replicated v at is may named free same) = refl
served_fresh h b c p q (Served.Alters s topic n kind id request consumer earliest replicated v at is may named free other) = refl
served_fresh h b c p q (Served.Permits s id permits v at is by) = refl
served_fresh h b c p q (Served.Unsubscribes s id request v at is by last) = refl
served_fresh h b c p q (Served.ClosesConsumer s id request v at is by) = refl

taken_fresh : (h : Site) (b : Broker) (x : ℕ) (p : Packet) (q : Plan) → Taken h b x p q → Fresh b q
taken_fresh h b x p q (Taken.Stores id seq source e is at may new) = one_fresh b.entries (with_origin x e) new
taken_fresh h b x p q (Taken.Unreadable is) = refl
taken_fresh h b x p q (Taken.Opens topic id request name is opening) = refl
taken_fresh h b x p q (Taken.Discards other shut) = refl
taken_fresh h b x p q (Taken.Refuses other at may) = refl
taken_fresh h b x p q (Taken.Repeats id seq source e is at may old) = refl

answered_fresh : (b : Broker) (y : ℕ) (p : Packet) (q : Plan) → Answered b y p q → Fresh b q
answered_fresh b y p q (Answered.Stale other) = refl
answered_fresh b y p q (Answered.Other at other) = refl
answered_fresh b y p q (Answered.Opened request name at is state) = refl
answered_fresh b y p q (Answered.OpenBefore request name at is state) = refl
answered_fresh b y p q (Answered.ClosedBefore request name at is state) = refl
answered_fresh b y p q (Answered.Received id n i position at is pending) = refl
answered_fresh b y p q (Answered.ReceivedBefore id n position at is pending) = refl

fated_fresh : (per : ℕ) (b : Broker) (Acts : Broker → Plan → Type 0) (lost : Plan) (q : Plan)
    → ((c : Broker) (p : Plan) → Acts c p → Fresh c p) → Fresh b lost → Fated per b Acts lost q → Fresh b q
fated_fresh per b Acts lost q f l (Fated.Once p a) = f b p a
fated_fresh per b Acts lost q f l Fated.Lost = l
fated_fresh per b Acts lost q f l (Fated.Twice p p' a a') =
    fresh_both b.entries p.writes p'.writes (f b p a) (subst (λ es. fresh es p'.writes ≡ true) (done_entries per b p) (f (done per b p) p' a'))

-- what a replicator read is acknowledged after writes of its own
handled_fresh : (es : List Entry) (y i : ℕ) (ws : List Write) → fresh es ws ≡ true → fresh es (ws ++ write.ReplicatorAck y i ∷ []) ≡ true
handled_fresh es y i ws h = fresh_both es ws (write.ReplicatorAck y i ∷ []) h refl

reads_fresh : (h : Site) (b : Broker) (y : ℕ) (q : Plan) → Reads h b y q → Fresh b q
reads_fresh h b y q Reads.NothingToRead = refl
reads_fresh h b y q (Reads.Forwards i e next out) = refl
reads_fresh h b y q (Reads.Skips i e next other) = refl
reads_fresh h b y q (Reads.Responds i e id source next of is) =
    handled_fresh b.entries y i (write.Append (response_marker h b y id) ∷ []) (own_fresh h.own b (response_marker h b y id) refl)
reads_fresh h b y q (Reads.Counts i e id answer u u' next is heard) = refl
reads_fresh h b y q (Reads.AsksAgain i e id answer u u' next is heard) =
    handled_fresh b.entries y i (write.Append (request_marker h b (current_id u')) ∷ []) (own_fresh h.own b (request_marker h b (current_id u')) refl)
reads_fresh h b y q (Reads.Completes i e id answer u u' next is heard) =
    handled_fresh b.entries y i (write.Append (snapshot_marker h b u') ∷ []) (own_fresh h.own b (snapshot_marker h b u') refl)
reads_fresh h b y q (Reads.CreatesAt i j e n remote next is named) = refl
reads_fresh h b y q (Reads.ActsOnUpdate i j e n remote v ws next is named after) = handled_fresh b.entries y i ws (updates_fresh h b _ ws after)

snaps_fresh : (h : Site) (b : Broker) (q : Plan) → Snaps h b q → Fresh b q
snaps_fresh h b q Snaps.NothingToAsk = refl
snaps_fresh h b q (Snaps.Asks any none) = own_fresh h.own b (request_marker h b (snapshot_id (cluster_name h h.own) (next_position h.per_ledger b.ledgers))) refl

offers_fresh : (h : Site) (b : Broker) (n : List ℕ) (q : Plan) → Offers h b n q → Fresh b q
offers_fresh h b n q Offers.NothingToOffer = refl
offers_fresh h b n q (Offers.Gives v i at e due is picked) = refl
offers_fresh h b n q (Offers.SkipsMarker v i e ws due is after) = updates_fresh h b _ ws after
offers_fresh h b n q (Offers.Caches v i j e c ws due is after) = updates_fresh h b _ ws after

seeks_fresh : (h : Site) (b : Broker) (n : List ℕ) (to : Option Position) (q : Plan) → Seeks h b n to q → Fresh b q
seeks_fresh h b n to q Seeks.NothingToSeek = refl
seeks_fresh h b n to q (Seeks.SeeksTo v i ws named at after) = updates_fresh h b _ ws after

pub restart_fresh : (b : Broker) → Fresh b restart
unfolding restart
restart_fresh b = refl

-- whatever an event does
pub shape_fresh : (s : Setup) (w : World) (p : Planned) → Shape s w p → Fresh (topic_at s w p.topic p.cluster) p.plan
shape_fresh s w p (Shape.Idle t x within) = refl
shape_fresh s w p (Shape.Empty t x k within next) = refl
shape_fresh s w p (Shape.Serve x c q plan within next served) = served_fresh _ _ c q plan served
shape_fresh s w p (Shape.Drop x c v within at) = refl
shape_fresh s w p (Shape.Reset t x y within remote) = refl
shape_fresh s w p (Shape.Read t x y plan within reads) = reads_fresh _ _ y plan reads
shape_fresh s w p (Shape.Take t x y q plan within next taken) =
    fated_fresh s.per_ledger _ (λ b. Taken (site s t y) b x q) (closes x) plan (λ b p taken. taken_fresh (site s t y) b x q p taken) refl taken
shape_fresh s w p (Shape.Receipt t x y q plan within next answered) =
    fated_fresh s.per_ledger _ (λ b. Answered b y q) (quiet_plan []) plan (λ b p answered. answered_fresh b y q p answered) refl answered
shape_fresh s w p (Shape.Snap t x plan within snaps) = snaps_fresh _ _ plan snaps
shape_fresh s w p (Shape.Offer t x n plan within offers) = offers_fresh _ _ _ plan offers
shape_fresh s w p (Shape.Seek t x n to plan within seeks) = seeks_fresh _ _ _ to plan seeks
shape_fresh s w p (Shape.Restart t x within) = restart_fresh (topic_at s w t x)

-- How many entries and ledgers a topic can have: four more of each for every event. So in short runs the numbers of a position
-- are below 2^64.
use Rattle.std.proofs.Common.{◌≡◌, ℕ, zero, suc, ◌+◌, ◌-◌, ◌*◌, ◌^◌, ◌<◌, ◌≤◌, List, [], ◌∷◌, ◌++◌, length, refl, sym, ap, subst, ◌∙◌, arith}
use Rattle.std.specs.Prelude.{Option, Some, None, is_some, nat_lt, take}
use Rattle.std.proofs.lemmas.List.{get_or-replicate, length-set}
use Rattle.world_laws.proofs.Types.{Change, Entry, Packet, Position, Write}
use Rattle.world_laws.proofs.Types.change
use Rattle.world_laws.proofs.Types.write
use Rattle.geo_base.specs.Broker.{Broker, Site, changed, new_broker, no_broker, sub_named, written}
use Rattle.geo_base.specs.Client.{Acted}
use Rattle.geo_base.specs.Forwarding.{closes}
use Rattle.geo_base.specs.Happening.{broker_does, broker_halts, client_does, stops}
use Rattle.geo_base.specs.Laws.{IsShort}
use Rattle.geo_base.specs.Moments.{partly_written}
use Rattle.geo_base.specs.Plan.{Plan, all_changed, all_written, done, halted, quiet_plan}
use Rattle.geo_base.specs.Planned.{Planned}
use Rattle.geo_base.specs.Seeking.{restart}
use Rattle.geo_base.specs.Setup.{Setup}
use Rattle.geo_base.specs.Subscription.{Subscription}
use Rattle.geo_base.specs.Topic.{grown, index_of, last_length, next_position}
use Rattle.geo_base.specs.World.{LinkName, ToClient, World, node, opening_world, topic_at}
use Rattle.world_laws.proofs.Snapshotting.Answering.{Numbered}
use Rattle.world_laws.proofs.OnceInOrder.Appends.{all_changed_entries}
use Rattle.world_laws.proofs.Snapshotting.Ids.{IsSmall}
use Rattle.world_laws.proofs.Induction.Layers.{Grounds, KeptWith, one_node}
use Rattle.world_laws.proofs.TopicOrder.Ledgers.{of_index, total}
use Rattle.world_laws.proofs.TopicOrder.NextPosition.{next_stands}
use Rattle.world_laws.proofs.Replicating.PairRoles.{shape_within}
use Rattle.world_laws.proofs.Walks.Shapes.{Answered, Fated, Offers, Reads, Seeks, Served, Shape, Snaps, Taken, Updates}
use Rattle.world_laws.proofs.Replicating.Sizes.{IsThere, Sized, node_lt, node_there, stopped_at}
use Rattle.world_laws.proofs.Walks.Walk.{on_if}

-- no event has more than three writes
updates_few : (h : Site) (b : Broker) (v : Subscription) (ws : List Write) → Updates h b v ws → length ws ≤ 1
updates_few h b v ws Updates.NoUpdate = omega arith
updates_few h b v ws (Updates.Update cut replicated passed) = omega arith

served_few : (h : Site) (b : Broker) (c : ℕ) (p : Packet) (q : Plan) → Served h b c p q → length q.writes ≤ 3
served_few h b c p q (Served.Acknowledges s id kind ps v i is ws at sent by of after) = let u = updates_few h b _ ws after in omega (arith, u)
served_few h b c p q (Served.Stores s id seq source e at sound new) = omega arith
served_few h b c p q Served.Ignores = omega arith
served_few h b c p q Served.Disconnects = omega arith
served_few h b c p q (Served.Connects s is new) = omega arith
served_few h b c p q (Served.Answers s f at) = omega arith
served_few h b c p q (Served.ChangesProducers s ps f at) = omega arith
served_few h b c p q (Served.Repeats s id seq source e at sound old) = omega arith
served_few h b c p q (Served.Creates s topic n kind id request consumer earliest replicated at is may named) = omega arith
served_few h b c p q (Served.Joins s topic n kind id request consumer earliest replicated v at is may named free same) = omega arith
served_few h b c p q (Served.Alters s topic n kind id request consumer earliest replicated v at is may named free other) = omega arith
served_few h b c p q (Served.Permits s id permits v at is by) = omega arith
served_few h b c p q (Served.Unsubscribes s id request v at is by last) = omega arith
served_few h b c p q (Served.ClosesConsumer s id request v at is by) = omega arith

reads_few : (h : Site) (b : Broker) (y : ℕ) (q : Plan) → Reads h b y q → length q.writes ≤ 3
reads_few h b y q Reads.NothingToRead = omega arith
reads_few h b y q (Reads.Forwards i e next out) = omega arith
reads_few h b y q (Reads.Skips i e next other) = omega arith
reads_few h b y q (Reads.Responds i e id source next of is) = omega arith
reads_few h b y q (Reads.Counts i e id answer u u' next is heard) = omega arith
reads_few h b y q (Reads.AsksAgain i e id answer u u' next is heard) = omega arith
reads_few h b y q (Reads.Completes i e id answer u u' next is heard) = omega arith
reads_few h b y q (Reads.CreatesAt i j e n remote next is named) = omega arith
reads_few h b y q (Reads.ActsOnUpdate i j e n remote v ws next is named after) =
    let u = updates_few h b _ ws after in let l = size_both ws (write.ReplicatorAck y i ∷ []) in omega (arith, u, l)
  where
    size_both : (ws vs : List Write) → length (ws ++ vs) ≡ length ws + length vs
    size_both [] vs = omega arith
    size_both (w ∷ ws) vs = let h = size_both ws vs in omega (arith, h)

offers_few : (h : Site) (b : Broker) (n : List ℕ) (q : Plan) → Offers h b n q → length q.writes ≤ 3
offers_few h b n q Offers.NothingToOffer = omega arith
offers_few h b n q (Offers.Gives v i at e due is picked) = omega arith
offers_few h b n q (Offers.SkipsMarker v i e ws due is after) = let u = updates_few h b _ ws after in omega (arith, u)
offers_few h b n q (Offers.Caches v i j e c ws due is after) = let u = updates_few h b _ ws after in omega (arith, u)

seeks_few : (h : Site) (b : Broker) (n : List ℕ) (to : Option Position) (q : Plan) → Seeks h b n to q → length q.writes ≤ 3
seeks_few h b n to q Seeks.NothingToSeek = omega arith
seeks_few h b n to q (Seeks.SeeksTo v i ws named at after) = let u = updates_few h b _ ws after in omega (arith, u)

snaps_few : (h : Site) (b : Broker) (q : Plan) → Snaps h b q → length q.writes ≤ 3
snaps_few h b q Snaps.NothingToAsk = omega arith
snaps_few h b q (Snaps.Asks any none) = omega arith

taken_few : (h : Site) (b : Broker) (x : ℕ) (p : Packet) (q : Plan) → Taken h b x p q → length q.writes ≤ 1
taken_few h b x p q (Taken.Stores id seq source e is at may new) = omega arith
taken_few h b x p q (Taken.Unreadable is) = omega arith
taken_few h b x p q (Taken.Opens topic id request name is opening) = omega arith
taken_few h b x p q (Taken.Discards other shut) = omega arith
taken_few h b x p q (Taken.Refuses other at may) = omega arith
taken_few h b x p q (Taken.Repeats id seq source e is at may old) = omega arith

answered_few : (b : Broker) (y : ℕ) (p : Packet) (q : Plan) → Answered b y p q → length q.writes ≤ 1
answered_few b y p q (Answered.Stale other) = omega arith
answered_few b y p q (Answered.Other at other) = omega arith
answered_few b y p q (Answered.Opened request name at is state) = omega arith
answered_few b y p q (Answered.OpenBefore request name at is state) = omega arith
answered_few b y p q (Answered.ClosedBefore request name at is state) = omega arith
answered_few b y p q (Answered.Received id n i position at is pending) = omega arith
answered_few b y p q (Answered.ReceivedBefore id n position at is pending) = omega arith

both_few : (ws vs : List Write) → length ws ≤ 1 → length vs ≤ 1 → length (ws ++ vs) ≤ 3
both_few [] vs h k = omega (arith, k)
both_few (w ∷ []) vs h k = omega (arith, k)
both_few (w ∷ v ∷ ws) vs h k = absurd (omega (arith, h))

fated_few : (per : ℕ) (b : Broker) (Acts : Broker → Plan → Type 0) (lost q : Plan) → ((c : Broker) (r : Plan) → Acts c r → length r.writes ≤ 1) → length lost.writes ≤ 1
    → Fated per b Acts lost q → length q.writes ≤ 3
fated_few per b Acts lost q acts none (Fated.Once r t) = let h = acts b r t in omega (arith, h)
fated_few per b Acts lost q acts none Fated.Lost = omega (arith, none)
fated_few per b Acts lost q acts none (Fated.Twice r r' t t') = both_few r.writes r'.writes (acts b r t) (acts _ r' t')

pub shape_few : (s : Setup) (w : World) (p : Planned) → Shape s w p → length p.plan.writes ≤ 3
unfolding restart
shape_few s w p (Shape.Idle t x within) = omega arith
shape_few s w p (Shape.Empty t x k within next) = omega arith
shape_few s w p (Shape.Serve x c q plan within next served) = served_few _ _ c q plan served
shape_few s w p (Shape.Drop x c v within at) = omega arith
shape_few s w p (Shape.Reset t x y within remote) = omega arith
shape_few s w p (Shape.Read t x y plan within reads) = reads_few _ _ y plan reads
shape_few s w p (Shape.Take t x y q plan within next taken) = fated_few s.per_ledger _ _ (closes x) plan (λ c r h. taken_few _ c x q r h) (omega arith) taken
shape_few s w p (Shape.Receipt t x y q plan within next answered) = fated_few s.per_ledger _ _ (quiet_plan []) plan (λ c r h. answered_few c y q r h) (omega arith) answered
shape_few s w p (Shape.Snap t x plan within snaps) = snaps_few _ _ plan snaps
shape_few s w p (Shape.Offer t x n plan within offers) = offers_few _ _ _ plan offers
shape_few s w p (Shape.Seek t x n to plan within seeks) = seeks_few _ _ _ to plan seeks
shape_few s w p (Shape.Restart t x within) = omega arith

-- each of which opens at most one ledger, and appends at most one entry
pub record Few (m n : ℕ) (b : Broker) : Type 0 where
  pub entries : length b.entries ≤ m
  pub ledgers : length b.ledgers ≤ n

grown_few : (per : ℕ) (ls : List ℕ) → length (grown per ls) ≤ length ls + 1
grown_few per ls =
    let set = length-set ls (length ls - 1) (last_length ls + 1) in
    on_if (λ (r : List ℕ). length r ≤ length ls + 1) (nat_lt (last_length ls) per) _ _ (omega (arith, set)) (let h = longer ls 1 in omega (arith, h))
  where
    longer : (ls : List ℕ) (n : ℕ) → length (ls ++ n ∷ []) ≡ length ls + 1
    longer [] n = omega arith
    longer (l ∷ ls) n = let h = longer ls n in omega (arith, h)

opened_few : (ls : List ℕ) → length (ls ++ 0 ∷ []) ≡ length ls + 1
opened_few [] = omega arith
opened_few (l ∷ ls) = let h = opened_few ls in omega (arith, h)

appended_few : (es : List Entry) (e : Entry) → length (es ++ e ∷ []) ≡ length es + 1
appended_few [] e = omega arith
appended_few (a ∷ es) e = let h = appended_few es e in omega (arith, h)

written_few : (m n per : ℕ) (b : Broker) (w : Write) → Few m n b → Few (m + 1) (n + 1) (written per b w)
written_few m n per b (write.Append e) h =
    record { entries = let l = appended_few b.entries e in omega (arith, l, h.entries); ledgers = let l = grown_few per b.ledgers in omega (arith, l, h.ledgers) }
written_few m n per b write.Ledger h = record { entries = omega (arith, h.entries); ledgers = let l = opened_few b.ledgers in omega (arith, l, h.ledgers) }
written_few m n per b (write.Create name kind replicated latest) h =
    on_if (Few (m + 1) (n + 1)) (is_some (sub_named b.subs name)) _ _ (record { entries = omega (arith, h.entries); ledgers = omega (arith, h.ledgers) })
    (record { entries = omega (arith, h.entries); ledgers = omega (arith, h.ledgers) })
written_few m n per b w h = record { entries = omega (arith, h.entries); ledgers = omega (arith, h.ledgers) }

more_few : (m m' n n' : ℕ) (b : Broker) → m ≤ m' → n ≤ n' → Few m n b → Few m' n' b
more_few m m' n n' b le le' h = record { entries = omega (arith, le, h.entries); ledgers = omega (arith, le', h.ledgers) }

all_few : (m n per : ℕ) (b : Broker) (ws : List Write) → Few m n b → Few (m + length ws) (n + length ws) (all_written per b ws)
all_few m n per b [] h = more_few m (m + 0) n (n + 0) b (omega arith) (omega arith) h
all_few m n per b (w ∷ ws) h =
    more_few (m + 1 + length ws) (m + length (w ∷ ws)) (n + 1 + length ws) (n + length (w ∷ ws)) (all_written per (written per b w) ws) (omega arith) (omega arith)
    (all_few (m + 1) (n + 1) per (written per b w) ws (written_few m n per b w h))

pub changed_ledgers : (b : Broker) (c : Change) → (changed b c).ledgers ≡ b.ledgers
changed_ledgers b (change.Receiver x r) = refl
changed_ledgers b c = refl

pub all_changed_ledgers : (b : Broker) (cs : List Change) → (all_changed b cs).ledgers ≡ b.ledgers
all_changed_ledgers b [] = refl
all_changed_ledgers b (c ∷ cs) = all_changed_ledgers (changed b c) cs ∙ changed_ledgers b c

changed_few : (m n : ℕ) (b : Broker) (cs : List Change) → Few m n b → Few m n (all_changed b cs)
changed_few m n b cs h =
    let e = ap (λ (es : List Entry). length es) (all_changed_entries b cs) in let l = ap (λ (ls : List ℕ). length ls) (all_changed_ledgers b cs) in
    record { entries = omega (arith, e, h.entries); ledgers = omega (arith, l, h.ledgers) }

-- after so many events
abbrev pub FewAfter : ℕ → Broker → Type 0
FewAfter m b = Few (4 * m) (4 * m + 1) b

abbrev pub FewAt : Setup → World → Type 0
FewAt s w = (t x : ℕ) → IsThere s t x → FewAfter w.events (topic_at s w t x)

next_few : (m : ℕ) (b : Broker) → FewAfter m b → FewAfter (m + 1) b
next_few m b h = more_few (4 * m) (4 * (m + 1)) (4 * m + 1) (4 * (m + 1) + 1) b (omega arith) (omega arith) h

few_does : (s : Setup) (w : World) (p : Planned) → Shape s w p → FewAt s w → FewAt s (broker_does s w p)
unfolding broker_does
few_does s w p shape few =
    let b = topic_at s w p.topic p.cluster in let n = shape_few s w p shape in let l = length p.plan.writes in let m = w.events in
    on_if (FewAt s) p.plan.idle _ _ few
    (one_node s (λ x b. FewAfter (m + 1) b) w p.topic p.cluster (done s.per_ledger b p.plan) (shape_within s w p shape)
    (λ here. changed_few (4 * (m + 1)) (4 * (m + 1) + 1) (all_written s.per_ledger b p.plan.writes) p.plan.changes
    (more_few (4 * m + l) (4 * (m + 1)) (4 * m + 1 + l) (4 * (m + 1) + 1) _ (omega (arith, n)) (omega (arith, n))
    (all_few (4 * m) (4 * m + 1) s.per_ledger b p.plan.writes (few p.topic p.cluster here)))) (λ t x there. next_few m (topic_at s w t x) (few t x there)))

taken_length : (k : ℕ) (ws : List Write) → length (take k ws) ≤ length ws
taken_length zero ws = omega arith
taken_length (suc k) [] = omega arith
taken_length (suc k) (w ∷ ws) = let h = taken_length k ws in omega (arith, h)

closed_length : (ws : List Write) → length (ws ++ write.Ledger ∷ []) ≡ length ws + 1
closed_length [] = omega arith
closed_length (w ∷ ws) = let h = closed_length ws in omega (arith, h)

few_halts : (s : Setup) (w : World) (k : ℕ) (p : Planned) → Shape s w p → FewAt s w → FewAt s (broker_halts s w k p)
unfolding broker_halts
few_halts s w k p shape few =
    let b = topic_at s w p.topic p.cluster in let n = shape_few s w p shape in let m = w.events in
    let ws = take k p.plan.writes ++ write.Ledger ∷ [] in let l = length ws in
    let c = closed_length (take k p.plan.writes) in let d = taken_length k p.plan.writes in
    one_node s (λ x b. FewAfter (m + 1) b) w p.topic p.cluster (halted s.per_ledger b k p.plan) (shape_within s w p shape)
    (λ here. changed_few (4 * (m + 1)) (4 * (m + 1) + 1) (all_written s.per_ledger b ws) (change.Forget ∷ [])
    (more_few (4 * m + l) (4 * (m + 1)) (4 * m + 1 + l) (4 * (m + 1) + 1) _ (omega (arith, n, c, d)) (omega (arith, n, c, d))
    (all_few (4 * m) (4 * m + 1) s.per_ledger b ws (few p.topic p.cluster here)))) (λ t x there. next_few m (topic_at s w t x) (few t x there))

few_client : (s : Setup) (w : World) (c : ℕ) (k : Option LinkName) (a : Acted) → FewAt s w → FewAt s (client_does s w c k a)
unfolding client_does
few_client s w c k a few = on_if (FewAt s) a.idle _ _ few (λ t x there. next_few w.events (topic_at s w t x) (few t x there))

few_stops : (s : Setup) (w : World) → Sized s w → FewAt s w → FewAt s (stops s w)
unfolding stops restart
few_stops s w z few t x there =
    let b = topic_at s w t x in let m = w.events in
    subst (FewAfter (m + 1)) (sym (stopped_at w.brokers (λ c. done s.per_ledger c restart) (node s t x) (node_there s w t x z there)))
    (changed_few (4 * (m + 1)) (4 * (m + 1) + 1) (all_written s.per_ledger b (write.Ledger ∷ [])) (change.Forget ∷ [])
    (more_few (4 * m + 1) (4 * (m + 1)) (4 * m + 1 + 1) (4 * (m + 1) + 1) _ (omega arith) (omega arith) (all_few (4 * m) (4 * m + 1) s.per_ledger b (write.Ledger ∷ []) (few t x there))))

few_opening : (s : Setup) → FewAt s (opening_world s)
few_opening s t x there =
    let n = length s.clusters in
    subst (FewAfter 0) (sym (get_or-replicate (length s.topics * n) (node s t x) (new_broker n (length s.clients)) no_broker (node_lt s t x there)))
    (record { entries = omega arith; ledgers = omega arith })

pub few_kept : (s : Setup) → KeptWith s (Grounds s) (FewAt s)
few_kept s = record {
  opening = few_opening s;
  idle = λ w n g few. few;
  round = λ w n g few. few;
  does = λ w p shape g g' few. few_does s w p shape few;
  halts = λ w k p shape g g' few. few_halts s w k p shape few;
  goes = λ w c a g g' few. few_client s w c None a few;
  gets = λ w c x a g g' few. few_client s w c (Some (ToClient c x)) a few;
  stop = λ w g g' few. few_stops s w g.0.sized few;
}

-- In a short run, also in the midst of an event's writes, a position that is stored has small numbers
abbrev pub HasRoom : Broker → Type 0
HasRoom b = Few (2 ^ 64) (2 ^ 64) b

abbrev pub RoomAt : Setup → World → Type 0
RoomAt s w = (t x : ℕ) → IsThere s t x → HasRoom (topic_at s w t x)

pub few_room : (s : Setup) (w : World) → IsShort w → FewAt s w → RoomAt s w
few_room s w short few t x there = let h = few t x there in record { entries = omega (arith, short, h.entries); ledgers = omega (arith, short, h.ledgers) }

pub written_room : (s : Setup) (w : World) (k : ℕ) (p : Planned) → Shape s w p → IsShort w → FewAt s w → RoomAt s (partly_written s w k (Some p))
written_room s w k p shape short few =
    let b = topic_at s w p.topic p.cluster in let n = shape_few s w p shape in let m = w.events in
    let ws = take k p.plan.writes in let l = length ws in let d = taken_length k p.plan.writes in
    one_node s (λ x b. HasRoom b) w p.topic p.cluster (all_written s.per_ledger b ws) (shape_within s w p shape)
    (λ here. more_few (4 * m + l) (2 ^ 64) (4 * m + 1 + l) (2 ^ 64) _ (omega (arith, n, d, short)) (omega (arith, n, d, short))
    (all_few (4 * m) (4 * m + 1) s.per_ledger b ws (few p.topic p.cluster here))) (few_room s w short few)

pub stored_small : (b : Broker) (p : Position) (i : ℕ) → HasRoom b → Numbered b.entries b.ledgers → index_of b.ledgers p ≡ Some i → IsSmall p
stored_small b p i room numbered at =
    let f = of_index b.ledgers p i at in
    let entry = f.entry in let last = f.last in let within = f.within in let whole = numbered.whole in
    record { ledger = omega (arith, last, room.ledgers); entry = omega (arith, entry, within, whole, room.entries) }

-- and so has the next one, between events
pub next_small : (per m : ℕ) (b : Broker) → m < 2 ^ 62 → FewAfter m b → Numbered b.entries b.ledgers → IsSmall (next_position per b.ledgers)
next_small per m b short few numbered =
    let f = of_index (grown per b.ledgers) (next_position per b.ledgers) (total b.ledgers) (next_stands per b.ledgers numbered.some) in
    let entry = f.entry in let last = f.last in let longer = grown_few per b.ledgers in let whole = numbered.whole in
    record { ledger = omega (arith, last, longer, short, few.ledgers); entry = omega (arith, entry, whole, short, few.entries) }

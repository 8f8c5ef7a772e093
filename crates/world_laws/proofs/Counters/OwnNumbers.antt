-- An own marker gets the number after those of all own markers, and nothing else that a topic stores has the name of their producer:
-- a client's name has no full stop in it, and what another cluster sent is of another origin.
use Rattle.std.proofs.Common.{◌≡◌, ℕ, zero, suc, ◌+◌, ◌≤◌, ◌==◌, Bool, true, false, List, [], ◌∷◌, ◌++◌, length, max, refl, sym, ap, subst, ◌∙◌, arith}
use Rattle.std.specs.Prelude.{Option, if◌then◌else◌, take}
use Rattle.std.specs.Str.{bytes_eq}
use Rattle.std.proofs.lemmas.Bool.{eqb-true, false≢true, ltb-true}
use Rattle.std.proofs.lemmas.List.{length-take}
use Rattle.std.proofs.lemmas.Slice.Eq.{bytes_eq-Decides}
use Rattle.world_laws.proofs.Types.{Entry, Frame, Packet, Position, Write}
use Rattle.world_laws.proofs.Types.frame
use Rattle.world_laws.proofs.Types.write
use Rattle.geo_base.specs.Broker.{Broker, Site, cluster_name}
use Rattle.geo_base.specs.SnapshotBuilder.{current_id, snapshot_id}
use Rattle.geo_base.specs.Entry.{is_own_marker, marker_producer, with_origin}
use Rattle.geo_base.specs.Forwarding.{closes}
use Rattle.geo_base.specs.Markers.{request_marker, response_marker, snapshot_marker}
use Rattle.geo_base.specs.Name.{is_name}
use Rattle.geo_base.specs.Plan.{Plan, done, quiet_plan}
use Rattle.geo_base.specs.Planned.{Planned}
use Rattle.geo_base.specs.Seeking.{restart}
use Rattle.geo_base.specs.Setup.{Setup, declared_at}
use Rattle.geo_base.specs.Storing.{update_marker}
use Rattle.geo_base.specs.Subscription.{Subscription}
use Rattle.geo_base.specs.Topic.{next_marker, next_position}
use Rattle.geo_base.specs.World.{ToBroker, World, link_at, site, topic_at}
use Rattle.world_laws.proofs.TopicOrder.Added.{came_other}
use Rattle.world_laws.proofs.OnceInOrder.Appends.{after_halt, after_writes, done_entries}
use Rattle.world_laws.proofs.Replicating.Effects.{Each}
use Rattle.world_laws.proofs.Walks.EventWalk.{of_target}
use Rattle.world_laws.proofs.TopicOrder.NoSelf.{NoSelf}
use Rattle.world_laws.proofs.Walks.Shapes.{Answered, Fated, Offers, Reads, Seeks, Served, Shape, Snaps, Taken, Updates}
use Rattle.world_laws.proofs.Dispatching.SubFrames.{each_at_place}
use Rattle.world_laws.proofs.Walks.Walk.{by_test, left, right}

-- NUMBERS

-- an entry at the end of others that has the name of an own marker has their next number
abbrev pub Numbered : ℕ → List Entry → Entry → Type 0
Numbered own es e = is_own_marker own e ≡ true → e.ident.seq ≡ next_marker own es

abbrev pub Marks : ℕ → List Entry → List Write → Type 0
Marks own es [] = Unit {0}
Marks own es (write.Append e ∷ ws) = Numbered own es e × Marks own (es ++ e ∷ []) ws
Marks own es (w ∷ ws) = Marks own es ws

-- there are no more numbers than entries
abbrev pub FewMarkers : ℕ → List Entry → Type 0
FewMarkers own es = next_marker own es ≤ length es

marker_after : (b c : Bool) (s m n k : ℕ) → m ≤ (if c then max (k + 1) n else n) → (if b then max (s + 1) m else m) ≤ (if c then max (k + 1) (if b then max (s + 1) n else n) else (if b then max (s + 1) n else n))
marker_after true true s m n k h = grind (arith, h)
marker_after true false s m n k h = grind (arith, h)
marker_after false true s m n k h = h
marker_after false false s m n k h = h

push_marker : (own : ℕ) (es : List Entry) (e : Entry) → next_marker own (es ++ e ∷ []) ≤ (if is_own_marker own e then max (e.ident.seq + 1) (next_marker own es) else next_marker own es)
push_marker own [] e = omega arith
push_marker own (f ∷ es) e =
    marker_after (is_own_marker own f) (is_own_marker own e) f.ident.seq (next_marker own (es ++ e ∷ [])) (next_marker own es) e.ident.seq (push_marker own es e)

length_push : (es : List Entry) (e : Entry) → length (es ++ e ∷ []) ≡ length es + 1
length_push [] e = refl
length_push (f ∷ es) e = let l = length_push es e in omega (arith, l)

-- one more entry raises the number by one at most
pub one_marker : (own : ℕ) (es : List Entry) (e : Entry) → Numbered own es e → next_marker own (es ++ e ∷ []) ≤ next_marker own es + 1
one_marker own es e numbered = by (is_own_marker own e) refl
  where
    by : (b : Bool) → is_own_marker own e ≡ b → next_marker own (es ++ e ∷ []) ≤ next_marker own es + 1
    by true is =
        let p = subst (λ (b : Bool). next_marker own (es ++ e ∷ []) ≤ (if b then max (e.ident.seq + 1) (next_marker own es) else next_marker own es)) is (push_marker own es e) in
        let n = numbered is in grind (arith, p, n)
    by false is =
        let p = subst (λ (b : Bool). next_marker own (es ++ e ∷ []) ≤ (if b then max (e.ident.seq + 1) (next_marker own es) else next_marker own es)) is (push_marker own es e) in
        omega (arith, p)

pub one_few : (own : ℕ) (es : List Entry) (e : Entry) → Numbered own es e → FewMarkers own es → FewMarkers own (es ++ e ∷ [])
one_few own es e numbered few = let l = length_push es e in let one = one_marker own es e numbered in omega (arith, l, one, few)

-- so many writes raise it by so many at most
pub marks_few : (own : ℕ) (es : List Entry) (ws : List Write) → Marks own es ws → next_marker own (after_writes es ws) ≤ next_marker own es + length ws
marks_few own es [] m = omega arith
marks_few own es (write.Append e ∷ ws) m = let rest = marks_few own (es ++ e ∷ []) ws m.1 in let one = one_marker own es e m.0 in omega (arith, rest, one)
marks_few own es (w ∷ ws) m = let rest = marks_few own es ws m in omega (arith, rest)

marks_both : (own : ℕ) (es : List Entry) (ws vs : List Write) → Marks own es ws → Marks own (after_writes es ws) vs → Marks own es (ws ++ vs)
marks_both own es [] vs h k = k
marks_both own es (write.Append e ∷ ws) vs h k = (h.0, marks_both own (es ++ e ∷ []) ws vs h.1 k)
marks_both own es (w ∷ ws) vs h k = marks_both own es ws vs h k

pub marks_take : (own : ℕ) (es : List Entry) (k : ℕ) (ws : List Write) → Marks own es ws → Marks own es (take k ws)
marks_take own es zero ws h = tt
marks_take own es (suc k) [] h = tt
marks_take own es (suc k) (write.Append e ∷ ws) h = (h.0, marks_take own (es ++ e ∷ []) k ws h.1)
marks_take own es (suc k) (w ∷ ws) h = marks_take own es k ws h

-- after a beginning of them, and a new ledger
pub marks_halt : (own : ℕ) (es : List Entry) (k : ℕ) (ws : List Write) → Marks own es ws → next_marker own (after_writes es (take k ws ++ write.Ledger ∷ [])) ≤ next_marker own es + length ws
marks_halt own es k ws m =
    let same = ap (next_marker own) (after_halt es (take k ws)) in
    let some = marks_few own es (take k ws) (marks_take own es k ws m) in
    let fewer = length-take k ws in grind (arith, same, some, fewer)

-- ENTRIES

-- a client's message is named after a client
abbrev pub NamedFrame : Frame → Type 0
NamedFrame (frame.Send id seq source e) = is_name e.ident.producer ≡ true
NamedFrame f = Unit {0}

-- what was ever sent to a broker by a client
abbrev pub FromClients : World → Type 0
FromClients w = (c x : ℕ) → Each (λ (p : Packet). NamedFrame p.frame) (link_at w.links (ToBroker c x)).sent

pub no_name : (n : List ℕ) → is_name n ≡ true → bytes_eq n marker_producer ≡ false
no_name n named =
    by_test (bytes_eq n marker_producer)
    (λ same. let is : n ≡ marker_producer = (bytes_eq-Decides n marker_producer).0 same in absurd (false≢true (subst (λ (m : List ℕ). is_name m ≡ true) is named)))
    (λ other. other)

message_numbered : (own : ℕ) (es : List Entry) (e : Entry) → is_name e.ident.producer ≡ true → Numbered own es (with_origin own e)
message_numbered own es e named is =
    absurd (false≢true (sym (no_name e.ident.producer named) ∙ right (own == own) (bytes_eq e.ident.producer marker_producer) is))

foreign_numbered : (own x : ℕ) (es : List Entry) (e : Entry) → (x ≡ own → ⊥) → Numbered own es (with_origin x e)
foreign_numbered own x es e other is = absurd (other (eqb-true x own (left (x == own) (bytes_eq e.ident.producer marker_producer) is)))

own_numbered : (own : ℕ) (es : List Entry) (e : Entry) → e.ident.seq ≡ next_marker own es → Numbered own es e
own_numbered own es e is of = is

-- SHAPES

updates_mark : (h : Site) (b : Broker) (v : Subscription) (ws : List Write) → Updates h b v ws → Marks h.own b.entries ws
updates_mark h b v ws Updates.NoUpdate = tt
updates_mark h b v ws (Updates.Update cut replicated passed) = (own_numbered h.own b.entries (update_marker h b v.name cut) refl, tt)

served_mark : (h : Site) (b : Broker) (c : ℕ) (p : Packet) (q : Plan) → NamedFrame p.frame → Served h b c p q → Marks h.own b.entries q.writes
served_mark h b c p q named (Served.Stores s id seq source e at sound new) = (message_numbered h.own b.entries e (subst NamedFrame sound.0 named), tt)
served_mark h b c p q named (Served.Acknowledges s id kind ps v i is ws at sent by of after) = updates_mark h b _ ws after
served_mark h b c p q named Served.Ignores = tt
served_mark h b c p q named Served.Disconnects = tt
served_mark h b c p q named (Served.Connects s is new) = tt
served_mark h b c p q named (Served.Answers s f at) = tt
served_mark h b c p q named (Served.ChangesProducers s ps f at) = tt
served_mark h b c p q named (Served.Repeats s id seq source e at sound old) = tt
served_mark h b c p q named (Served.Creates s topic n kind id request consumer earliest replicated at is may called) = tt
served_mark h b c p q named (Served.Joins s topic n kind id request consumer earliest replicated v at is may called free same) = tt
served_mark h b c p q named (Served.Alters s topic n kind id request consumer earliest replicated v at is may called free other) = tt
served_mark h b c p q named (Served.Permits s id permits v at is by) = tt
served_mark h b c p q named (Served.Unsubscribes s id request v at is by last) = tt
served_mark h b c p q named (Served.ClosesConsumer s id request v at is by) = tt

taken_mark : (h : Site) (b : Broker) (x : ℕ) (p : Packet) (q : Plan) → (x ≡ h.own → ⊥) → Taken h b x p q → Marks h.own b.entries q.writes
taken_mark h b x p q other (Taken.Stores id seq source e is at may new) = (foreign_numbered h.own x b.entries e other, tt)
taken_mark h b x p q other (Taken.Unreadable is) = tt
taken_mark h b x p q other (Taken.Opens topic id request name is opening) = tt
taken_mark h b x p q other (Taken.Discards shut closed) = tt
taken_mark h b x p q other (Taken.Refuses shut at may) = tt
taken_mark h b x p q other (Taken.Repeats id seq source e is at may old) = tt

answered_mark : (own : ℕ) (b : Broker) (y : ℕ) (p : Packet) (q : Plan) → Answered b y p q → Marks own b.entries q.writes
answered_mark own b y p q (Answered.Stale other) = tt
answered_mark own b y p q (Answered.Other at other) = tt
answered_mark own b y p q (Answered.Opened request name at is state) = tt
answered_mark own b y p q (Answered.OpenBefore request name at is state) = tt
answered_mark own b y p q (Answered.ClosedBefore request name at is state) = tt
answered_mark own b y p q (Answered.Received id n i position at is pending) = tt
answered_mark own b y p q (Answered.ReceivedBefore id n position at is pending) = tt

fated_mark : (own per : ℕ) (b : Broker) (Acts : Broker → Plan → Type 0) (lost : Plan) (q : Plan)
    → ((c : Broker) (p : Plan) → Acts c p → Marks own c.entries p.writes) → Marks own b.entries lost.writes → Fated per b Acts lost q → Marks own b.entries q.writes
fated_mark own per b Acts lost q f l (Fated.Once p a) = f b p a
fated_mark own per b Acts lost q f l Fated.Lost = l
fated_mark own per b Acts lost q f l (Fated.Twice p p' a a') =
    marks_both own b.entries p.writes p'.writes (f b p a) (subst (λ es. Marks own es p'.writes) (done_entries per b p) (f (done per b p) p' a'))

reads_mark : (h : Site) (b : Broker) (y : ℕ) (q : Plan) → Reads h b y q → Marks h.own b.entries q.writes
reads_mark h b y q Reads.NothingToRead = tt
reads_mark h b y q (Reads.Forwards i e next out) = tt
reads_mark h b y q (Reads.Skips i e next other) = tt
reads_mark h b y q (Reads.Responds i e id source next of is) = (own_numbered h.own b.entries (response_marker h b y id) refl, tt)
reads_mark h b y q (Reads.Counts i e id answer u u' next is heard) = tt
reads_mark h b y q (Reads.AsksAgain i e id answer u u' next is heard) = (own_numbered h.own b.entries (request_marker h b (current_id u')) refl, tt)
reads_mark h b y q (Reads.Completes i e id answer u u' next is heard) = (own_numbered h.own b.entries (snapshot_marker h b u') refl, tt)
reads_mark h b y q (Reads.CreatesAt i j e n remote next is named) = tt
reads_mark h b y q (Reads.ActsOnUpdate i j e n remote v ws next is named after) = marks_both h.own b.entries ws (write.ReplicatorAck y i ∷ []) (updates_mark h b _ ws after) tt

snaps_mark : (h : Site) (b : Broker) (q : Plan) → Snaps h b q → Marks h.own b.entries q.writes
snaps_mark h b q Snaps.NothingToAsk = tt
snaps_mark h b q (Snaps.Asks any none) = (own_numbered h.own b.entries (request_marker h b (snapshot_id (cluster_name h h.own) (next_position h.per_ledger b.ledgers))) refl, tt)

offers_mark : (h : Site) (b : Broker) (n : List ℕ) (q : Plan) → Offers h b n q → Marks h.own b.entries q.writes
offers_mark h b n q Offers.NothingToOffer = tt
offers_mark h b n q (Offers.Gives v i at e due is picked) = tt
offers_mark h b n q (Offers.SkipsMarker v i e ws due is after) = updates_mark h b _ ws after
offers_mark h b n q (Offers.Caches v i j e c ws due is after) = updates_mark h b _ ws after

seeks_mark : (h : Site) (b : Broker) (n : List ℕ) (to : Option Position) (q : Plan) → Seeks h b n to q → Marks h.own b.entries q.writes
seeks_mark h b n to q Seeks.NothingToSeek = tt
seeks_mark h b n to q (Seeks.SeeksTo v i ws named at after) = updates_mark h b _ ws after

-- whatever an event does
pub shape_marks : (s : Setup) (w : World) (p : Planned) → Shape s w p → NoSelf s w → FromClients w → Marks p.cluster (topic_at s w p.topic p.cluster).entries p.plan.writes
unfolding restart
shape_marks s w p (Shape.Idle t x within) none named = tt
shape_marks s w p (Shape.Empty t x k within next) none named = tt
shape_marks s w p (Shape.Serve x c q plan within next served) none named =
    let l = link_at w.links (ToBroker c x) in
    served_mark (site s (declared_at s c).topic x) _ c q plan (each_at_place (λ (p : Packet). NamedFrame p.frame) l.sent l.taken q (named c x) next) served
shape_marks s w p (Shape.Drop x c v within at) none named = tt
shape_marks s w p (Shape.Reset t x y within remote) none named = tt
shape_marks s w p (Shape.Read t x y plan within reads) none named = reads_mark (site s t x) _ y plan reads
shape_marks s w p (Shape.Take t x y q plan within next taken) none named =
    fated_mark y s.per_ledger _ (λ b. Taken (site s t y) b x q) (closes x) plan
    (λ b r t'. taken_mark (site s t y) b x q r (came_other s w t x y q none (ltb-true _ _ (of_target s t x y within)) next) t') tt taken
shape_marks s w p (Shape.Receipt t x y q plan within next answered) none named =
    fated_mark x s.per_ledger _ (λ b. Answered b y q) (quiet_plan []) plan (λ b r a. answered_mark x b y q r a) tt answered
shape_marks s w p (Shape.Snap t x plan within snaps) none named = snaps_mark (site s t x) _ plan snaps
shape_marks s w p (Shape.Offer t x n plan within offers) none named = offers_mark (site s t x) _ _ plan offers
shape_marks s w p (Shape.Seek t x n to plan within seeks) none named = seeks_mark (site s t x) _ _ to plan seeks
shape_marks s w p (Shape.Restart t x within) none named = tt

-- How an index comes into a replicator's cursor: by a receipt of what is awaited, or by a read of it. All else leaves it out.
use Rattle.std.proofs.Common.{◌≡◌, ℕ, zero, suc, ◌<◌, Bool, true, false, List, [], ◌∷◌, length, refl, sym, ap, subst, ◌∙◌, ◌==◌, inl, inr}
use Rattle.std.specs.Prelude.{Option, Some, None, if◌then◌else◌, slice_get, take}
use Rattle.std.proofs.lemmas.Bool.{eqb-true}
use Rattle.std.proofs.lemmas.Option.{none-some, same_Some}
use Rattle.world_laws.proofs.Types.{Change, Fate, Packet, Pending, Position, Session, Write}
use Rattle.world_laws.proofs.Types.change
use Rattle.world_laws.proofs.Types.write
use Rattle.geo_base.specs.Broker.{Broker, Site, replicator_at, session_at}
use Rattle.geo_base.specs.Cursor.{has, with_index}
use Rattle.geo_base.specs.Forwarding.{closes, is_remote, receipt, reset, take_packet}
use Rattle.geo_base.specs.Plan.{Plan, done, halted, quiet_plan}
use Rattle.geo_base.specs.Seeking.{restart}
use Rattle.geo_base.specs.Replicator.{Replicator, index_to_read, pending_index, without_number}
use Rattle.geo_base.specs.Serving.{drop_client, drop_session, serve}
use Rattle.geo_base.specs.Subscription.{Subscription}
use Rattle.world_laws.proofs.Replicating.Cursors.{has_less}
use Rattle.world_laws.proofs.Replicating.Effects.{Each, done_replicator, each_both, each_take, halted_replicator, replicator_after, replicator_changed, replicator_then, replicator_written}
use Rattle.world_laws.proofs.Walks.LinkWalk.{fate_answered, fate_taken}
use Rattle.world_laws.proofs.Walks.ServeWalk.{frame_served}
use Rattle.world_laws.proofs.Walks.Shapes.{Answered, Fated, Offers, Reads, Seeks, Served, Snaps, Taken, Updates}
use Rattle.world_laws.proofs.Walks.Walk.{on_if}

-- ---- writes and changes

-- a write that does not acknowledge index i on the replicator to y
abbrev pub LeavesIndex : ℕ → ℕ → Write → Type 0
LeavesIndex y i (write.ReplicatorAck z k) = z ≡ y → k ≡ i → ⊥
LeavesIndex y i w = Unit {0}

abbrev pub LeaveIndex : ℕ → ℕ → List Write → Type 0
LeaveIndex y i ws = Each (LeavesIndex y i) ws

index_left : (y i : ℕ) (s : Replicator) (w : Write) → LeavesIndex y i w → has (replicator_written y s w).cursor i ≡ true → has s.cursor i ≡ true
index_left y i s (write.ReplicatorAck z k) l h = by (z == y) refl h
  where
    by : (b : Bool) → (z == y) ≡ b → has (if b then record s { cursor = with_index s.cursor k } else s).cursor i ≡ true → has s.cursor i ≡ true
    by true e h = elim (has_less s.cursor k i h) [ inl same ↦ absurd (l (eqb-true z y e) same) | inr old ↦ old ]
    by false e h = h
index_left y i s (write.SessionNumber z n) l h = by (z == y) h
  where
    by : (b : Bool) → has (if b then record s { session = n } else s).cursor i ≡ true → has s.cursor i ≡ true
    by true h = h
    by false h = h
index_left y i s (write.Append e) l h = h
index_left y i s (write.Create n kind replicated latest) l h = h
index_left y i s (write.Alter n kind replicated) l h = h
index_left y i s (write.Delete n) l h = h
index_left y i s (write.Acks n is) l h = h
index_left y i s (write.Seek n k) l h = h
index_left y i s write.Ledger l h = h

writes_left : (y i : ℕ) (s : Replicator) (ws : List Write) → LeaveIndex y i ws → has (replicator_after y s ws).cursor i ≡ true → has s.cursor i ≡ true
writes_left y i s [] l h = h
writes_left y i s (w ∷ ws) l h = index_left y i s w l.0 (writes_left y i (replicator_written y s w) ws l.1 h)

change_left : (y : ℕ) (s : Replicator) (c : Change) → (replicator_changed y s c).cursor ≡ s.cursor
change_left y s (change.Opening z) = on_if (λ (v : Replicator). v.cursor ≡ s.cursor) (z == y) _ _ refl refl
change_left y s (change.Opened z) = on_if (λ (v : Replicator). v.cursor ≡ s.cursor) (z == y) _ _ refl refl
change_left y s (change.Pend z i) = on_if (λ (v : Replicator). v.cursor ≡ s.cursor) (z == y) _ _ refl refl
change_left y s (change.ReadTo z i) = on_if (λ (v : Replicator). v.cursor ≡ s.cursor) (z == y) _ _ refl refl
change_left y s (change.Unpend z n) = on_if (λ (v : Replicator). v.cursor ≡ s.cursor) (z == y) _ _ refl refl
change_left y s change.Forget = refl
change_left y s c = refl

pub changes_left : (y : ℕ) (s : Replicator) (cs : List Change) → (replicator_then y s cs).cursor ≡ s.cursor
changes_left y s [] = refl
changes_left y s (c ∷ cs) = changes_left y (replicator_changed y s c) cs ∙ change_left y s c

pub done_left : (per : ℕ) (b : Broker) (y i : ℕ) (p : Plan) → y < length b.replicators → LeaveIndex y i p.writes → has (replicator_at (done per b p) y).cursor i ≡ true
    → has (replicator_at b y).cursor i ≡ true
done_left per b y i p lt l h =
    writes_left y i (replicator_at b y) p.writes l
    (subst (λ (set : List ℕ). has set i ≡ true) (ap (λ (v : Replicator). v.cursor) (done_replicator per b y p lt) ∙ changes_left y (replicator_after y (replicator_at b y) p.writes) p.changes) h)

pub halted_left : (per : ℕ) (b : Broker) (y i k : ℕ) (p : Plan) → y < length b.replicators → LeaveIndex y i (take k p.writes) → has (replicator_at (halted per b k p) y).cursor i ≡ true
    → has (replicator_at b y).cursor i ≡ true
halted_left per b y i k p lt l h =
    writes_left y i (replicator_at b y) (take k p.writes) l
    (subst (λ (set : List ℕ). has set i ≡ true) (ap (λ (v : Replicator). v.cursor) (halted_replicator per b y k p lt)) h)

pub take_leaves_index : (y i k : ℕ) (ws : List Write) → LeaveIndex y i ws → LeaveIndex y i (take k ws)
take_leaves_index y i k ws l = each_take (LeavesIndex y i) k ws l

-- ---- plans that acknowledge nothing on a replicator

updates_index : (y i : ℕ) (h : Site) (b : Broker) (v : Subscription) (ws : List Write) → Updates h b v ws → LeaveIndex y i ws
updates_index y i h b v ws Updates.NoUpdate = tt
updates_index y i h b v ws (Updates.Update cut replicated passed) = (tt, tt)

served_index : (y i : ℕ) (h : Site) (b : Broker) (c : ℕ) (p : Packet) (q : Plan) → Served h b c p q → LeaveIndex y i q.writes
served_index y i h b c p q (Served.Acknowledges s id kind ps v j is ws at sent by of after) = (tt, updates_index y i h b _ ws after)
served_index y i h b c p q (Served.Stores s id seq source e at sound new) = (tt, tt)
served_index y i h b c p q Served.Ignores = tt
served_index y i h b c p q Served.Disconnects = tt
served_index y i h b c p q (Served.Connects s is new) = tt
served_index y i h b c p q (Served.Answers s f at) = tt
served_index y i h b c p q (Served.ChangesProducers s ps f at) = tt
served_index y i h b c p q (Served.Repeats s id seq source e at sound old) = tt
served_index y i h b c p q (Served.Creates s topic n kind id request consumer earliest replicated at is may named) = (tt, tt)
served_index y i h b c p q (Served.Joins s topic n kind id request consumer earliest replicated v at is may named free same) = tt
served_index y i h b c p q (Served.Alters s topic n kind id request consumer earliest replicated v at is may named free other) = (tt, tt)
served_index y i h b c p q (Served.Permits s id permits v at is by) = tt
served_index y i h b c p q (Served.Unsubscribes s id request v at is by last) = (tt, tt)
served_index y i h b c p q (Served.ClosesConsumer s id request v at is by) = tt

taken_index : (y i : ℕ) (h : Site) (b : Broker) (x : ℕ) (p : Packet) (q : Plan) → Taken h b x p q → LeaveIndex y i q.writes
taken_index y i h b x p q (Taken.Stores id seq source e is at may new) = (tt, tt)
taken_index y i h b x p q (Taken.Unreadable is) = tt
taken_index y i h b x p q (Taken.Opens topic id request name is opening) = tt
taken_index y i h b x p q (Taken.Discards other shut) = tt
taken_index y i h b x p q (Taken.Refuses other at may) = tt
taken_index y i h b x p q (Taken.Repeats id seq source e is at may old) = tt

pub snaps_index : (y i : ℕ) (h : Site) (b : Broker) (q : Plan) → Snaps h b q → LeaveIndex y i q.writes
snaps_index y i h b q Snaps.NothingToAsk = tt
snaps_index y i h b q (Snaps.Asks any none) = (tt, tt)

pub offers_index : (y i : ℕ) (h : Site) (b : Broker) (n : List ℕ) (q : Plan) → Offers h b n q → LeaveIndex y i q.writes
offers_index y i h b n q Offers.NothingToOffer = tt
offers_index y i h b n q (Offers.Gives v k at e due is picked) = tt
offers_index y i h b n q (Offers.SkipsMarker v k e ws due is after) = (tt, updates_index y i h b _ ws after)
offers_index y i h b n q (Offers.Caches v k j e c ws due is after) = (tt, updates_index y i h b _ ws after)

pub seeks_index : (y i : ℕ) (h : Site) (b : Broker) (n : List ℕ) (to : Option Position) (q : Plan) → Seeks h b n to q → LeaveIndex y i q.writes
seeks_index y i h b n to q Seeks.NothingToSeek = tt
seeks_index y i h b n to q (Seeks.SeeksTo v k ws named at after) = (tt, updates_index y i h b _ ws after)

-- ---- a read of another index

-- what is left out is what is read next
pub reads_index : (y i z : ℕ) (h : Site) (b : Broker) (q : Plan) → Reads h b z q
    → (z ≡ y → index_to_read (replicator_at b z).state (replicator_at b z) (length b.entries) ≡ Some i → ⊥) → LeaveIndex y i q.writes
reads_index y i z h b q Reads.NothingToRead other = tt
reads_index y i z h b q (Reads.Forwards k e next out) other = tt
reads_index y i z h b q (Reads.Skips k e next out) other = (λ is same. other is (subst (λ (l : ℕ). index_to_read (replicator_at b z).state (replicator_at b z) (length b.entries) ≡ Some l) same next.1), tt)
reads_index y i z h b q (Reads.Responds k e id source next of is') other =
    (tt, ((λ is same. other is (subst (λ (l : ℕ). index_to_read (replicator_at b z).state (replicator_at b z) (length b.entries) ≡ Some l) same next.1)), tt))
reads_index y i z h b q (Reads.Counts k e id answer u u' next is' heard) other =
    (λ is same. other is (subst (λ (l : ℕ). index_to_read (replicator_at b z).state (replicator_at b z) (length b.entries) ≡ Some l) same next.1), tt)
reads_index y i z h b q (Reads.AsksAgain k e id answer u u' next is' heard) other =
    (tt, ((λ is same. other is (subst (λ (l : ℕ). index_to_read (replicator_at b z).state (replicator_at b z) (length b.entries) ≡ Some l) same next.1)), tt))
reads_index y i z h b q (Reads.Completes k e id answer u u' next is' heard) other =
    (tt, ((λ is same. other is (subst (λ (l : ℕ). index_to_read (replicator_at b z).state (replicator_at b z) (length b.entries) ≡ Some l) same next.1)), tt))
reads_index y i z h b q (Reads.CreatesAt k j e n told next is' named) other =
    (tt, (tt, ((λ is same. other is (subst (λ (l : ℕ). index_to_read (replicator_at b z).state (replicator_at b z) (length b.entries) ≡ Some l) same next.1)), tt)))
reads_index y i z h b q (Reads.ActsOnUpdate k j e n told v ws next is' named after) other = (
  tt,
  each_both (LeavesIndex y i) ws (write.ReplicatorAck z k ∷ []) (updates_index y i h b _ ws after)
      ((λ is same. other is (subst (λ (l : ℕ). index_to_read (replicator_at b z).state (replicator_at b z) (length b.entries) ≡ Some l) same next.1)), tt),
)

-- ---- a receipt of another index

-- no receipt of the index is awaited
abbrev pub NotAwaited : ℕ → List Pending → Type 0
NotAwaited i ps = Each (λ (d : Pending). d.index ≡ i → ⊥) ps

awaited_not : (i n k : ℕ) (ps : List Pending) → NotAwaited i ps → pending_index ps n ≡ Some k → k ≡ i → ⊥
awaited_not i n k [] l at same = none-some k at
awaited_not i n k (d ∷ ps) l at same = by (d.number == n) at (λ later. awaited_not i n k ps l.1 later same)
  where
    by : (b : Bool) → (if b then Some d.index else pending_index ps n) ≡ Some k → (pending_index ps n ≡ Some k → ⊥) → ⊥
    by true at rest = l.0 (same_Some _ _ at ∙ same)
    by false at rest = rest at

less_awaited : (i n : ℕ) (ps : List Pending) → NotAwaited i ps → NotAwaited i (without_number ps n)
less_awaited i n [] l = tt
less_awaited i n (d ∷ ps) l = on_if (NotAwaited i) (d.number == n) _ _ l.1 (l.0, less_awaited i n ps l.1)

answered_index : (y i z : ℕ) (b : Broker) (p : Packet) (q : Plan) → Answered b z p q → (z ≡ y → NotAwaited i (replicator_at b z).pending) → LeaveIndex y i q.writes
answered_index y i z b p q (Answered.Received id n k position at is awaited) l = (λ is same. awaited_not i n k (replicator_at b z).pending (l is) awaited same, tt)
answered_index y i z b p q (Answered.Stale other) l = tt
answered_index y i z b p q (Answered.Other at other) l = tt
answered_index y i z b p q (Answered.Opened request name at is state) l = tt
answered_index y i z b p q (Answered.OpenBefore request name at is state) l = tt
answered_index y i z b p q (Answered.ClosedBefore request name at is state) l = tt
answered_index y i z b p q (Answered.ReceivedBefore id n position at is awaited) l = tt

-- the first of two receipts leaves no more awaited than there were
written_awaits : (y i : ℕ) (s : Replicator) (w : Write) → NotAwaited i s.pending → NotAwaited i (replicator_written y s w).pending
written_awaits y i s (write.ReplicatorAck z k) l = on_if (λ (v : Replicator). NotAwaited i v.pending) (z == y) _ _ l l
written_awaits y i s (write.SessionNumber z n) l = on_if (λ (v : Replicator). NotAwaited i v.pending) (z == y) _ _ l l
written_awaits y i s (write.Append e) l = l
written_awaits y i s (write.Create n kind replicated latest) l = l
written_awaits y i s (write.Alter n kind replicated) l = l
written_awaits y i s (write.Delete n) l = l
written_awaits y i s (write.Acks n is) l = l
written_awaits y i s (write.Seek n k) l = l
written_awaits y i s write.Ledger l = l

abbrev IsCalm : Change → Type 0
IsCalm (change.Opened z) = Unit {0}
IsCalm (change.Unpend z n) = Unit {0}
IsCalm c = ⊥

changed_awaits : (y i : ℕ) (s : Replicator) (c : Change) → IsCalm c → NotAwaited i s.pending → NotAwaited i (replicator_changed y s c).pending
changed_awaits y i s (change.Opened z) calm l = on_if (λ (v : Replicator). NotAwaited i v.pending) (z == y) _ _ l l
changed_awaits y i s (change.Unpend z n) calm l = on_if (λ (v : Replicator). NotAwaited i v.pending) (z == y) _ _ (less_awaited i n s.pending l) l
changed_awaits y i s c calm l = absurd calm

after_awaits : (y i : ℕ) (s : Replicator) (ws : List Write) → NotAwaited i s.pending → NotAwaited i (replicator_after y s ws).pending
after_awaits y i s [] l = l
after_awaits y i s (w ∷ ws) l = after_awaits y i (replicator_written y s w) ws (written_awaits y i s w l)

then_awaits : (y i : ℕ) (s : Replicator) (cs : List Change) → Each IsCalm cs → NotAwaited i s.pending → NotAwaited i (replicator_then y s cs).pending
then_awaits y i s [] calm l = l
then_awaits y i s (c ∷ cs) calm l = then_awaits y i (replicator_changed y s c) cs calm.1 (changed_awaits y i s c calm.0 l)

answered_calm : (b : Broker) (z : ℕ) (p : Packet) (q : Plan) → Answered b z p q → Each IsCalm q.changes
answered_calm b z p q (Answered.Received id n k position at is awaited) = (tt, tt)
answered_calm b z p q (Answered.Stale other) = tt
answered_calm b z p q (Answered.Other at other) = tt
answered_calm b z p q (Answered.Opened request name at is state) = (tt, tt)
answered_calm b z p q (Answered.OpenBefore request name at is state) = tt
answered_calm b z p q (Answered.ClosedBefore request name at is state) = tt
answered_calm b z p q (Answered.ReceivedBefore id n position at is awaited) = tt

answered_awaits : (per : ℕ) (b : Broker) (z i : ℕ) (p : Packet) (q : Plan) → z < length b.replicators → Answered b z p q → NotAwaited i (replicator_at b z).pending
    → NotAwaited i (replicator_at (done per b q) z).pending
answered_awaits per b z i p q lt a l =
    subst (λ (v : Replicator). NotAwaited i v.pending) (sym (done_replicator per b z q lt))
    (then_awaits z i (replicator_after z (replicator_at b z) q.writes) q.changes (answered_calm b z p q a) (after_awaits z i (replicator_at b z) q.writes l))

-- ---- what each event plans

pub serve_index : (y i : ℕ) (h : Site) (b : Broker) (c : ℕ) (o : Option Packet) → LeaveIndex y i (serve h b c o).writes
unfolding serve
serve_index y i h b c None = tt
serve_index y i h b c (Some p) = served_index y i h b c p _ (frame_served h b c p p.frame refl)

drop_index : (y i c : ℕ) (o : Option Session) → LeaveIndex y i (drop_session c o).writes
drop_index y i c None = tt
drop_index y i c (Some v) = tt

pub dropped_index : (y i : ℕ) (b : Broker) (c : ℕ) → LeaveIndex y i (drop_client b c).writes
unfolding drop_client
dropped_index y i b c = drop_index y i c (session_at b c)

pub reset_index : (y i : ℕ) (h : Site) (b : Broker) (z : ℕ) → LeaveIndex y i (reset h b z).writes
unfolding reset
reset_index y i h b z = on_if (λ (p : Plan). LeaveIndex y i p.writes) (is_remote h z) _ _ (tt, tt) tt

fated_index : (y i per : ℕ) (b : Broker) (Acts : Broker → Plan → Type 0) (lost q : Plan) → ((c : Broker) (p : Plan) → Acts c p → LeaveIndex y i p.writes)
    → LeaveIndex y i lost.writes → Fated per b Acts lost q → LeaveIndex y i q.writes
fated_index y i per b Acts lost q f l (Fated.Once p a) = f b p a
fated_index y i per b Acts lost q f l Fated.Lost = l
fated_index y i per b Acts lost q f l (Fated.Twice p p' a a') = each_both (LeavesIndex y i) p.writes p'.writes (f b p a) (f (done per b p) p' a')

pub take_index : (y i : ℕ) (h : Site) (b : Broker) (x : ℕ) (f : Fate) (o : Option Packet) → LeaveIndex y i (take_packet h b x f o).writes
unfolding take_packet
take_index y i h b x f None = tt
take_index y i h b x f (Some p) = fated_index y i h.per_ledger b (λ c. Taken h c x p) (closes x) _ (λ c q a. taken_index y i h c x p q a) tt (fate_taken h b x p f)

receipt_fated : (y i z : ℕ) (h : Site) (b : Broker) (p : Packet) (q : Plan) → (z ≡ y → NotAwaited i (replicator_at b z).pending × (z < length b.replicators))
    → Fated h.per_ledger b (λ c. Answered c z p) (quiet_plan []) q → LeaveIndex y i q.writes
receipt_fated y i z h b p q l (Fated.Once r a) = answered_index y i z b p r a (λ is. (l is).0)
receipt_fated y i z h b p q l Fated.Lost = tt
receipt_fated y i z h b p q l (Fated.Twice r r' a a') =
    each_both (LeavesIndex y i) r.writes r'.writes (answered_index y i z b p r a (λ is. (l is).0))
    (answered_index y i z (done h.per_ledger b r) p r' a' (λ is. answered_awaits h.per_ledger b z i p r (l is).1 a (l is).0))

pub receipt_index : (y i z : ℕ) (h : Site) (b : Broker) (f : Fate) (o : Option Packet) → (z ≡ y → NotAwaited i (replicator_at b z).pending × (z < length b.replicators))
    → LeaveIndex y i (receipt h b z f o).writes
unfolding receipt
receipt_index y i z h b f None l = tt
receipt_index y i z h b f (Some p) l = receipt_fated y i z h b p _ l (fate_answered h b z p f)

pub restart_index : (y i : ℕ) → LeaveIndex y i restart.writes
unfolding restart
restart_index y i = (tt, tt)

-- what is not among what is awaited
pub none_awaited : (i : ℕ) (ps : List Pending) → ((k : ℕ) (d : Pending) → slice_get ps k ≡ Some d → d.index ≡ i → ⊥) → NotAwaited i ps
none_awaited i [] h = tt
none_awaited i (d ∷ ps) h = (h zero d refl, none_awaited i ps (λ k e at. h (suc k) e at))

-- What the replicator's own events do to its session: receipts and reads.
use Rattle.std.proofs.Common.{◌≡◌, ℕ, ◌+◌, ◌-◌, ◌<◌, ◌≤◌, Bool, true, false, List, [], ◌∷◌, ◌++◌, length, refl, sym, ap, subst, ◌∙◌, ◌==◌, arith, inl, inr, ◌⊎◌}
use Rattle.std.specs.Prelude.{Option, Some, None, nat_lt}
use Rattle.std.proofs.lemmas.Bool.{eqb-true, eq-eqb, eqb-false, false≢true, ltb-true}
use Rattle.std.proofs.lemmas.Bool.Decides.{nat_tests}
use Rattle.std.proofs.lemmas.Option.{none-some, slice_get_within}
use Rattle.world_laws.proofs.Types.{Change, Entry, Packet, Pending, Position, ReplicatorState, Write}
use Rattle.world_laws.proofs.Types.change
use Rattle.world_laws.proofs.Types.frame
use Rattle.world_laws.proofs.Types.cluster_ref
use Rattle.world_laws.proofs.Types.replicator_state
use Rattle.world_laws.proofs.Types.sub_kind
use Rattle.world_laws.proofs.Types.write
use Rattle.geo_base.specs.Broker.{Broker, Site, replicator_at}
use Rattle.geo_base.specs.SnapshotBuilder.{current_id}
use Rattle.geo_base.specs.Cursor.{has, with_index}
use Rattle.geo_base.specs.Link.{Link, next_packet, sent_on, took}
use Rattle.geo_base.specs.Markers.{request_marker, response_marker, snapshot_marker}
use Rattle.geo_base.specs.Plan.{Plan}
use Rattle.geo_base.specs.Replicator.{Replicator, index_to_read, pending_index, replicator_sent, without_number}
use Rattle.geo_base.specs.Subscription.{Subscription}
use Rattle.geo_base.specs.Updating.{handled, updated_indexes}
use Rattle.world_laws.proofs.ComesOver.Awaited.{Differ, awaited_found, awaited_index, push_differ, without_differ, without_gone, without_keeps, without_less}
use Rattle.world_laws.proofs.Replicating.Cursors.{has_it, has_more, next_is}
use Rattle.world_laws.proofs.Replicating.Effects.{Each, replicator_after, replicator_changed, replicator_then, replicator_written}
use Rattle.world_laws.proofs.Replicating.LinkFrames.{pushed}
use Rattle.world_laws.proofs.ComesOver.Live.{Asking, IsAwaited, IsReceiptOf, IsSent, IsSuccess, Live, Opening, Running, other_kind, same_number}
use Rattle.world_laws.proofs.OnceInOrder.Members.{Stands, get_push, stands_here, stands_left}
use Rattle.world_laws.proofs.Replicating.ReplicatorEvents.{chosen, then_both}
use Rattle.world_laws.proofs.Replicating.ReplicatorSide.{LeavesReplicator, left_all, not_it}
use Rattle.world_laws.proofs.Walks.Shapes.{Answered, Reads, ReadsNext, Updates, is_answer}
use Rattle.world_laws.proofs.ComesOver.Waiting.{Waiting, new_waits, sent_comes, still_comes, waits_sent}

abbrev state_number : ReplicatorState → ℕ
state_number replicator_state.Open = 1
state_number replicator_state.Opening = 2
state_number replicator_state.Closed = 3

other_state : (u v w : ReplicatorState) → u ≡ v → u ≡ w → (state_number v ≡ state_number w → ⊥) → ⊥
other_state u v w a b other = other (sym (ap state_number a) ∙ ap state_number b)

-- RECEIPT

-- an answer that has no effect, as it is none of those under way
opening_waits : (s : Replicator) (r : Option ℕ) (f k : Link) (p : Packet) → next_packet k ≡ Some p → (IsSuccess s.session p → ⊥) → Opening s r f k → Opening s r f (took k)
opening_waits s r f k p next other o = record { fresh = o.fresh; open_there = o.open_there; taken = o.taken; success = still_comes k (IsSuccess s.session) p next other o.success }

running_waits : (x : ℕ) (s : Replicator) (r : Option ℕ) (f k : Link) (p : Packet) → next_packet k ≡ Some p
    → ((d : Pending) → Stands s.pending d → IsReceiptOf s.session d.number p → ⊥) → Running x s r f k → Running x s r f (took k)
running_waits x s r f k p next other h = record {
  state = h.state;
  open_there = h.open_there;
  sends = h.sends;
  differ = h.differ;
  below = h.below;
  awaited = λ d stands.
      elim (h.awaited d stands) [
        | inl c ↦ inl c
        | inr c ↦ inr (still_comes k (IsReceiptOf s.session d.number) p next (other d stands) c)
      ];
  read = h.read;
}

-- a stale packet is of another session
not_stale : (s : Replicator) (p : Packet) → (p.session == s.session) ≡ false → p.session ≡ s.session → ⊥
not_stale s p stale same = false≢true (sym stale ∙ eq-eqb p.session s.session same)

-- none comes back before the session is open
none_current : (topic : List ℕ) (s : Replicator) (f k : Link) (p : Packet) → next_packet k ≡ Some p → (p.session == s.session) ≡ true → Asking topic s f k → ⊥
none_current topic s f k p next at a = let lt = a.back k.taken p next in let is = eqb-true p.session s.session at in omega (arith, lt, is)

asking_answered : (x y : ℕ) (topic : List ℕ) (b : Broker) (r : Option ℕ) (f k : Link) (p : Packet) (q : Plan) → next_packet k ≡ Some p → Answered b y p q
    → Asking topic (replicator_at b y) f k → Live x topic (replicator_then y (replicator_after y (replicator_at b y) q.writes) q.changes) r f (took k)
asking_answered x y topic b r f k p q next (Answered.Stale other) a =
    Live.Asks
    (record {
      fresh = a.fresh;
      place = a.place;
      packet = a.packet;
      at = a.at;
      last = a.last;
      ahead = a.ahead;
      opens = a.opens;
      before = a.before;
      back = a.back;
    })
asking_answered x y topic b r f k p q next (Answered.Other at other) a = absurd (none_current topic (replicator_at b y) f k p next at a)
asking_answered x y topic b r f k p q next (Answered.Opened request name at is state) a = absurd (none_current topic (replicator_at b y) f k p next at a)
asking_answered x y topic b r f k p q next (Answered.OpenBefore request name at is state) a = absurd (none_current topic (replicator_at b y) f k p next at a)
asking_answered x y topic b r f k p q next (Answered.ClosedBefore request name at is state) a = absurd (none_current topic (replicator_at b y) f k p next at a)
asking_answered x y topic b r f k p q next (Answered.Received id n i position at is pending) a = absurd (none_current topic (replicator_at b y) f k p next at a)
asking_answered x y topic b r f k p q next (Answered.ReceivedBefore id n position at is pending) a = absurd (none_current topic (replicator_at b y) f k p next at a)

-- the answer comes: the session runs, and nothing is read or awaited yet
begins_running : (x : ℕ) (s : Replicator) (r : Option ℕ) (f k : Link) → Opening s r f k → Running x (record s { state = replicator_state.Open }) r f (took k)
begins_running x s r f k o = record {
  state = refl;
  open_there = o.open_there;
  sends = λ u w. let all = o.taken in let b = w.behind in let lt = within u w in absurd (omega (arith, all, b, lt));
  differ = subst Differ (sym o.fresh.pending) tt;
  below = λ d stands. absurd (none d stands);
  awaited = λ d stands. absurd (none d stands);
  read = λ j lt. let zero_read = o.fresh.read in absurd (omega (arith, lt, zero_read));
}
  where
    within : (u : Packet) (w : Waiting f u) → w.place < length f.sent
    within u w = slice_get_within f.sent w.place u w.at

    none : (d : Pending) → Stands s.pending d → ⊥
    none d stands = let P : List Pending → Type 0 = λ ps. Stands ps d in none-some d (subst P o.fresh.pending stands).is

opening_answered : (x y : ℕ) (topic : List ℕ) (b : Broker) (r : Option ℕ) (f k : Link) (p : Packet) (q : Plan) → next_packet k ≡ Some p → Answered b y p q
    → Opening (replicator_at b y) r f k → Live x topic (replicator_then y (replicator_after y (replicator_at b y) q.writes) q.changes) r f (took k)
opening_answered x y topic b r f k p q next (Answered.Stale other) o =
    Live.Opens (opening_waits (replicator_at b y) r f k p next (λ is. not_stale (replicator_at b y) p other is.session) o)
opening_answered x y topic b r f k p q next (Answered.Other at other) o =
    Live.Opens (opening_waits (replicator_at b y) r f k p next (λ is. false≢true (sym other ∙ ap is_answer is.is)) o)
opening_answered x y topic b r f k p q next (Answered.Opened request name at is state) o =
    let s = replicator_at b y in
    let L : Replicator → Type 0 = λ t. Live x topic t r f (took k) in
    subst L (sym (chosen y (record s { state = replicator_state.Open }) s)) (Live.Runs (begins_running x s r f k o))
opening_answered x y topic b r f k p q next (Answered.OpenBefore request name at is state) o =
    absurd (other_state (replicator_at b y).state _ _ state o.fresh.state (λ e. omega (arith, e)))
opening_answered x y topic b r f k p q next (Answered.ClosedBefore request name at is state) o =
    absurd (other_state (replicator_at b y).state _ _ state o.fresh.state (λ e. omega (arith, e)))
opening_answered x y topic b r f k p q next (Answered.Received id n i position at is pending) o =
    absurd (none-some i (sym (ap (λ (ps : List Pending). pending_index ps n) o.fresh.pending) ∙ pending))
opening_answered x y topic b r f k p q next (Answered.ReceivedBefore id n position at is pending) o =
    Live.Opens (opening_waits (replicator_at b y) r f k p next (λ success. other_kind p.frame _ _ is success.is (λ e. omega (arith, e))) o)

-- a receipt that is awaited: its index is acknowledged, and it is awaited no longer
running_received : (x : ℕ) (s : Replicator) (r : Option ℕ) (f k : Link) (p : Packet) (id n i : ℕ) (position : Option Position) → next_packet k ≡ Some p
    → p.frame ≡ frame.SendReceipt id n position → pending_index s.pending n ≡ Some i → Running x s r f k
    → Running x (record s { cursor = with_index s.cursor i; pending = without_number s.pending n }) r f (took k)
running_received x s r f k p id n i position next is pending h = record {
  state = h.state;
  open_there = h.open_there;
  sends = h.sends;
  differ = without_differ s.pending n h.differ;
  below = λ d stands. h.below d (without_less s.pending n d stands);
  awaited = λ d stands.
      elim (h.awaited d (without_less s.pending n d stands)) [
        | inl c ↦ inl c
        | inr c ↦ inr (still_comes k (IsReceiptOf s.session d.number) p next (λ got. without_gone s.pending n h.differ d stands (sym (number d got))) c)
      ];
  read = λ j lt.
      elim (h.read j lt) [
        | inl acked ↦ inl (has_more s.cursor i j acked)
        | inr w ↦ by j w (w.element.number == n) refl
      ];
}
  where
    number : (d : Pending) → IsReceiptOf s.session d.number p → n ≡ d.number
    number d got = same_number p.frame _ _ is got.is

    by : (j : ℕ) (w : IsAwaited s j) → (b : Bool) → (w.element.number == n) ≡ b
        → (has (with_index s.cursor i) j ≡ true) ⊎ IsAwaited (record s { cursor = with_index s.cursor i; pending = without_number s.pending n }) j
    by j w true e =
        let one : i ≡ j = awaited_index s.pending n i w.element h.differ pending w.stands (eqb-true w.element.number n e) ∙ w.index in
        inl (subst (λ (m : ℕ). has (with_index s.cursor i) m ≡ true) one (has_it s.cursor i))
    by j w false e = inr (record { element = w.element; stands = without_keeps s.pending n w.element w.stands (eqb-false w.element.number n e); index = w.index })

running_answered : (x y : ℕ) (topic : List ℕ) (b : Broker) (r : Option ℕ) (f k : Link) (p : Packet) (q : Plan) → next_packet k ≡ Some p → Answered b y p q
    → Running x (replicator_at b y) r f k → Live x topic (replicator_then y (replicator_after y (replicator_at b y) q.writes) q.changes) r f (took k)
running_answered x y topic b r f k p q next (Answered.Stale other) h =
    Live.Runs (running_waits x (replicator_at b y) r f k p next (λ d stands got. not_stale (replicator_at b y) p other got.session) h)
running_answered x y topic b r f k p q next (Answered.Other at other) h =
    Live.Runs (running_waits x (replicator_at b y) r f k p next (λ d stands got. false≢true (sym other ∙ ap is_answer got.is)) h)
running_answered x y topic b r f k p q next (Answered.Opened request name at is state) h =
    absurd (other_state (replicator_at b y).state _ _ state h.state (λ e. omega (arith, e)))
running_answered x y topic b r f k p q next (Answered.OpenBefore request name at is state) h =
    Live.Runs (running_waits x (replicator_at b y) r f k p next (λ d stands got. other_kind p.frame _ _ is got.is (λ e. omega (arith, e))) h)
running_answered x y topic b r f k p q next (Answered.ClosedBefore request name at is state) h =
    absurd (other_state (replicator_at b y).state _ _ state h.state (λ e. omega (arith, e)))
running_answered x y topic b r f k p q next (Answered.Received id n i position at is pending) h =
    let s = replicator_at b y in
    let L : Replicator → Type 0 = λ t. Live x topic t r f (took k) in
    let acked : Replicator = replicator_written y s (write.ReplicatorAck y i) in
    let one : acked ≡ record s { cursor = with_index s.cursor i } = chosen y (record s { cursor = with_index s.cursor i }) s in
    subst L (sym (chosen y (record acked { pending = without_number acked.pending n }) acked ∙ ap (λ (t : Replicator). record t { pending = without_number t.pending n }) one))
    (Live.Runs (running_received x s r f k p id n i position next is pending h))
running_answered x y topic b r f k p q next (Answered.ReceivedBefore id n position at is pending) h =
    Live.Runs
    (running_waits x (replicator_at b y) r f k p next
    (λ d stands got. awaited_found (replicator_at b y).pending n d stands (same_number p.frame _ _ got.is is) pending) h)

pub live_answered : (x y : ℕ) (topic : List ℕ) (b : Broker) (r : Option ℕ) (f k : Link) (p : Packet) (q : Plan) → next_packet k ≡ Some p → Answered b y p q
    → Live x topic (replicator_at b y) r f k → Live x topic (replicator_then y (replicator_after y (replicator_at b y) q.writes) q.changes) r f (took k)
live_answered x y topic b r f k p q next answered (Live.Asks a) = asking_answered x y topic b r f k p q next answered a
live_answered x y topic b r f k p q next answered (Live.Opens o) = opening_answered x y topic b r f k p q next answered o
live_answered x y topic b r f k p q next answered (Live.Runs h) = running_answered x y topic b r f k p q next answered h

-- READ

-- a write that leaves the replicator to y
abbrev pub LeavesCursor : ℕ → Write → Type 0
LeavesCursor y (write.ReplicatorAck z i) = z ≡ y → ⊥
LeavesCursor y (write.SessionNumber z n) = z ≡ y → ⊥
LeavesCursor y w = Unit {0}

left_write : (y : ℕ) (s : Replicator) (w : Write) → LeavesCursor y w → replicator_written y s w ≡ s
left_write y s (write.ReplicatorAck z i) h = not_it z y s _ h
left_write y s (write.SessionNumber z n) h = not_it z y s _ h
left_write y s w h = refl

pub left_writes : (y : ℕ) (s : Replicator) (ws : List Write) → Each (LeavesCursor y) ws → replicator_after y s ws ≡ s
left_writes y s [] h = refl
left_writes y s (w ∷ ws) h = ap (λ (t : Replicator). replicator_after y t ws) (left_write y s w h.0) ∙ left_writes y s ws h.1

after_both : (y : ℕ) (s : Replicator) (ws vs : List Write) → replicator_after y s (ws ++ vs) ≡ replicator_after y (replicator_after y s ws) vs
after_both y s [] vs = refl
after_both y s (w ∷ ws) vs = after_both y (replicator_written y s w) ws vs

-- what is handled is acknowledged and read
handled_replicator : (y i : ℕ) (s : Replicator) (ws : List Write) (cs : List Change) → Each (LeavesCursor y) ws → Each (LeavesReplicator y) cs
    → replicator_then y (replicator_after y s (handled y i ws cs).writes) (handled y i ws cs).changes ≡ record s { cursor = with_index s.cursor i; read_index = i + 1 }
handled_replicator y i s ws cs left leaves =
    let t : Replicator = record s { cursor = with_index s.cursor i } in
    let written : replicator_after y s (ws ++ write.ReplicatorAck y i ∷ []) ≡ t =
    after_both y s ws (write.ReplicatorAck y i ∷ []) ∙ (ap (λ (v : Replicator). replicator_after y v (write.ReplicatorAck y i ∷ [])) (left_writes y s ws left) ∙ chosen y t s) in
    ap (λ (v : Replicator). replicator_then y v (cs ++ change.ReadTo y (i + 1) ∷ [])) written ∙ then_both y t cs (change.ReadTo y (i + 1) ∷ [])
    ∙ ap (λ (v : Replicator). replicator_changed y v (change.ReadTo y (i + 1))) (left_all y t cs leaves) ∙ chosen y (record t { read_index = i + 1 }) t

-- the next index that a replicator reads, which has its session open
record NextRead (s : Replicator) (i : ℕ) : Type 0 where
  state : s.state ≡ replicator_state.Open
  before : (j : ℕ) → s.read_index ≤ j → j < i → has s.cursor j ≡ true

next_read : (s : Replicator) (n i : ℕ) → index_to_read s.state s n ≡ Some i → NextRead s i
next_read s n i h = by s.state refl h
  where
    by : (state : ReplicatorState) → s.state ≡ state → index_to_read state s n ≡ Some i → NextRead s i
    by replicator_state.Open is at = record { state = is; before = (next_is s.cursor s.read_index (n - s.read_index) i at).before }
    by replicator_state.Opening is at = absurd (none-some i at)
    by replicator_state.Closed is at = absurd (none-some i at)

-- one that waits for its session reads nothing
runs : (x : ℕ) (topic : List ℕ) (s : Replicator) (r : Option ℕ) (f k : Link) → s.state ≡ replicator_state.Open → Live x topic s r f k → Running x s r f k
runs x topic s r f k is (Live.Asks a) = absurd (other_state s.state _ _ is a.fresh.state (λ e. omega (arith, e)))
runs x topic s r f k is (Live.Opens o) = absurd (other_state s.state _ _ is o.fresh.state (λ e. omega (arith, e)))
runs x topic s r f k is (Live.Runs h) = h

running_handled : (x : ℕ) (s : Replicator) (r : Option ℕ) (f k : Link) (i : ℕ) → NextRead s i → Running x s r f k
    → Running x (record s { cursor = with_index s.cursor i; read_index = i + 1 }) r f k
running_handled x s r f k i next h = record {
  state = h.state;
  open_there = h.open_there;
  sends = h.sends;
  differ = h.differ;
  below = h.below;
  awaited = h.awaited;
  read = λ j lt. by j lt (nat_lt j s.read_index) (j == i) refl refl;
}
  where
    by : (j : ℕ) → j < i + 1 → (b c : Bool) → nat_lt j s.read_index ≡ b → (j == i) ≡ c
        → (has (with_index s.cursor i) j ≡ true) ⊎ IsAwaited (record s { cursor = with_index s.cursor i; read_index = i + 1 }) j
    by j lt true c below same =
        elim (h.read j (ltb-true _ _ below)) [
          | inl acked ↦ inl (has_more s.cursor i j acked)
          | inr w ↦ inr (record { element = w.element; stands = w.stands; index = w.index })
        ]
    by j lt false true below same = inl (subst (λ (m : ℕ). has (with_index s.cursor i) m ≡ true) (sym (eqb-true j i same)) (has_it s.cursor i))
    by j lt false false below same = inl (has_more s.cursor i j (next.before j (grind (arith, nat_tests, below)) (grind (arith, nat_tests, same, lt))))

running_forwards : (x : ℕ) (s : Replicator) (r : Option ℕ) (f k : Link) (i : ℕ) (p : Packet) → f.taken ≤ length f.sent → NextRead s i → IsSent x s.session s.next p
    → Running x s r f k → Running x (replicator_sent i s) r (sent_on f p) k
running_forwards x s r f k i p le next sent h = record {
  state = h.state;
  open_there = h.open_there;
  sends = λ u w. elim (waits_sent f p u w) [ inl v ↦ h.sends u v | inr one ↦ (s.next, subst (IsSent x s.session s.next) one sent) ];
  differ = push_differ s.pending (record { number = s.next; index = i }) h.differ (λ d stands is. let lt = h.below d stands in omega (arith, lt, is));
  below = λ d stands.
      elim (get_push s.pending (record { number = s.next; index = i }) stands.place d stands.is) [
        | inl old ↦ let lt = h.below d (record { place = stands.place; is = old.1 }) in omega (arith, lt)
        | inr new ↦ let is = ap (λ (c : Pending). c.number) new.1 in omega (arith, is)
      ];
  awaited = λ d stands.
      elim (get_push s.pending (record { number = s.next; index = i }) stands.place d stands.is) [
        | inl old ↦ elim (h.awaited d (record { place = stands.place; is = old.1 })) [
          | inl c ↦ inl (sent_comes f (IsSent x s.session d.number) p c)
          | inr c ↦ inr c
        ]
        | inr new ↦
            let P : ℕ → Type 0 = λ m. IsSent x s.session m p in
            inl (record { packet = p; waits = new_waits f p le; is = subst P (ap (λ (c : Pending). c.number) new.1) sent })
      ];
  read = λ j lt. by j lt (nat_lt j s.read_index) (j == i) refl refl;
}
  where
    by : (j : ℕ) → j < i + 1 → (b c : Bool) → nat_lt j s.read_index ≡ b → (j == i) ≡ c → (has s.cursor j ≡ true) ⊎ IsAwaited (replicator_sent i s) j
    by j lt true c below same =
        elim (h.read j (ltb-true _ _ below)) [
          | inl acked ↦ inl acked
          | inr w ↦ inr (record { element = w.element; stands = stands_left s.pending (record { number = s.next; index = i } ∷ []) w.element w.stands; index = w.index })
        ]
    by j lt false true below same =
        inr (record { element = record { number = s.next; index = i }; stands = stands_here s.pending [] (record { number = s.next; index = i }); index = sym (eqb-true j i same) })
    by j lt false false below same = inl (next.before j (grind (arith, nat_tests, below)) (grind (arith, nat_tests, same, lt)))

live_handled : (x y : ℕ) (topic : List ℕ) (h : Site) (b : Broker) (r : Option ℕ) (f k : Link) (i : ℕ) (e : Entry) (ws : List Write) (cs : List Change)
    → ReadsNext h b y i e → Each (LeavesCursor y) ws → Each (LeavesReplicator y) cs → Live x topic (replicator_at b y) r f k
    → Live x topic (replicator_then y (replicator_after y (replicator_at b y) (handled y i ws cs).writes) (handled y i ws cs).changes) r f k
live_handled x y topic h b r f k i e ws cs next left leaves live =
    let s = replicator_at b y in
    let n = next_read s (length b.entries) i next.1 in
    let L : Replicator → Type 0 = λ t. Live x topic t r f k in
    subst L (sym (handled_replicator y i s ws cs left leaves)) (Live.Runs (running_handled x s r f k i n (runs x topic s r f k n.state live)))

updates_left : (h : Site) (b : Broker) (v : Subscription) (y : ℕ) (ws : List Write) → Updates h b v ws → Each (LeavesCursor y) ws
updates_left h b v y ws Updates.NoUpdate = tt
updates_left h b v y ws (Updates.Update cut replicated passed) = (tt, tt)

pub live_reads : (topic : List ℕ) (h : Site) (b : Broker) (y : ℕ) (r : Option ℕ) (f k : Link) (q : Plan) (stamp : ℕ) → f.taken ≤ length f.sent → Reads h b y q
    → Live h.own topic (replicator_at b y) r f k
    → Live h.own topic (replicator_then y (replicator_after y (replicator_at b y) q.writes) q.changes) r (pushed y stamp f q.sent) k
live_reads topic h b y r f k q stamp le Reads.NothingToRead live = live
live_reads topic h b y r f k q stamp le (Reads.Forwards i e next out) live =
    let s = replicator_at b y in
    let n = next_read s (length b.entries) i next.1 in
    let p : Packet = record { session = s.session; stamp = stamp; frame = frame.Send s.session s.next (Some (cluster_ref.Known h.own)) e } in
    let L : Replicator → Link → Type 0 = λ t g. Live h.own topic t r g k in
    subst (λ (t : Replicator). L t (pushed y stamp f q.sent)) (sym (chosen y (replicator_sent i s) s))
    (subst (L (replicator_sent i s)) (sym (chosen y (sent_on f p) f))
    (Live.Runs
    (running_forwards h.own s r f k i p le n (record { session = refl; id = s.session; entry = e; is = refl }) (runs h.own topic s r f k n.state live))))
live_reads topic h b y r f k q stamp le (Reads.Skips i e next other) live = live_handled h.own y topic h b r f k i e [] [] next tt tt live
live_reads topic h b y r f k q stamp le (Reads.Responds i e id source next of is) live =
    live_handled h.own y topic h b r f k i e (write.Append (response_marker h b y id) ∷ []) [] next (tt, tt) tt live
live_reads topic h b y r f k q stamp le (Reads.Counts i e id answer u u' next is heard) live =
    live_handled h.own y topic h b r f k i e [] (change.Building (Some u') ∷ []) next tt (tt, tt) live
live_reads topic h b y r f k q stamp le (Reads.AsksAgain i e id answer u u' next is heard) live =
    live_handled h.own y topic h b r f k i e (write.Append (request_marker h b (current_id u')) ∷ []) (change.Building (Some u') ∷ []) next (tt, tt) (tt, tt) live
live_reads topic h b y r f k q stamp le (Reads.Completes i e id answer u u' next is heard) live =
    live_handled h.own y topic h b r f k i e (write.Append (snapshot_marker h b u') ∷ []) (change.Building None ∷ []) next (tt, tt) (tt, tt) live
live_reads topic h b y r f k q stamp le (Reads.CreatesAt i j e n remote next is named) live =
    live_handled h.own y topic h b r f k i e (write.Create n sub_kind.Exclusive true false ∷ write.Acks n (updated_indexes y 0 (j + 1) b.entries) ∷ [])
    (change.Acked n ∷ []) next (tt, (tt, tt)) (tt, tt) live
live_reads topic h b y r f k q stamp le (Reads.ActsOnUpdate i j e n remote v ws next is named after) live =
    live_handled h.own y topic h b r f k i e (write.Acks n (updated_indexes y 0 (j + 1) b.entries) ∷ ws) (change.Acked n ∷ []) next
    (tt, updates_left h b _ y ws after) (tt, tt) live

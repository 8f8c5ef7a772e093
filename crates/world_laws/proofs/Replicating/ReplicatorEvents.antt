-- The events of the replicator from x to y, each with what it does to the facts of the pair: reset, read and receipt.
use Rattle.std.proofs.Common.{◌≡◌, ℕ, zero, suc, ◌+◌, ◌-◌, ◌<◌, ◌≤◌, Bool, true, false, List, [], ◌∷◌, ◌++◌, length, refl, sym, ap, subst, ◌∙◌, ◌==◌, arith, inl, inr, ◌⊎◌, length-append}
use Rattle.std.specs.Prelude.{Option, Some, if◌then◌else◌, nat_lt, slice_get, take}
use Rattle.std.proofs.lemmas.Bool.{eqb-true, false≢true, ltb-true}
use Rattle.std.proofs.lemmas.Bool.Decides.{nat_tests}
use Rattle.std.proofs.lemmas.Option.{none-some, same_Some, slice_get_within}
use Rattle.world_laws.proofs.Types.{Change, Entry, Packet, Position, ReplicatorState, Write}
use Rattle.world_laws.proofs.Types.change
use Rattle.world_laws.proofs.Types.frame
use Rattle.world_laws.proofs.Types.replicator_state
use Rattle.world_laws.proofs.Types.write
use Rattle.geo_base.specs.Broker.{Broker, Site, receiver_at, replicator_at}
use Rattle.geo_base.specs.Cursor.{has, with_index}
use Rattle.geo_base.specs.Entry.{is_outbound}
use Rattle.geo_base.specs.Forwarding.{resets}
use Rattle.geo_base.specs.Link.{Link, sent_on}
use Rattle.geo_base.specs.Plan.{Plan, done, halted, quiet_plan}
use Rattle.geo_base.specs.Reading.{forwards}
use Rattle.geo_base.specs.Replicator.{Replicator, index_to_read, pending_index, replicator_reset, replicator_restarted, replicator_sent, without_number}
use Rattle.geo_base.specs.Updating.{handled}
use Rattle.world_laws.proofs.OnceInOrder.Appends.{after_writes, done_entries, halted_entries}
use Rattle.world_laws.proofs.Replicating.Cursors.{IsNextOpen, has_it, next_is}
use Rattle.world_laws.proofs.Replicating.Effects.{Each, done_replicator, done_size, each_both, halted_replicator, replicator_after, replicator_changed, replicator_then, replicator_written}
use Rattle.world_laws.proofs.Replicating.InARow.{answered_in_a_row}
use Rattle.world_laws.proofs.OnceInOrder.Members.{Stands}
use Rattle.world_laws.proofs.Replicating.Packets.{Asks, Carries, IsReceipt, IsSend, WasSentBefore, last_send, not_both, same_entry, send_left}
use Rattle.world_laws.proofs.Replicating.PairFacts.{IsPlaced, MayAck, Receiving, carried_sent, grows_length}
use Rattle.world_laws.proofs.Replicating.ReplicatorSide.{Facts, HasWritten, LeavesReplicator, OkWrite, Sending, all_ok_written, facts_aside, facts_done, facts_halted, facts_of, left_all, none_written, sending_of}
use Rattle.world_laws.proofs.Replicating.SessionFacts.{forgetful, pending_is, session_forgot, session_opened, session_opens, session_read, session_received, session_sent}
use Rattle.world_laws.proofs.Walks.Shapes.{Answered, Fated, InLink, ReadsNext}
use Rattle.geo_base.proofs.Sums.{eq_itself}

pub chosen : {X : Type 0} (y : ℕ) (u v : X) → (if y == y then u else v) ≡ u
chosen y u v = ap (λ (b : Bool). if b then u else v) (eq_itself y)

-- reset, up to a stop after its write or to its end
reset_sending : (x y : ℕ) (near : List Entry) (s : Replicator) (far : List Entry) (sent back : List Packet) (state : ReplicatorState) (p : Packet)
    → Asks p (s.session + 1) → Sending x y near s far sent back → Sending x y near (forgetful s (s.session + 1) state) far (sent ++ p ∷ []) back
reset_sending x y near s far sent back state p asks h = record {
  carried = carried_sent x y near s.cursor far sent back p (λ m k e c. absurd (not_both p (s.session + 1) m k e asks c)) h.carried;
  session =
      session_opens x y near sent (forgetful s (s.session + 1) state) p asks
      (λ q k e is. let b = h.session.bounded q is.packet is.at in absurd (omega (arith, b, is.carries.session)))
      (session_forgot x y near sent s (s.session + 1) state (omega arith) (inr (omega arith)) h.session);
}

-- one more packet on the forward link leaves what was taken
receiving_sent : (session : Option ℕ) (far : List Entry) (sent : List Packet) (taken : ℕ) (p : Packet) → Receiving session far sent taken
    → Receiving session far (sent ++ p ∷ []) taken
receiving_sent session far sent taken p r = record {
  within = let e = length-append sent (p ∷ []) in let w = r.within in omega (arith, e, w);
  stands = λ m is q k e lt send.
      elim (last_send sent p q m k e send) [
        | inl h ↦ r.stands m is q k e lt h
        | inr h ↦ let w = r.within in absurd (omega (arith, lt, w, h.0))
      ];
}

pub reset_replicator : (y n : ℕ) (s : Replicator) → replicator_then y (replicator_after y s (write.SessionNumber y n ∷ [])) (change.Opening y ∷ []) ≡ forgetful s n replicator_state.Opening
reset_replicator y n s = chosen y (replicator_reset (if y == y then record s { session = n } else s)) _ ∙ ap replicator_reset (chosen y (record s { session = n }) s)

-- a session begins: the packet that opens it goes out
pub reset_done : (x y per : ℕ) (h : Site) (a b : Broker) (f : Link) (back : List Packet) (p : Packet) → y < length a.replicators
    → Asks p ((replicator_at a y).session + 1) → Facts x y a b f back
    → Facts x y (done per a (resets h y ((replicator_at a y).session + 1))) b (sent_on f p) back
reset_done x y per h a b f back p lt asks facts =
    let s = replicator_at a y in let n = s.session + 1 in
    facts_of x y (done per a (resets h y n)) b (sent_on f p) back a.entries (forgetful s n replicator_state.Opening)
    (done_entries per a (resets h y n)) (done_replicator per a y (resets h y n) lt ∙ reset_replicator y n s)
    (receiving_sent (receiver_at b x) b.entries f.sent f.taken p facts.receiving)
    (reset_sending x y a.entries s b.entries f.sent back replicator_state.Opening p asks (sending_of x y a b f back facts))

-- a stop before or after its write
pub reset_halted : (x y per k : ℕ) (h : Site) (a b : Broker) (f : Link) (back : List Packet) → y < length a.replicators → Facts x y a b f back
    → Facts x y (halted per a k (resets h y ((replicator_at a y).session + 1))) b f back
reset_halted x y per zero h a b f back lt facts = facts_halted x y per zero a b f back (quiet_plan []) lt tt facts
reset_halted x y per (suc k) h a b f back lt facts =
    let s = replicator_at a y in let n = s.session + 1 in let p = resets h y n in
    facts_of x y (halted per a (suc k) p) b f back a.entries (forgetful s n replicator_state.Closed)
    (halted_entries per a (suc k) p ∙ halt_is k n) (halted_replicator per a y (suc k) p lt ∙ ap replicator_restarted (replicator_is k n s)) facts.receiving
    (record {
      carried = facts.carried;
      session = session_forgot x y a.entries f.sent s n replicator_state.Closed (omega arith) (inl refl) facts.session;
    })
  where
    halt_is : (k n : ℕ) → after_writes a.entries (take (suc k) (write.SessionNumber y n ∷ []) ++ write.Ledger ∷ []) ≡ a.entries
    halt_is zero n = refl
    halt_is (suc k) n = refl

    replicator_is : (k n : ℕ) (s : Replicator) → replicator_after y s (take (suc k) (write.SessionNumber y n ∷ [])) ≡ record s { session = n }
    replicator_is zero n s = chosen y (record s { session = n }) s
    replicator_is (suc k) n s = chosen y (record s { session = n }) s

-- read: what the next index to read tells
record NextIndex (x y : ℕ) (a : Broker) (i : ℕ) (e : Entry) : Type 0 where
  live : (replicator_at a y).state ≡ replicator_state.Closed → ⊥
  within : i < length a.entries
  covered : (j : ℕ) → (replicator_at a y).read_index ≤ j → j < i → has (replicator_at a y).cursor j ≡ true
  at : slice_get a.entries i ≡ Some e

is_live : ReplicatorState → Bool
is_live replicator_state.Open = true
is_live replicator_state.Opening = true
is_live replicator_state.Closed = false

pub open_live : replicator_state.Open ≡ replicator_state.Closed → ⊥
unfolding is_live
open_live e = false≢true (sym (ap is_live e))

pub opening_live : replicator_state.Opening ≡ replicator_state.Closed → ⊥
unfolding is_live
opening_live e = false≢true (sym (ap is_live e))

pub open_reads : (state : ReplicatorState) (s : Replicator) (n i : ℕ) → index_to_read state s n ≡ Some i
    → (state ≡ replicator_state.Closed → ⊥) × IsNextOpen s.cursor s.read_index (n - s.read_index) i
open_reads replicator_state.Open s n i h = (open_live, next_is s.cursor s.read_index (n - s.read_index) i h)
open_reads replicator_state.Opening s n i h = absurd (none-some i h)
open_reads replicator_state.Closed s n i h = absurd (none-some i h)

next_index : (x y : ℕ) (h : Site) (a : Broker) (i : ℕ) (e : Entry) → ReadsNext h a y i e → NextIndex x y a i e
next_index x y h a i e next =
    let o = open_reads (replicator_at a y).state (replicator_at a y) (length a.entries) i next.1 in
    record { live = o.0; within = slice_get_within a.entries i e next.2; covered = o.1.before; at = next.2 }

-- an entry for y goes out under the next number
sent_sending : (x y : ℕ) (near : List Entry) (s : Replicator) (far : List Entry) (sent back : List Packet) (i : ℕ) (e : Entry) (p : Packet)
    → (s.state ≡ replicator_state.Closed → ⊥) → ((j : ℕ) → s.read_index ≤ j → j < i → has s.cursor j ≡ true) → slice_get near i ≡ Some e → is_outbound x y e ≡ true
    → Carries p s.session s.next e → Sending x y near s far sent back → Sending x y near (replicator_sent i s) far (sent ++ p ∷ []) back
sent_sending x y near s far sent back i e p live covered at out carries h = record {
  carried = carried_sent x y near s.cursor far sent back p placed h.carried;
  session = session_sent x y near sent s i e p live at covered carries h.session;
}
  where
    all_before : (m : ℕ) → s.session ≡ m → (j : ℕ) (f : Entry) → j < i → slice_get near j ≡ Some f → is_outbound x y f ≡ true
        → (b : Bool) → nat_lt j s.read_index ≡ b → (has s.cursor j ≡ true) ⊎ WasSentBefore (sent ++ p ∷ []) (length sent) m f
    all_before m is j f lt at' out' true read =
        elim (h.session.read j f (ltb-true _ _ read) at' out') [
          | inl k ↦ inl k
          | inr w ↦
              let P : ℕ → Type 0 = λ n. IsSend sent w.place n w.number f in
              let before = slice_get_within sent w.place w.send.packet w.send.at in
              inr (record { place = w.place; number = w.number; before = before; send = send_left sent (p ∷ []) w.place m w.number f (subst P is w.send) })
        ]
    all_before m is j f lt at' out' false read = inl (covered j (grind (arith, nat_tests, read)) lt)

    placed : (m k : ℕ) (g : Entry) → Carries p m k g → IsPlaced x y near s.cursor (sent ++ p ∷ []) (length sent) m g
    placed m k g c =
        let P : Entry → Type 0 = λ g. IsPlaced x y near s.cursor (sent ++ p ∷ []) (length sent) m g in
        subst P (same_entry p s.session m s.next k e g carries c)
        (record {
          index = i;
          at = at;
          out = out;
          before = λ j f lt at' out'. all_before m (sym carries.session ∙ c.session) j f lt at' out' (nat_lt j s.read_index) refl;
        })

pub forwards_done : (x y per : ℕ) (h : Site) (a b : Broker) (f : Link) (back : List Packet) (i : ℕ) (e : Entry) (p : Packet) → y < length a.replicators
    → ReadsNext h a y i e → is_outbound x y e ≡ true → Carries p (replicator_at a y).session (replicator_at a y).next e → Facts x y a b f back
    → Facts x y (done per a (forwards h y (replicator_at a y) i e)) b (sent_on f p) back
forwards_done x y per h a b f back i e p lt next out carries facts =
    let s = replicator_at a y in let q = forwards h y s i e in let n = next_index x y h a i e next in
    facts_of x y (done per a q) b (sent_on f p) back a.entries (replicator_sent i s) (done_entries per a q)
    (done_replicator per a y q lt ∙ chosen y (replicator_sent i s) s) (receiving_sent (receiver_at b x) b.entries f.sent f.taken p facts.receiving)
    (sent_sending x y a.entries s b.entries f.sent back i e p n.live n.covered n.at out carries (sending_of x y a b f back facts))

-- what is not for y may be acknowledged at once
aside_may : (x y : ℕ) (h : Site) (a : Broker) (far : List Entry) (i : ℕ) (e : Entry) → ReadsNext h a y i e → is_outbound x y e ≡ false → MayAck x y a.entries far i
aside_may x y h a far i e next other = record {
  within = slice_get_within a.entries i e next.2;
  stands = λ g at out. absurd (false≢true (sym other ∙ (ap (is_outbound x y) (same_Some _ _ (sym next.2 ∙ at)) ∙ out)));
}

pub handled_ok : (x y : ℕ) (h : Site) (a : Broker) (far : List Entry) (i : ℕ) (e : Entry) (ws : List Write) (cs : List Change) → ReadsNext h a y i e
    → is_outbound x y e ≡ false → Each (OkWrite x y a.entries far) ws → Each (OkWrite x y a.entries far) (handled y i ws cs).writes
handled_ok x y h a far i e ws cs next other ok =
    each_both (OkWrite x y a.entries far) ws (write.ReplicatorAck y i ∷ []) ok ((λ _. aside_may x y h a far i e next other), tt)

-- the cursor after writes that end with an acknowledgement has its index
after_ack : (y i : ℕ) (s : Replicator) (ws : List Write) → has (replicator_after y s (ws ++ write.ReplicatorAck y i ∷ [])).cursor i ≡ true
after_ack y i s [] =
    let P : Replicator → Type 0 = λ t. has t.cursor i ≡ true in subst P (sym (chosen y (record s { cursor = with_index s.cursor i }) s)) (has_it s.cursor i)
after_ack y i s (w ∷ ws) = after_ack y i (replicator_written y s w) ws

pub then_both : (y : ℕ) (s : Replicator) (cs ds : List Change) → replicator_then y s (cs ++ ds) ≡ replicator_then y (replicator_then y s cs) ds
then_both y s [] ds = refl
then_both y s (c ∷ cs) ds = then_both y (replicator_changed y s c) cs ds

-- what a replicator read is acknowledged, after writes and changes of its own
pub handled_done : (x y per : ℕ) (h : Site) (a b : Broker) (f : Link) (back : List Packet) (i : ℕ) (e : Entry) (ws : List Write) (cs : List Change)
    → y < length a.replicators → ReadsNext h a y i e → is_outbound x y e ≡ false → Each (OkWrite x y a.entries b.entries) ws → Each (LeavesReplicator y) cs
    → Facts x y a b f back → Facts x y (done per a (handled y i ws cs)) b f back
handled_done x y per h a b f back i e ws cs lt next other ok leaves facts =
    facts_done x y per a b f back (handled y i ws cs) lt (handled_ok x y h a b.entries i e ws cs next other ok) turns facts
  where
    vs : List Write
    vs = ws ++ write.ReplicatorAck y i ∷ []

    s : Replicator
    s = replicator_after y (replicator_at a y) vs

    near : List Entry
    near = after_writes a.entries vs

    written : HasWritten x y a.entries b.entries (replicator_at a y) near s
    written =
        all_ok_written x y a.entries b.entries (replicator_at a y) a.entries (replicator_at a y) vs (handled_ok x y h a b.entries i e ws cs next other ok)
        (none_written x y a.entries b.entries (replicator_at a y))

    n : NextIndex x y a i e
    n = next_index x y h a i e next

    covered : (j : ℕ) → s.read_index ≤ j → j < i + 1 → has s.cursor j ≡ true
    covered j lo hi = by (j == i) refl
      where
        by : (t : Bool) → (j == i) ≡ t → has s.cursor j ≡ true
        by true is = ap (has s.cursor) (eqb-true j i is) ∙ after_ack y i (replicator_at a y) ws
        by false is =
            let same = ap (λ (t : Replicator). t.read_index) written.rest in
            written.grew.keeps j (n.covered j (omega (arith, lo, same)) (grind (arith, nat_tests, is, hi)))

    turns : Sending x y near s b.entries f.sent back → Sending x y near (replicator_then y s (cs ++ change.ReadTo y (i + 1) ∷ [])) b.entries f.sent back
    turns k =
        let P : Replicator → Type 0 = λ t. Sending x y near t b.entries f.sent back in
        let is : replicator_then y s (cs ++ change.ReadTo y (i + 1) ∷ []) ≡ record s { read_index = i + 1 } =
        then_both y s cs (change.ReadTo y (i + 1) ∷ []) ∙ ap (λ (t : Replicator). replicator_changed y t (change.ReadTo y (i + 1))) (left_all y s cs leaves)
        ∙ chosen y (record s { read_index = i + 1 }) s in
        subst P (sym is)
        (record {
          carried = k.carried;
          session = session_read x y near f.sent s (i + 1) (omega (arith, n.within, grows_length a.entries near written.grew.entries)) covered k.session;
        })

-- receipt: what is pending under its number has its entry at y
received_may : (x y : ℕ) (a : Broker) (far : List Entry) (sent back : List Packet) (p : Packet) (id n i : ℕ) (position : Option Position)
    → Sending x y a.entries (replicator_at a y) far sent back → Stands back p → InLink a y p → p.frame ≡ frame.SendReceipt id n position
    → pending_index (replicator_at a y).pending n ≡ Some i → MayAck x y a.entries far i
received_may x y a far sent back p id n i position h came at is pending =
    let m = (replicator_at a y).session in
    let r : IsReceipt back came.place m n = record { packet = p; at = came.is; receives = record { session = eqb-true p.session m at; id = id; position = position; is = is } } in
    let answered = h.carried.receipts came.place m n r in
    let waits = pending_is (replicator_at a y).pending n i pending in
    let d = h.session.pending waits.place (record { number = n; index = i }) waits.is in
    let same : d.entry ≡ answered.entry = h.session.unique d.place answered.place m n d.entry answered.entry d.send answered.send in
    record {
      within = slice_get_within a.entries i d.entry d.at;
      stands = λ e at out.
          let is_e : answered.entry ≡ e = sym same ∙ same_Some _ _ (sym d.at ∙ at) in
          let P : Entry → Type 0 = λ g. Stands far g in subst P is_e answered.stands;
    }

pub answered_ok : (x y : ℕ) (a : Broker) (far : List Entry) (sent back : List Packet) (p : Packet) (q : Plan) → Sending x y a.entries (replicator_at a y) far sent back
    → Stands back p → Answered a y p q → Each (OkWrite x y a.entries far) q.writes
answered_ok x y a far sent back p q h came (Answered.Received id n i position at is pending) =
    ((λ _. received_may x y a far sent back p id n i position h came at is pending), tt)
answered_ok x y a far sent back p q h came (Answered.Stale other) = tt
answered_ok x y a far sent back p q h came (Answered.Other at other) = tt
answered_ok x y a far sent back p q h came (Answered.Opened request name at is state) = tt
answered_ok x y a far sent back p q h came (Answered.OpenBefore request name at is state) = tt
answered_ok x y a far sent back p q h came (Answered.ClosedBefore request name at is state) = tt
answered_ok x y a far sent back p q h came (Answered.ReceivedBefore id n position at is pending) = tt

-- what a receipt changes in the replicator's memory
answered_turns : (x y : ℕ) (a : Broker) (far : List Entry) (sent back : List Packet) (p : Packet) (q : Plan) → Answered a y p q
    → Sending x y (after_writes a.entries q.writes) (replicator_after y (replicator_at a y) q.writes) far sent back
    → Sending x y (after_writes a.entries q.writes) (replicator_then y (replicator_after y (replicator_at a y) q.writes) q.changes) far sent back
answered_turns x y a far sent back p q (Answered.Stale other) h = h
answered_turns x y a far sent back p q (Answered.Other at other) h = h
answered_turns x y a far sent back p q (Answered.Opened request name at is state) h =
    let s = replicator_at a y in
    let P : Replicator → Type 0 = λ t. Sending x y a.entries t far sent back in
    subst P (sym (chosen y (record s { state = replicator_state.Open }) s))
    (record { carried = h.carried; session = session_opened x y a.entries sent s (λ e. opening_live (sym state ∙ e)) h.session })
answered_turns x y a far sent back p q (Answered.OpenBefore request name at is state) h = h
answered_turns x y a far sent back p q (Answered.ClosedBefore request name at is state) h = h
answered_turns x y a far sent back p q (Answered.Received id n i position at is pending) h =
    let s = replicator_written y (replicator_at a y) (write.ReplicatorAck y i) in
    let P : Replicator → Type 0 = λ t. Sending x y a.entries t far sent back in
    subst P (sym (chosen y (record s { pending = without_number s.pending n }) s))
    (record { carried = h.carried; session = session_received x y a.entries sent s n h.session })
answered_turns x y a far sent back p q (Answered.ReceivedBefore id n position at is pending) h = h

answered_once : (x y per : ℕ) (a b : Broker) (f : Link) (back : List Packet) (p : Packet) (q : Plan) → y < length a.replicators → Stands back p → Answered a y p q
    → Facts x y a b f back → Facts x y (done per a q) b f back
answered_once x y per a b f back p q lt came t facts =
    facts_done x y per a b f back q lt (answered_ok x y a b.entries f.sent back p q (sending_of x y a b f back facts) came t)
    (answered_turns x y a b.entries f.sent back p q t) facts

-- a receipt with its fate
pub answered_done : (x y per : ℕ) (a b : Broker) (f : Link) (back : List Packet) (p : Packet) (q : Plan) → y < length a.replicators → Stands back p
    → Fated per a (λ c. Answered c y p) (quiet_plan []) q → Facts x y a b f back → Facts x y (done per a q) b f back
answered_done x y per a b f back p q lt came (Fated.Once r t) facts = answered_once x y per a b f back p r lt came t facts
answered_done x y per a b f back p q lt came Fated.Lost facts = facts_aside x y per a b f back (quiet_plan []) lt tt tt facts
answered_done x y per a b f back p q lt came (Fated.Twice r r' t t') facts =
    let P : Broker → Type 0 = λ c. Facts x y c b f back in
    subst P (sym (answered_in_a_row per a (done per a r) y p r r' t t' a))
    (answered_once x y per (done per a r) b f back p r' (omega (arith, lt, (done_size per a r).replicators)) came t'
    (answered_once x y per a b f back p r lt came t facts))

-- receipts append nothing
answered_entries : (b : Broker) (y : ℕ) (p : Packet) (q : Plan) (es : List Entry) → Answered b y p q → after_writes es q.writes ≡ es
answered_entries b y p q es (Answered.Stale other) = refl
answered_entries b y p q es (Answered.Other at other) = refl
answered_entries b y p q es (Answered.Opened request name at is state) = refl
answered_entries b y p q es (Answered.OpenBefore request name at is state) = refl
answered_entries b y p q es (Answered.ClosedBefore request name at is state) = refl
answered_entries b y p q es (Answered.Received id n i position at is pending) = refl
answered_entries b y p q es (Answered.ReceivedBefore id n position at is pending) = refl

-- so all of its writes may be done, also the second time
pub fated_ok : (x y per : ℕ) (a b : Broker) (f : Link) (back : List Packet) (p : Packet) (q : Plan) → y < length a.replicators → Stands back p
    → Fated per a (λ c. Answered c y p) (quiet_plan []) q → Facts x y a b f back → Each (OkWrite x y a.entries b.entries) q.writes
fated_ok x y per a b f back p q lt came (Fated.Once r t) facts = answered_ok x y a b.entries f.sent back p r (sending_of x y a b f back facts) came t
fated_ok x y per a b f back p q lt came Fated.Lost facts = tt
fated_ok x y per a b f back p q lt came (Fated.Twice r r' t t') facts =
    let P : List Entry → Type 0 = λ es. Each (OkWrite x y es b.entries) r'.writes in
    let next = answered_once x y per a b f back p r lt came t facts in
    each_both (OkWrite x y a.entries b.entries) r.writes r'.writes (answered_ok x y a b.entries f.sent back p r (sending_of x y a b f back facts) came t)
    (subst P (done_entries per a r ∙ answered_entries a y p r a.entries t)
    (answered_ok x y (done per a r) b.entries f.sent back p r' (sending_of x y (done per a r) b f back next) came t'))

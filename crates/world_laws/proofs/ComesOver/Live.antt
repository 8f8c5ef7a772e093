-- The session that settling begins lives until all is quiet: it is asked for, then it is answered, then it runs. The facts are of
-- five values of a pair of clusters: the replicator at x, the session that is open at y, both links, and the topic's name.
use Rattle.std.proofs.Common.{◌≡◌, ℕ, ◌+◌, ◌<◌, ◌≤◌, Bool, true, false, List, [], ◌∷◌, length, refl, sym, ap, subst, ◌∙◌, ◌==◌, arith, inl, inr, ◌⊎◌, length-append}
use Rattle.std.specs.Prelude.{Option, Some, ◌&&◌, slice_get, nat_le}
use Rattle.std.specs.Str.{bytes_eq}
use Rattle.std.proofs.lemmas.Bool.{eqb-true, eq-eqb, eqb-false, false≢true}
use Rattle.std.proofs.lemmas.Bool.Decides.{nat_tests}
use Rattle.std.proofs.lemmas.Option.{same_Some, slice_get_within}
use Rattle.std.proofs.lemmas.Slice.Eq.{bytes_eq-Decides}
use Rattle.world_laws.proofs.Types.{Entry, Frame, Out, Packet, Pending, ClusterRef, Position}
use Rattle.world_laws.proofs.Types.frame
use Rattle.world_laws.proofs.Types.peer
use Rattle.world_laws.proofs.Types.cluster_ref
use Rattle.world_laws.proofs.Types.replicator_state
use Rattle.geo_base.specs.Broker.{Broker, Site, receiver_at}
use Rattle.geo_base.specs.Cursor.{has}
use Rattle.geo_base.specs.Forwarding.{link_producer}
use Rattle.geo_base.specs.Link.{Link, next_packet, sent_on, took}
use Rattle.geo_base.specs.Plan.{Plan}
use Rattle.geo_base.specs.Position.{no_position}
use Rattle.geo_base.specs.Receiver.{is_open}
use Rattle.geo_base.specs.Replicator.{Replicator}
use Rattle.geo_base.specs.Sizes.{entry_size, most_entry_size}
use Rattle.geo_base.specs.Topic.{next_position}
use Rattle.geo_base.specs.World.{stamped}
use Rattle.world_laws.proofs.ComesOver.Awaited.{Differ}
use Rattle.world_laws.proofs.Replicating.Effects.{Each, session_then}
use Rattle.world_laws.proofs.OnceInOrder.Members.{Stands, get_last, get_push}
use Rattle.world_laws.proofs.Replicating.Packets.{Receives}
use Rattle.world_laws.proofs.Replicating.ReplicatorEvents.{chosen}
use Rattle.world_laws.proofs.Replicating.SessionFacts.{forgetful}
use Rattle.world_laws.proofs.Walks.Shapes.{Taken, is_opening, may_store}
use Rattle.world_laws.proofs.ComesOver.Waiting.{AllSent, Comes, Waiting, all_sent, more_sent, new_waits, next_waits, sent_comes, still_waits, took_waits}

-- the packet that opens session m, its answer, and a SEND of it from x under a number
pub record IsOpening (topic : List ℕ) (m : ℕ) (p : Packet) : Type 0 where
  pub session : p.session ≡ m
  pub request : ℕ
  pub name : Option (List ℕ)
  pub is : p.frame ≡ frame.Producer topic m request name

pub record IsSuccess (m : ℕ) (p : Packet) : Type 0 where
  pub session : p.session ≡ m
  pub request : ℕ
  pub name : List ℕ
  pub is : p.frame ≡ frame.ProducerSuccess request name

pub record IsSent (x m n : ℕ) (p : Packet) : Type 0 where
  pub session : p.session ≡ m
  pub id : ℕ
  pub entry : Entry
  pub is : p.frame ≡ frame.Send id n (Some (cluster_ref.Known x)) entry

-- and a receipt of it for a number
abbrev pub IsReceiptOf : ℕ → ℕ → Packet → Type 0
IsReceiptOf m n p = Receives p m n

-- a replicator that waits for its session
pub record IsFresh (s : Replicator) : Type 0 where
  pub state : s.state ≡ replicator_state.Opening
  pub pending : s.pending ≡ []
  pub read : s.read_index ≡ 0

-- It was asked for: the packet that opens it is the last one on the forward link, and not taken yet, so that all before it and all
-- that came back is of older sessions
pub record Asking (topic : List ℕ) (s : Replicator) (f k : Link) : Type 0 where
  pub fresh : IsFresh s
  pub place : ℕ
  pub packet : Packet
  pub at : slice_get f.sent place ≡ Some packet
  pub last : place + 1 ≡ length f.sent
  pub ahead : f.taken ≤ place
  pub opens : IsOpening topic s.session packet
  pub before : (i : ℕ) (u : Packet) → i < place → slice_get f.sent i ≡ Some u → u.session < s.session
  pub back : AllSent (λ u. u.session < s.session) k

-- it is open at y, and the answer is on its way
pub record Opening (s : Replicator) (r : Option ℕ) (f k : Link) : Type 0 where
  pub fresh : IsFresh s
  pub open_there : r ≡ Some s.session
  pub taken : f.taken ≡ length f.sent
  pub success : Comes k (IsSuccess s.session)

-- an index whose receipt is awaited
pub record IsAwaited (s : Replicator) (j : ℕ) : Type 0 where
  pub element : Pending
  pub stands : Stands s.pending element
  pub index : element.index ≡ j

-- it is open on both sides: all that waits on the forward link is of it; each number that is awaited is that of a SEND or of a
-- receipt under way, and each index that was read is acknowledged or awaited
pub record Running (x : ℕ) (s : Replicator) (r : Option ℕ) (f k : Link) : Type 0 where
  pub state : s.state ≡ replicator_state.Open
  pub open_there : r ≡ Some s.session
  pub sends : (u : Packet) → Waiting f u → (n : ℕ) × IsSent x s.session n u
  pub differ : Differ s.pending
  pub below : (d : Pending) → Stands s.pending d → d.number < s.next
  pub awaited : (d : Pending) → Stands s.pending d → Comes f (IsSent x s.session d.number) ⊎ Comes k (IsReceiptOf s.session d.number)
  pub read : (j : ℕ) → j < s.read_index → (has s.cursor j ≡ true) ⊎ IsAwaited s j

pub data Live (x : ℕ) (topic : List ℕ) (s : Replicator) (r : Option ℕ) (f k : Link) : Type 0 where
  Asks : Asking topic s f k → Live x topic s r f k
  Opens : Opening s r f k → Live x topic s r f k
  Runs : Running x s r f k → Live x topic s r f k

-- kinds of frames are told apart, and two frames that are one have one number
abbrev pub kind : Frame → ℕ
kind (frame.Send id n source e) = 1
kind (frame.Producer topic id request name) = 2
kind (frame.ProducerSuccess request name) = 3
kind (frame.SendReceipt id n position) = 4
kind frame.Unreadable = 5
kind f = 0

pub other_kind : (f g h : Frame) → f ≡ g → f ≡ h → (kind g ≡ kind h → ⊥) → ⊥
other_kind f g h a b other = other (sym (ap kind a) ∙ ap kind b)

abbrev pub number_of : Frame → ℕ
number_of (frame.Send id n source e) = n
number_of (frame.Producer topic id request name) = id
number_of (frame.SendReceipt id n position) = n
number_of f = 0

pub same_number : (f g h : Frame) → f ≡ g → f ≡ h → number_of g ≡ number_of h
same_number f g h a b = sym (ap number_of a) ∙ ap number_of b

-- RESET

pub asking_begins : (x : ℕ) (topic : List ℕ) (s : Replicator) (r : Option ℕ) (f k : Link) (p : Packet) → IsOpening topic (s.session + 1) p → f.taken ≤ length f.sent
    → AllSent (λ u. u.session ≤ s.session) f → AllSent (λ u. u.session ≤ s.session) k
    → Live x topic (forgetful s (s.session + 1) replicator_state.Opening) r (sent_on f p) k
asking_begins x topic s r f k p opens le forward back =
    Live.Asks
    (record {
      fresh = record { state = refl; pending = refl; read = refl };
      place = length f.sent;
      packet = p;
      at = get_last f.sent p;
      last = let e = length-append f.sent (p ∷ []) in omega (arith, e);
      ahead = le;
      opens = opens;
      before = λ i u lt at.
          elim (get_push f.sent p i u at) [
            | inl h ↦ let b = forward i u h.1 in omega (arith, b)
            | inr h ↦ absurd (omega (arith, lt, h.0))
          ];
      back = λ i u at. let b = back i u at in omega (arith, b);
    })

-- TAKE

-- what a packet is answered with is of its own session
pub taken_sessions : (h : Site) (b : Broker) (x : ℕ) (p : Packet) (q : Plan) → Taken h b x p q → Each (λ (o : Out). o.session ≡ p.session) q.sent
taken_sessions h b x p q (Taken.Unreadable is) = tt
taken_sessions h b x p q (Taken.Opens topic id request name is opening) = (eqb-true id p.session (second (bytes_eq topic h.topic) (id == p.session) opening), tt)
  where
    second : (u v : Bool) → (u && v) ≡ true → v ≡ true
    second true v e = e
    second false v e = absurd (false≢true e)
taken_sessions h b x p q (Taken.Discards other shut) = tt
taken_sessions h b x p q (Taken.Refuses other at may) = tt
taken_sessions h b x p q (Taken.Stores id seq source e is at may new) = (refl, tt)
taken_sessions h b x p q (Taken.Repeats id seq source e is at may old) = (refl, tt)

each_less : (m n : ℕ) (stamp : ℕ) (os : List Out) → n < m → Each (λ (o : Out). o.session ≡ n) os → Each (λ (o : Out). (stamped stamp o).session < m) os
each_less m n stamp [] lt h = tt
each_less m n stamp (o ∷ os) lt h = (let e = h.0 in omega (arith, lt, e), each_less m n stamp os lt h.1)

-- a packet before the one that opens the session
asking_later : (topic : List ℕ) (h : Site) (b : Broker) (x : ℕ) (s : Replicator) (f k : Link) (p : Packet) (q : Plan) (stamp : ℕ) → next_packet f ≡ Some p
    → (a : Asking topic s f k) → (f.taken ≡ a.place → ⊥) → Taken h b x p q → Asking topic s (took f) (all_sent stamp k q.sent)
asking_later topic h b x s f k p q stamp next a other taken =
    let ahead = a.ahead in
    let lt : f.taken < a.place = by ahead in
    let old = a.before f.taken p lt next in
    record {
      fresh = a.fresh;
      place = a.place;
      packet = a.packet;
      at = a.at;
      last = a.last;
      ahead = omega (arith, lt);
      opens = a.opens;
      before = a.before;
      back = more_sent (λ u. u.session < s.session) stamp k q.sent (each_less s.session p.session stamp q.sent old (taken_sessions h b x p q taken)) a.back;
    }
  where
    by : f.taken ≤ a.place → f.taken < a.place
    by le = at (f.taken == a.place) refl
      where
        at : (t : Bool) → (f.taken == a.place) ≡ t → f.taken < a.place
        at true e = absurd (other (eqb-true f.taken a.place e))
        at false e = grind (arith, nat_tests, e, le)

-- it opens the session
is_its_opening : (topic : List ℕ) (h : Site) (m : ℕ) (p : Packet) → h.topic ≡ topic → IsOpening topic m p → is_opening h p p.frame ≡ true
is_its_opening topic h m p same o =
    ap (is_opening h p) o.is ∙ (ap (λ (t : Bool). t && (m == p.session)) ((bytes_eq-Decides topic h.topic).1 (sym same)) ∙ eq-eqb m p.session (sym o.session))

opening_taken : (topic : List ℕ) (h : Site) (b : Broker) (x : ℕ) (s : Replicator) (f k : Link) (p : Packet) (q : Plan) (stamp : ℕ) → h.topic ≡ topic → IsFresh s
    → f.taken + 1 ≡ length f.sent → k.taken ≤ length k.sent → IsOpening topic s.session p → Taken h b x p q
    → Opening s (session_then x (receiver_at b x) q.changes) (took f) (all_sent stamp k q.sent)
opening_taken topic h b x s f k p q stamp same fresh last le o (Taken.Unreadable is) =
    absurd (other_kind p.frame _ _ o.is is (λ e. omega (arith, e)))
opening_taken topic h b x s f k p q stamp same fresh last le o (Taken.Opens topic' id request name is opening) =
    let number : id ≡ s.session = same_number p.frame _ _ is o.is in
    let out : Out = record { to = peer.Back x; session = id; frame = frame.ProducerSuccess request (link_producer h x) } in
    record {
      fresh = fresh;
      open_there = chosen x (Some id) (receiver_at b x) ∙ ap Some number;
      taken = omega (arith, last);
      success = record {
        packet = stamped stamp out;
        waits = new_waits k (stamped stamp out) le;
        is = record { session = number; request = request; name = link_producer h x; is = refl };
      };
    }
opening_taken topic h b x s f k p q stamp same fresh last le o (Taken.Discards other shut) =
    absurd (false≢true (sym other ∙ is_its_opening topic h s.session p same o))
opening_taken topic h b x s f k p q stamp same fresh last le o (Taken.Refuses other at may) =
    absurd (false≢true (sym other ∙ is_its_opening topic h s.session p same o))
opening_taken topic h b x s f k p q stamp same fresh last le o (Taken.Stores id seq source e is at may new) =
    absurd (other_kind p.frame _ _ o.is is (λ e. omega (arith, e)))
opening_taken topic h b x s f k p q stamp same fresh last le o (Taken.Repeats id seq source e is at may old) =
    absurd (other_kind p.frame _ _ o.is is (λ e. omega (arith, e)))

-- a SEND of it is answered with a receipt
receipt_goes : (x : ℕ) (s : Replicator) (r : Option ℕ) (f k : Link) (p : Packet) (n seq : ℕ) (position : Option Position) (stamp : ℕ) (o : Out) → next_packet f ≡ Some p
    → k.taken ≤ length k.sent → IsSent x s.session n p → o.session ≡ s.session → o.frame ≡ frame.SendReceipt p.session seq position → seq ≡ n
    → Running x s r f k → Running x s r (took f) (sent_on k (stamped stamp o))
receipt_goes x s r f k p n seq position stamp o next le sent session is number h = record {
  state = h.state;
  open_there = h.open_there;
  sends = λ u w. h.sends u (took_waits f u w);
  differ = h.differ;
  below = h.below;
  awaited = awaited;
  read = h.read;
}
  where
    reply : Packet
    reply = stamped stamp o

    awaited : (d : Pending) → Stands s.pending d
        → Comes (took f) (IsSent x s.session d.number) ⊎ Comes (sent_on k (stamped stamp o)) (IsReceiptOf s.session d.number)
    awaited d stands =
        elim (h.awaited d stands) [
          | inr c ↦ inr (sent_comes k (IsReceiptOf s.session d.number) reply c)
          | inl c ↦ elim (still_waits f p c.packet next c.waits) [
            | inr w ↦ inl (record { packet = c.packet; waits = w; is = c.is })
            | inl one ↦
                let mine : n ≡ d.number = same_number c.packet.frame _ _ (subst (λ (v : Packet). v.frame ≡ frame.Send sent.id n (Some (cluster_ref.Known x)) sent.entry) one sent.is) c.is.is in
                let R : ℕ → Type 0 = λ i. o.frame ≡ frame.SendReceipt p.session i position in
                inr
                (record {
                  packet = reply;
                  waits = new_waits k reply le;
                  is = record { session = session; id = p.session; position = position; is = subst R (number ∙ mine) is };
                })
          ]
        ]

-- the receiving side refuses no SEND that fits
abbrev pub FitsLink : Site → Packet → Type 0
FitsLink h p = (id n : ℕ) (source : Option ClusterRef) (e : Entry) → p.frame ≡ frame.Send id n source e → nat_le (entry_size h.clusters e) most_entry_size ≡ true

running_taken : (x : ℕ) (h : Site) (b : Broker) (s : Replicator) (f k : Link) (p : Packet) (q : Plan) (stamp n : ℕ) → next_packet f ≡ Some p → k.taken ≤ length k.sent
    → FitsLink h p → IsSent x s.session n p → Taken h b x p q → Running x s (receiver_at b x) f k
    → Running x s (session_then x (receiver_at b x) q.changes) (took f) (all_sent stamp k q.sent)
running_taken x h b s f k p q stamp n next le fits sent (Taken.Unreadable is) run = absurd (other_kind p.frame _ _ sent.is is (λ e. omega (arith, e)))
running_taken x h b s f k p q stamp n next le fits sent (Taken.Opens topic id request name is opening) run =
    absurd (other_kind p.frame _ _ sent.is is (λ e. omega (arith, e)))
running_taken x h b s f k p q stamp n next le fits sent (Taken.Discards other shut) run =
    let live : is_open (receiver_at b x) p.session ≡ true =
    ap (λ (o : Option ℕ). is_open o p.session) run.open_there ∙ eq-eqb s.session p.session (sym sent.session) in
    absurd (false≢true (sym shut ∙ live))
running_taken x h b s f k p q stamp n next le fits sent (Taken.Refuses other at may) run =
    let stores : may_store h x p.frame ≡ true =
    ap (may_store h x) sent.is
    ∙ (ap (λ (t : Bool). t && nat_le (entry_size h.clusters sent.entry) most_entry_size) (eq-eqb x x refl) ∙ fits sent.id n (Some (cluster_ref.Known x)) sent.entry sent.is) in
    absurd (false≢true (sym may ∙ stores))
running_taken x h b s f k p q stamp n next le fits sent (Taken.Stores id seq source e is at may new) run =
    receipt_goes x s (receiver_at b x) f k p n seq (Some (next_position h.per_ledger b.ledgers)) stamp
    (record { to = peer.Back x; session = p.session; frame = frame.SendReceipt p.session seq (Some (next_position h.per_ledger b.ledgers)) }) next le sent sent.session refl
    (same_number p.frame _ _ is sent.is) run
running_taken x h b s f k p q stamp n next le fits sent (Taken.Repeats id seq source e is at may old) run =
    receipt_goes x s (receiver_at b x) f k p n seq (Some no_position) stamp
    (record { to = peer.Back x; session = p.session; frame = frame.SendReceipt p.session seq (Some no_position) }) next le sent sent.session refl
    (same_number p.frame _ _ is sent.is) run

pub live_takes : (x : ℕ) (topic : List ℕ) (h : Site) (b : Broker) (s : Replicator) (f k : Link) (p : Packet) (q : Plan) (stamp : ℕ) → h.topic ≡ topic → next_packet f ≡ Some p
    → k.taken ≤ length k.sent → FitsLink h p → Taken h b x p q → Live x topic s (receiver_at b x) f k
    → Live x topic s (session_then x (receiver_at b x) q.changes) (took f) (all_sent stamp k q.sent)
live_takes x topic h b s f k p q stamp same next le fits taken (Live.Asks a) = by (f.taken == a.place) refl
  where
    by : (t : Bool) → (f.taken == a.place) ≡ t → Live x topic s (session_then x (receiver_at b x) q.changes) (took f) (all_sent stamp k q.sent)
    by true e =
        let is = eqb-true f.taken a.place e in
        let one : a.packet ≡ p = same_Some _ _ (sym a.at ∙ (ap (slice_get f.sent) (sym is) ∙ next)) in
        let last = a.last in
        Live.Opens (opening_taken topic h b x s f k p q stamp same a.fresh (omega (arith, is, last)) le (subst (IsOpening topic s.session) one a.opens) taken)
    by false e = Live.Asks (asking_later topic h b x s f k p q stamp next a (eqb-false f.taken a.place e) taken)
live_takes x topic h b s f k p q stamp same next le fits taken (Live.Opens o) =
    let lt = slice_get_within f.sent f.taken p next in let all = o.taken in absurd (omega (arith, lt, all))
live_takes x topic h b s f k p q stamp same next le fits taken (Live.Runs run) =
    let one = run.sends p (next_waits f p next) in Live.Runs (running_taken x h b s f k p q stamp one.0 next le fits one.1 taken run)

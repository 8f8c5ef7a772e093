-- The packets that y takes from x, each with what it does to the facts of the pair.
use Rattle.std.proofs.Common.{◌≡◌, ℕ, zero, ◌+◌, ◌<◌, ◌≤◌, Bool, true, false, List, [], ◌∷◌, ◌++◌, length, refl, sym, ap, subst, ◌∙◌, ◌==◌, arith, inl, inr}
use Rattle.std.specs.Prelude.{Option, Some, None, if◌then◌else◌, slice_get}
use Rattle.std.specs.Str.{bytes_eq}
use Rattle.std.proofs.lemmas.Bool.{eqb-true, eq-eqb, false≢true}
use Rattle.std.proofs.lemmas.Bool.Decides.{nat_tests}
use Rattle.std.proofs.lemmas.Option.{same_Some, slice_get_within}
use Rattle.world_laws.proofs.Types.{Entry, Frame, Out, Packet, ClusterRef, Position}
use Rattle.world_laws.proofs.Types.frame
use Rattle.world_laws.proofs.Types.peer
use Rattle.geo_base.specs.Broker.{Broker, Site, receiver_at, replicator_at}
use Rattle.geo_base.specs.Entry.{with_origin}
use Rattle.geo_base.specs.Forwarding.{closes, link_producer}
use Rattle.geo_base.specs.Link.{Link}
use Rattle.geo_base.specs.Plan.{Plan, done}
use Rattle.geo_base.specs.Position.{no_position}
use Rattle.geo_base.specs.Receiver.{is_open}
use Rattle.geo_base.specs.Topic.{accepts, next_position}
use Rattle.geo_base.specs.World.{stamped}
use Rattle.world_laws.proofs.OnceInOrder.Appends.{after_writes, done_entries}
use Rattle.world_laws.proofs.Replicating.Effects.{Each, done_session, done_size, each_both, each_map, session_then}
use Rattle.world_laws.proofs.Replicating.InARow.{taken_in_a_row}
use Rattle.world_laws.proofs.OnceInOrder.Members.{Stands, stands_here, stands_left}
use Rattle.world_laws.proofs.OnceInOrder.Once.{OnceIn}
use Rattle.world_laws.proofs.Replicating.Packets.{Asks, Carries, IsOpener, IsSend, Receives, same_entry, same_cluster_ref}
use Rattle.world_laws.proofs.Replicating.PairFacts.{Carried, IsAnswered, IsPlaced, Receiving, carried_far, none_open}
use Rattle.world_laws.proofs.Replicating.Prefixes.{AllBefore, Begins, is_of, next_begins, of_out, refused_stands}
use Rattle.world_laws.proofs.Replicating.ReplicatorSide.{Facts}
use Rattle.world_laws.proofs.Replicating.ReceiverSide.{Extends, extends_both, stands_after}
use Rattle.world_laws.proofs.Walks.Walk.{right}
use Rattle.world_laws.proofs.Walks.Shapes.{Fated, Taken}

-- an answer that may go out: no receipt, or one of a SEND whose entry stands
abbrev pub OkOut : List Entry → List Packet → Out → Type 0
OkOut far sent o = (stamp m k : ℕ) → Receives (stamped stamp o) m k → IsAnswered far sent m k

-- what taking a packet has come to: the topic at y, the session from x, and the answers
pub record HasTaken (x y : ℕ) (near : List Entry) (cursor : List ℕ) (far : List Entry) (session : Option ℕ) (sent back : List Packet) (taken : ℕ) (outs : List Out) : Type 0 where
  pub carried : Carried x y near cursor far sent back
  pub receiving : Receiving session far sent taken
  pub answers : Each (OkOut far sent) outs

abbrev is_receipt : Frame → Bool
is_receipt (frame.SendReceipt id n position) = true
is_receipt f = false

no_receipt : (o : Out) (far : List Entry) (sent : List Packet) → is_receipt o.frame ≡ false → OkOut far sent o
no_receipt o far sent h stamp m k r = absurd (false≢true (sym h ∙ ap is_receipt r.is))

open_is : (r : Option ℕ) (n : ℕ) → is_open r n ≡ true → r ≡ Some n
open_is None n h = absurd (false≢true h)
open_is (Some m) n h = ap Some (eqb-true m n h)

session_of : (x : ℕ) (r s : Option ℕ) → (if x == x then s else r) ≡ s
session_of x r s = ap (λ (b : Bool). if b then s else r) (eq-eqb x x refl)

closed_session : (x : ℕ) (r : Option ℕ) (far : List Entry) (sent : List Packet) (taken : ℕ) → taken ≤ length sent → Receiving (if x == x then None else r) far sent taken
closed_session x r far sent taken le = let R : Option ℕ → Type 0 = λ o. Receiving o far sent taken in subst R (sym (session_of x r None)) (none_open far sent taken le)

abbrev receipt_number : Frame → ℕ
receipt_number (frame.SendReceipt id n position) = n
receipt_number f = zero

-- the SEND at a place
send_at : (sent : List Packet) (q : ℕ) (p : Packet) (id seq : ℕ) (source : Option ClusterRef) (e : Entry) → slice_get sent q ≡ Some p
    → p.frame ≡ frame.Send id seq source e → IsSend sent q p.session seq e
send_at sent q p id seq source e at is = record { packet = p; at = at; carries = record { session = refl; id = id; source = source; is = is } }

-- all entries for y that come before that of a SEND of the open session stand at y
all_before : (x y : ℕ) (near : List Entry) (cursor : List ℕ) (far : List Entry) (r : Option ℕ) (sent back : List Packet) (c q m : ℕ) (e : Entry)
    → Carried x y near cursor far sent back → Receiving r far sent c → r ≡ Some m → q ≤ c → (p : IsPlaced x y near cursor sent q m e) → AllBefore x y near far p.index
all_before x y near cursor far r sent back c q m e carried receiving live le p j f lt at out =
    elim (p.before j f lt at out) [
      | inl h ↦ carried.received j f h at out
      | inr w ↦ receiving.stands m live w.place w.number f (omega (arith, w.before, le)) w.send
    ]

own_origin : (x : ℕ) (e : Entry) → is_of x e ≡ true → with_origin x e ≡ e
own_origin x e h = ap (λ (n : ℕ). with_origin n e) (sym (eqb-true e.ident.origin x h))

-- what is taken of the open session goes on standing, with one more
stands_on : (far far' : List Entry) (r : Option ℕ) (sent : List Packet) (c q : ℕ) (p : Packet) (id seq : ℕ) (source : Option ClusterRef) (e : Entry)
    → slice_get sent q ≡ Some p → p.frame ≡ frame.Send id seq source e → q < length sent → q ≤ c → c ≤ q + 1 → ((f : Entry) → Stands far f → Stands far' f) → Stands far' e
    → Receiving r far sent c → Receiving r far' sent (q + 1)
stands_on far far' r sent c q p id seq source e at is in_sent le ge more here h = record {
  within = omega (arith, in_sent);
  stands = λ m live v k f lt send. by m live v k f lt send (v == q) refl;
}
  where
    by : (m : ℕ) → r ≡ Some m → (v k : ℕ) (f : Entry) → v < q + 1 → IsSend sent v m k f → (b : Bool) → (v == q) ≡ b → Stands far' f
    by m live v k f lt send true same =
        let P : ℕ → Type 0 = λ n. slice_get sent n ≡ Some send.packet in
        let one : p ≡ send.packet = same_cluster_ref sent q p send.packet at (subst P (eqb-true v q same) send.at) in
        let C : Packet → Type 0 = λ r. Carries r m k f in
        let E : Entry → Type 0 = λ g. Stands far' g in
        let mine : Carries p p.session seq e = record { session = refl; id = id; source = source; is = is } in
        subst E (same_entry p p.session m seq k e f mine (subst C (sym one) send.carries)) here
    by m live v k f lt send false other = more f (h.stands m live v k f (grind (arith, nat_tests, other, lt, le)) send)

receipt_ok : (far : List Entry) (sent : List Packet) (q : ℕ) (p : Packet) (seq : ℕ) (e : Entry) (o : Out) (position : Option Position) → IsSend sent q p.session seq e
    → Stands far e → o.session ≡ p.session → o.frame ≡ frame.SendReceipt p.session seq position → OkOut far sent o
receipt_ok far sent q p seq e o position send stands session is stamp m k r =
    let number : seq ≡ k = sym (ap receipt_number is) ∙ ap receipt_number r.is in
    let S : ℕ → ℕ → Type 0 = λ m k. IsSend sent q m k e in
    record { place = q; entry = e; send = subst (λ (n : ℕ). S n k) (sym session ∙ r.session) (subst (S p.session) number send); stands = stands }

-- one packet, acted on once. q is its place, and c counts what was taken: up to it, or with it, as the second time
taken_once : (x y : ℕ) (near : List Entry) (cursor : List ℕ) (h : Site) (b : Broker) (sent back : List Packet) (c q : ℕ) (p : Packet) (plan : Plan) → OnceIn near
    → ((v w m k : ℕ) (e : Entry) → IsOpener sent v m → IsSend sent w m k e → v < w) → slice_get sent q ≡ Some p → q < length sent → q ≤ c → c ≤ q + 1
    → Taken h b x p plan → Carried x y near cursor b.entries sent back → Receiving (receiver_at b x) b.entries sent c
    → HasTaken x y near cursor (after_writes b.entries plan.writes) (session_then x (receiver_at b x) plan.changes) sent back (q + 1) plan.sent
taken_once x y near cursor h b sent back c q p plan once opened at within le ge (Taken.Unreadable is) carried receiving = record {
  carried = carried;
  receiving = closed_session x (receiver_at b x) b.entries sent (q + 1) (omega (arith, within));
  answers = tt;
}
taken_once x y near cursor h b sent back c q p plan once opened at within le ge (Taken.Refuses other live may) carried receiving = record {
  carried = carried;
  receiving = closed_session x (receiver_at b x) b.entries sent (q + 1) (omega (arith, within));
  answers = tt;
}
taken_once x y near cursor h b sent back c q p plan once opened at within le ge (Taken.Opens topic id request name is opening) carried receiving = record {
  carried = carried;
  receiving =
      let R : Option ℕ → Type 0 = λ o. Receiving o b.entries sent (q + 1) in
      let same : id ≡ p.session = eqb-true id p.session (right (bytes_eq topic h.topic) (id == p.session) opening) in
      subst R (sym (session_of x (receiver_at b x) (Some id)))
      (record {
        within = omega (arith, within);
        stands = λ m live v k e lt send.
            let asks : Asks p m = record { session = sym same ∙ same_Some _ _ live; topic = topic; id = id; request = request; name = name; is = is } in
            let first = opened q v m k e (record { packet = p; at = at; asks = asks }) send in
            absurd (omega (arith, first, lt));
      });
  answers = (no_receipt (record { to = peer.Back x; session = id; frame = frame.ProducerSuccess request (link_producer h x) }) b.entries sent refl, tt);
}
taken_once x y near cursor h b sent back c q p plan once opened at within le ge (Taken.Discards other shut) carried receiving = record {
  carried = carried;
  receiving = record {
    within = omega (arith, within);
    stands = λ m live v k e lt send. discarded m live v k e lt send (v == q) refl;
  };
  answers = tt;
}
  where
    discarded : (m : ℕ) → receiver_at b x ≡ Some m → (v k : ℕ) (e : Entry) → v < q + 1 → IsSend sent v m k e → (t : Bool) → (v == q) ≡ t → Stands b.entries e
    discarded m live v k e lt send true same =
        let P : ℕ → Type 0 = λ n. slice_get sent n ≡ Some send.packet in
        let one : p ≡ send.packet = same_cluster_ref sent q p send.packet at (subst P (eqb-true v q same) send.at) in
        let session : p.session ≡ m = ap (λ (r : Packet). r.session) one ∙ send.carries.session in
        let is : is_open (receiver_at b x) p.session ≡ true = ap (λ (o : Option ℕ). is_open o p.session) live ∙ eq-eqb m p.session (sym session) in
        absurd (false≢true (sym shut ∙ is))
    discarded m live v k e lt send false other' = receiving.stands m live v k e (grind (arith, nat_tests, other', lt, le)) send
taken_once x y near cursor h b sent back c q p plan once opened at within le ge (Taken.Stores id seq source e is live may new) carried receiving =
    let send = send_at sent q p id seq source e at is in
    let placed = carried.sends q p.session seq e send in
    let own : with_origin x e ≡ e = own_origin x e (of_out x y e placed.out) in
    let before = all_before x y near cursor b.entries (receiver_at b x) sent back c q p.session e carried receiving (open_is (receiver_at b x) p.session live) le placed in
    let A : Entry → Type 0 = λ g. accepts b.entries g.ident ≡ true in
    let out : Out = record { to = peer.Back x; session = p.session; frame = frame.SendReceipt p.session seq (Some (next_position h.per_ledger b.ledgers)) } in
    let G : Entry → Type 0 = λ g. HasTaken x y near cursor (b.entries ++ g ∷ []) (receiver_at b x) sent back (q + 1) (out ∷ []) in
    let begins = next_begins x y near b.entries placed.index e once carried.begins placed.at placed.out before (subst A own new) in
    let here : Stands (b.entries ++ e ∷ []) e = stands_here b.entries [] e in
    let more : (f : Entry) → Stands b.entries f → Stands (b.entries ++ e ∷ []) f = λ f s. stands_left b.entries (e ∷ []) f s in
    subst G (sym own)
    (record {
      carried = carried_far x y near cursor b.entries (b.entries ++ e ∷ []) sent back begins more carried;
      receiving = stands_on b.entries (b.entries ++ e ∷ []) (receiver_at b x) sent c q p id seq source e at is within le ge more here receiving;
      answers = (receipt_ok (b.entries ++ e ∷ []) sent q p seq e out (Some (next_position h.per_ledger b.ledgers)) send here refl refl, tt);
    })
taken_once x y near cursor h b sent back c q p plan once opened at within le ge (Taken.Repeats id seq source e is live may old) carried receiving =
    let send = send_at sent q p id seq source e at is in
    let placed = carried.sends q p.session seq e send in
    let own : with_origin x e ≡ e = own_origin x e (of_out x y e placed.out) in
    let A : Entry → Type 0 = λ g. accepts b.entries g.ident ≡ false in
    let here : Stands b.entries e = refused_stands x y near b.entries placed.index e once carried.begins placed.at placed.out (subst A own old) in
    record {
      carried = carried;
      receiving = stands_on b.entries b.entries (receiver_at b x) sent c q p id seq source e at is within le ge (λ f s. s) here receiving;
      answers = (receipt_ok b.entries sent q p seq e (record { to = peer.Back x; session = p.session; frame = frame.SendReceipt p.session seq (Some no_position) }) (Some no_position) send here refl refl, tt);
    }

-- a packet at its place, with what was taken so far
record Coming (x y : ℕ) (near : List Entry) (cursor : List ℕ) (b : Broker) (sent back : List Packet) (c q : ℕ) (p : Packet) : Type 0 where
  once : OnceIn near
  opened : (v w m k : ℕ) (e : Entry) → IsOpener sent v m → IsSend sent w m k e → v < w
  at : slice_get sent q ≡ Some p
  within : q < length sent
  low : q ≤ c
  high : c ≤ q + 1
  carried : Carried x y near cursor b.entries sent back
  receiving : Receiving (receiver_at b x) b.entries sent c

taken_one : (x y : ℕ) (near : List Entry) (cursor : List ℕ) (h : Site) (b : Broker) (sent back : List Packet) (c q : ℕ) (p : Packet) (plan : Plan)
    → x < length b.receivers → Coming x y near cursor b sent back c q p → Taken h b x p plan
    → HasTaken x y near cursor (done h.per_ledger b plan).entries (receiver_at (done h.per_ledger b plan) x) sent back (q + 1) plan.sent
taken_one x y near cursor h b sent back c q p plan lt k t =
    let b' = done h.per_ledger b plan in
    let P : List Entry → Option ℕ → Type 0 = λ es r. HasTaken x y near cursor es r sent back (q + 1) plan.sent in
    subst (λ (es : List Entry). P es (receiver_at b' x)) (sym (done_entries h.per_ledger b plan))
    (subst (P (after_writes b.entries plan.writes)) (sym (done_session h.per_ledger b x plan lt))
    (taken_once x y near cursor h b sent back c q p plan k.once k.opened k.at k.within k.low k.high t k.carried k.receiving))

-- what goes out goes on standing
outs_later : (per : ℕ) (b : Broker) (q : Plan) (sent : List Packet) (outs : List Out) → Each (OkOut b.entries sent) outs → Each (OkOut (done per b q).entries sent) outs
outs_later per b q sent outs h =
    let P : List Entry → Entry → Type 0 = λ es e. Stands es e in
    each_map (OkOut b.entries sent) (OkOut (done per b q).entries sent)
    (λ o ok stamp m k r.
    let n = ok stamp m k r in
    record {
      place = n.place;
      entry = n.entry;
      send = n.send;
      stands = subst (λ (es : List Entry). P es n.entry) (sym (done_entries per b q)) (stands_after b.entries q.writes n.entry n.stands);
    })
    outs h

coming_first : (x y : ℕ) (a b : Broker) (f : Link) (back : List Packet) (p : Packet) → OnceIn a.entries → slice_get f.sent f.taken ≡ Some p → Facts x y a b f back
    → Coming x y a.entries (replicator_at a y).cursor b f.sent back f.taken f.taken p
coming_first x y a b f back p once at h = record {
  once = once;
  opened = h.session.opened;
  at = at;
  within = slice_get_within f.sent f.taken p at;
  low = omega arith;
  high = omega arith;
  carried = h.carried;
  receiving = h.receiving;
}

coming_again : (x y : ℕ) (near : List Entry) (cursor : List ℕ) (b b' : Broker) (sent back : List Packet) (c q : ℕ) (p : Packet) (outs : List Out)
    → Coming x y near cursor b sent back c q p → HasTaken x y near cursor b'.entries (receiver_at b' x) sent back (q + 1) outs
    → Coming x y near cursor b' sent back (q + 1) q p
coming_again x y near cursor b b' sent back c q p outs k h = record {
  once = k.once;
  opened = k.opened;
  at = k.at;
  within = k.within;
  low = omega arith;
  high = omega arith;
  carried = h.carried;
  receiving = h.receiving;
}

-- a packet with its fate
pub taken_done : (x y : ℕ) (h : Site) (a b : Broker) (f : Link) (back : List Packet) (p : Packet) (plan : Plan) → OnceIn a.entries → x < length b.receivers
    → slice_get f.sent f.taken ≡ Some p → Fated h.per_ledger b (λ c. Taken h c x p) (closes x) plan → Facts x y a b f back
    → HasTaken x y a.entries (replicator_at a y).cursor (done h.per_ledger b plan).entries (receiver_at (done h.per_ledger b plan) x) f.sent back (f.taken + 1) plan.sent
taken_done x y h a b f back p plan once lt at (Fated.Once q t) facts =
    taken_one x y a.entries (replicator_at a y).cursor h b f.sent back f.taken f.taken p q lt (coming_first x y a b f back p once at facts) t
taken_done x y h a b f back p plan once lt at Fated.Lost facts =
    let R : Option ℕ → Type 0 = λ o. Receiving o b.entries f.sent (f.taken + 1) in
    let w = slice_get_within f.sent f.taken p at in
    record {
      carried = facts.carried;
      receiving =
          subst R (sym (done_session h.per_ledger b x (closes x) lt)) (closed_session x (receiver_at b x) b.entries f.sent (f.taken + 1) (omega (arith, w)));
      answers = tt;
    }
taken_done x y h a b f back p plan once lt at (Fated.Twice q q' t t') facts =
    let near = a.entries in let cursor = (replicator_at a y).cursor in
    let b' = done h.per_ledger b q in
    let first = coming_first x y a b f back p once at facts in
    let one = taken_one x y near cursor h b f.sent back f.taken f.taken p q lt first t in
    let two = taken_one x y near cursor h b' f.sent back (f.taken + 1) f.taken p q' (omega (arith, lt, (done_size h.per_ledger b q).receivers))
    (coming_again x y near cursor b b' f.sent back f.taken f.taken p q.sent first one) t' in
    let P : Broker → Type 0 = λ d. HasTaken x y near cursor d.entries (receiver_at d x) f.sent back (f.taken + 1) (q.sent ++ q'.sent) in
    subst P (sym (taken_in_a_row h.per_ledger h b b' x p q q' t t' b))
    (record {
      carried = two.carried;
      receiving = two.receiving;
      answers = each_both (OkOut (done h.per_ledger b' q').entries f.sent) q.sent q'.sent (outs_later h.per_ledger b' q' f.sent q.sent one.answers) two.answers;
    })

-- each append of it leaves a beginning, also where a stop comes after it
taken_extends : (x y : ℕ) (near : List Entry) (h : Site) (b : Broker) (p : Packet) (plan : Plan) → Taken h b x p plan
    → Begins x y near (after_writes b.entries plan.writes) → Extends x y near b.entries plan.writes
taken_extends x y near h b p plan (Taken.Stores id seq source e is live may new) begins = (begins, tt)
taken_extends x y near h b p plan (Taken.Unreadable is) begins = tt
taken_extends x y near h b p plan (Taken.Opens topic id request name is opening) begins = tt
taken_extends x y near h b p plan (Taken.Discards other shut) begins = tt
taken_extends x y near h b p plan (Taken.Refuses other live may) begins = tt
taken_extends x y near h b p plan (Taken.Repeats id seq source e is live may old) begins = tt

one_extends : (x y : ℕ) (near : List Entry) (cursor : List ℕ) (h : Site) (b : Broker) (sent back : List Packet) (c q : ℕ) (p : Packet) (plan : Plan)
    → Coming x y near cursor b sent back c q p → Taken h b x p plan → Extends x y near b.entries plan.writes
one_extends x y near cursor h b sent back c q p plan k t =
    taken_extends x y near h b p plan t (taken_once x y near cursor h b sent back c q p plan k.once k.opened k.at k.within k.low k.high t k.carried k.receiving).carried.begins

pub fated_extends : (x y : ℕ) (h : Site) (a b : Broker) (f : Link) (back : List Packet) (p : Packet) (plan : Plan) → OnceIn a.entries → x < length b.receivers
    → slice_get f.sent f.taken ≡ Some p → Fated h.per_ledger b (λ c. Taken h c x p) (closes x) plan → Facts x y a b f back
    → Extends x y a.entries b.entries plan.writes
fated_extends x y h a b f back p plan once lt at (Fated.Once q t) facts =
    one_extends x y a.entries (replicator_at a y).cursor h b f.sent back f.taken f.taken p q (coming_first x y a b f back p once at facts) t
fated_extends x y h a b f back p plan once lt at Fated.Lost facts = tt
fated_extends x y h a b f back p plan once lt at (Fated.Twice q q' t t') facts =
    let near = a.entries in let cursor = (replicator_at a y).cursor in
    let b' = done h.per_ledger b q in
    let first = coming_first x y a b f back p once at facts in
    let one = taken_one x y near cursor h b f.sent back f.taken f.taken p q lt first t in
    let E : List Entry → Type 0 = λ es. Extends x y near es q'.writes in
    extends_both x y near b.entries q.writes q'.writes (one_extends x y near cursor h b f.sent back f.taken f.taken p q first t)
    (subst E (done_entries h.per_ledger b q)
    (one_extends x y near cursor h b' f.sent back (f.taken + 1) f.taken p q' (coming_again x y near cursor b b' f.sent back f.taken f.taken p q.sent first one) t'))

-- What a client does keeps its publishes in turn: each line, each connection, and each packet that it gets.
use Rattle.std.proofs.Common.{◌≡◌, ◌==◌, ℕ, ◌+◌, ◌<◌, ◌≤◌, Bool, true, false, List, [], ◌∷◌, ◌++◌, length, map, refl, sym, ap, subst, ◌∙◌, arith}
use Rattle.std.specs.List.{list_any}
use Rattle.std.specs.Prelude.{Option, Some, None, if◌then◌else◌, ◌&&◌, is_some, nat_lt, slice_get}
use Rattle.std.proofs.lemmas.Bool.{false≢true}
use Rattle.std.proofs.lemmas.List.{append-nil}
use Rattle.world_laws.proofs.Types.{Entry, Frame, Held, Ident, Line, Out, Packet, Position, Targets}
use Rattle.world_laws.proofs.Types.frame
use Rattle.world_laws.proofs.Types.line
use Rattle.world_laws.proofs.Types.peer
use Rattle.world_laws.proofs.Types.cluster_ref
use Rattle.geo_base.specs.Client.{Acted, Client, becomes, command, command_at, commands_at, connected_to, connects, id_of, new_client, published, reconnect, stays, unconnected}
use Rattle.geo_base.specs.Entry.{with_origin}
use Rattle.geo_base.specs.Getting.{answered, get, got_frame, is_duplicate, is_number, publishes, received, seq_of, with_error, with_receipt, without_seq}
use Rattle.geo_base.specs.Going.{acks_all, acks_one, acks_to, first_held, go, go_line, most_unanswered, past}
use Rattle.geo_base.specs.Scripted.{is_produce, stays_or_is_silent}
use Rattle.geo_base.specs.Setup.{Declared, Setup}
use Rattle.geo_base.specs.World.{stamped}
use Rattle.world_laws.specs.Publishing.{PubsRise, is_awaited}
use Rattle.world_laws.proofs.Published.Homes.{IsHome, some_home, some_none}
use Rattle.world_laws.proofs.Published.InTurn.{HasSeq, ReceiptStands, Turns}
use Rattle.world_laws.proofs.Published.TurnConnects.{connects_in_turn}
use Rattle.world_laws.proofs.Published.TurnHands.{Hand, HandOf, IsPlain, hand_answered, hand_longer, hand_past, hand_pub, no_connect, pub_in_turn, turns_plain, turns_push}
use Rattle.world_laws.proofs.Replicating.Effects.{Each, each_both, each_map}
use Rattle.world_laws.proofs.Walks.Walk.{left, on_if, on_test}

-- its link to its home and what it has in hand, before and after
abbrev pub Turned : Declared → List Entry → List Packet → Client → Type 0
Turned d es us k = Turns d es us × HandOf d es us k

-- to the broker where it is then
abbrev pub IsTo : ℕ → Out → Type 0
IsTo x o = o.to ≡ peer.Broker x

pub record Goes (d : Declared) (es : List Entry) (us : List Packet) (a : Acted) : Type 0 where
  pub to : Each (IsTo a.client.cluster) a.sent
  pub home : a.client.cluster ≡ d.cluster → (stamp : ℕ) → Turned d es (us ++ map (stamped stamp) a.sent) a.client
  pub away : (a.client.cluster ≡ d.cluster → ⊥) → Turned d es us a.client

pub hand_on : (d : Declared) (es : List Entry) (us ups : List Packet) (k : Client) → HandOf d es us k → HandOf d es (us ++ ups) k
hand_on d es us ups k h = subst (λ (l : List Entry). HandOf d l (us ++ ups) k) (append-nil es) (hand_longer d es [] us ups k.done k.unanswered k.connected k.connection h)

pub plain_goes : (d : Declared) (es : List Entry) (us : List Packet) (a : Acted) → Each (IsTo a.client.cluster) a.sent → Each (λ (o : Out). IsPlain o.frame) a.sent → Turns d es us → HandOf d es us a.client → Goes d es us a
plain_goes d es us a to plain turns hand = record {
  to = to;
  home = λ is stamp. (turns_plain d es us stamp a.sent plain turns, hand_on d es us (map (stamped stamp) a.sent) a.client hand);
  away = λ other. (turns, hand);
}

stays_goes : (d : Declared) (es : List Entry) (us : List Packet) (k : Client) → Turned d es us k → Goes d es us (stays k)
stays_goes d es us k h = plain_goes d es us (stays k) tt tt h.0 h.1

past_goes : (d : Declared) (es : List Entry) (us : List Packet) (k : Client) → seq_of (slice_get d.lines k.done) ≡ None → Turned d es us k → Hand d es us (k.done + 1) k.unanswered k.connected k.connection
past_goes d es us k silent h = hand_past d es us k.done k.unanswered k.connected k.connection silent h.1

one_goes : (d : Declared) (es : List Entry) (us : List Packet) (k : Client) (i : Ident) (o : Option Position) → seq_of (slice_get d.lines k.done) ≡ None → Turned d es us k → Goes d es us (acks_one k i o)
one_goes d es us k i None silent h = stays_goes d es us k h
one_goes d es us k i (Some p) silent h = plain_goes d es us (acks_one k i (Some p)) (refl, tt) (tt, tt) h.0 (past_goes d es us k silent h)

to_goes : (d : Declared) (es : List Entry) (us : List Packet) (k : Client) (o : Option Position) → seq_of (slice_get d.lines k.done) ≡ None → Turned d es us k → Goes d es us (acks_to k o)
to_goes d es us k None silent h = stays_goes d es us k h
to_goes d es us k (Some p) silent h = plain_goes d es us (acks_to k (Some p)) (refl, tt) (tt, tt) h.0 (past_goes d es us k silent h)

all_goes : (d : Declared) (es : List Entry) (us : List Packet) (k : Client) (gs : List Held) → seq_of (slice_get d.lines k.done) ≡ None → Turned d es us k → Goes d es us (acks_all k gs)
all_goes d es us k [] silent h = stays_goes d es us k h
all_goes d es us k (g ∷ gs) silent h = plain_goes d es us (acks_all k (g ∷ gs)) (refl, tt) (tt, tt) h.0 (past_goes d es us k silent h)

-- a client that is away has nothing in hand
pub away_silent : (d : Declared) (k : Client) → stays_or_is_silent d.lines ≡ true → IsHome d k → (k.cluster ≡ d.cluster → ⊥) → k.unanswered ≡ []
away_silent d k ok h other = by (list_any is_produce d.lines) refl
  where
    by : (b : Bool) → list_any is_produce d.lines ≡ b → k.unanswered ≡ []
    by true e = absurd (other (some_home d k ok h (λ none. false≢true (sym none ∙ e))))
    by false e = (h.silent e).1

-- where its commands go
command_to : (s : Setup) (d : Declared) (k : Client) (i : ℕ) (o : Option Line) → Each (IsTo k.cluster) (command s d k i o)
command_to s d k i None = tt
command_to s d k i (Some line.Produce) = (refl, tt)
command_to s d k i (Some (line.Sub n kind earliest replicated)) = (refl, tt)
command_to s d k i (Some (line.Flow permits)) = (refl, tt)
command_to s d k i (Some (line.Pub n to key text)) = (refl, tt)
command_to s d k i (Some l) = tt

command_at_to : (s : Setup) (d : Declared) (k : Client) (o : Option ℕ) → Each (IsTo k.cluster) (command_at s d k o)
command_at_to s d k None = tt
command_at_to s d k (Some i) = command_to s d k i (slice_get d.lines i)

commands_to : (s : Setup) (d : Declared) (k : Client) (is : List ℕ) → Each (IsTo k.cluster) (commands_at s d k is)
commands_to s d k [] = tt
commands_to s d k (i ∷ is) = each_both (IsTo k.cluster) (command_at s d k (Some i)) (commands_at s d k is) (command_at_to s d k (Some i)) (commands_to s d k is)

connects_to : (s : Setup) (d : Declared) (k : Client) → Each (IsTo k.cluster) (connects s d k).sent
connects_to s d k =
    let P = IsTo k.cluster in let a = command_at s d k k.produce in let b = command_at s d k k.sub in let c = command_at s d k k.flow in let e = commands_at s d k k.unanswered in
    (refl, each_both P a (b ++ (c ++ e)) (command_at_to s d k k.produce) (each_both P b (c ++ e) (command_at_to s d k k.sub) (each_both P c e (command_at_to s d k k.flow) (commands_to s d k k.unanswered))))

-- a new connection
connects_goes : (s : Setup) (d : Declared) (es : List Entry) (us : List Packet) (k : Client) (m : ℕ) (on : Bool) → PubsRise d → stays_or_is_silent d.lines ≡ true → IsHome d k → k.connected ≡ true
    → Each (λ (u : Packet). u.session < k.connection) us → Turns d es us → Hand d es us k.done k.unanswered on m → Goes d es us (connects s d k)
connects_goes s d es us k m on rise ok home connected below turns hand = record {
  to = connects_to s d k;
  home = λ is stamp. let r = connects_in_turn s d k es us stamp m on rise home.produce home.sub home.flow below hand turns in
      let us' = us ++ map (stamped stamp) (connects s d k).sent in
      (r.0, subst (λ (c : Bool). Hand d es us' k.done k.unanswered c k.connection) (sym connected) r.1);
  away = λ other. let none = away_silent d k ok home other in (
    turns,
    record {
      answered = hand.answered;
      sent = λ c n q at w. absurd (false≢true (subst (λ (is : List ℕ). is_awaited n is ≡ true) none w));
      ascends = hand.ascends;
    },
  );
}

below_next : (us : List Packet) (m : ℕ) → Each (λ (u : Packet). u.session ≤ m) us → Each (λ (u : Packet). u.session < m + 1) us
below_next us m h = each_map (λ (u : Packet). u.session ≤ m) (λ (u : Packet). u.session < m + 1) (λ u le. omega (arith, le)) us h

-- a pub line
pub_goes : (s : Setup) (d : Declared) (es : List Entry) (us : List Packet) (k : Client) (seq : ℕ) (to : Targets) (key : Option (List ℕ)) (text : List ℕ) → PubsRise d → k.cluster ≡ d.cluster → k.connected ≡ true
    → slice_get d.lines k.done ≡ Some (line.Pub seq to key text) → Turned d es us k
    → Goes d es us (becomes (record (past k) { unanswered = k.unanswered ++ k.done ∷ [] }) (command s d k k.done (Some (line.Pub seq to key text))))
pub_goes s d es us k seq to key text rise here connected at h = record {
  to = (refl, tt);
  home = λ is stamp.
      let p = stamped stamp (record { to = peer.Broker k.cluster; session = k.connection; frame = frame.Send (id_of k.produce) seq None (published s d k seq to key text) }) in
      let of : seq_of (slice_get d.lines k.done) ≡ Some seq = ap seq_of at in
      let turn = pub_in_turn d es us k.done k.unanswered k.connection seq p rise of refl refl (subst (λ (c : Bool). Hand d es us k.done k.unanswered c k.connection) connected h.1) in (
        turns_push d es us p turn (λ same. absurd (no_connect (id_of k.produce) seq None (published s d k seq to key text) same)) h.0,
        hand_pub d es us k.done k.unanswered k.connected k.connection seq p of refl refl h.1,
      );
  away = λ other. absurd (other here);
}

line_goes : (s : Setup) (d : Declared) (es : List Entry) (us : List Packet) (k : Client) (l : Option Line) → PubsRise d → stays_or_is_silent d.lines ≡ true → IsHome d k → IsHome d (go_line s d k l).client → k.connected ≡ true
    → Each (λ (u : Packet). u.session ≤ k.connection) us → slice_get d.lines k.done ≡ l → Turned d es us k → Goes d es us (go_line s d k l)
line_goes s d es us k None rise ok home after connected below at h = stays_goes d es us k h
line_goes s d es us k (Some line.Produce) rise ok home after connected below at h = plain_goes d es us _ (refl, tt) (tt, tt) h.0 (past_goes d es us k (ap seq_of at) h)
line_goes s d es us k (Some (line.Pub seq to key text)) rise ok home after connected below at h =
    on_test (Goes d es us) (is_some k.produce && nat_lt (length k.unanswered) most_unanswered) _ _
    (λ may. pub_goes s d es us k seq to key text rise
    (some_home d k ok home (λ none. some_none k.produce (left (is_some k.produce) (nat_lt (length k.unanswered) most_unanswered) may) (home.silent none).0)) connected at h)
    (λ may_not. stays_goes d es us k h)
line_goes s d es us k (Some (line.Sub n kind earliest replicated)) rise ok home after connected below at h = plain_goes d es us _ (refl, tt) (tt, tt) h.0 (past_goes d es us k (ap seq_of at) h)
line_goes s d es us k (Some (line.Flow permits)) rise ok home after connected below at h =
    on_if (Goes d es us) (is_some k.sub) _ _ (plain_goes d es us _ (refl, tt) (tt, tt) h.0 (past_goes d es us k (ap seq_of at) h)) (stays_goes d es us k h)
line_goes s d es us k (Some (line.Ack i)) rise ok home after connected below at h = one_goes d es us k i (first_held k.held i) (ap seq_of at) h
line_goes s d es us k (Some (line.AckTo i)) rise ok home after connected below at h = to_goes d es us k (first_held k.held i) (ap seq_of at) h
line_goes s d es us k (Some line.AckAll) rise ok home after connected below at h = all_goes d es us k k.held (ap seq_of at) h
line_goes s d es us k (Some line.Unsub) rise ok home after connected below at h =
    on_if (Goes d es us) (is_some k.sub) _ _ (plain_goes d es us _ (refl, tt) (tt, tt) h.0 (past_goes d es us k (ap seq_of at) h)) (stays_goes d es us k h)
line_goes s d es us k (Some line.Close) rise ok home after connected below at h =
    on_if (Goes d es us) (is_some k.sub) _ _ (plain_goes d es us _ (refl, tt) (tt, tt) h.0 (past_goes d es us k (ap seq_of at) h)) (stays_goes d es us k h)
line_goes s d es us k (Some line.CloseProducer) rise ok home after connected below at h =
    on_if (Goes d es us) (is_some k.produce && (length k.unanswered == 0)) _ _ (plain_goes d es us _ (refl, tt) (tt, tt) h.0 (past_goes d es us k (ap seq_of at) h)) (stays_goes d es us k h)
line_goes s d es us k (Some line.Ping) rise ok home after connected below at h = plain_goes d es us _ (refl, tt) (tt, tt) h.0 (past_goes d es us k (ap seq_of at) h)
line_goes s d es us k (Some (line.Move x)) rise ok home after connected below at h =
    connects_goes s d es us (connected_to x (past k)) k.connection k.connected rise ok after refl (below_next us k.connection below) h.0 (past_goes d es us k (ap seq_of at) h)

pub go_goes : (s : Setup) (d : Declared) (es : List Entry) (us : List Packet) (k : Client) → PubsRise d → stays_or_is_silent d.lines ≡ true → IsHome d k → IsHome d (go s d k).client
    → Each (λ (u : Packet). u.session ≤ k.connection) us → Turned d es us k → Goes d es us (go s d k)
unfolding go
go_goes s d es us k rise ok home after below h = by k.connected refl after
  where
    by : (b : Bool) → k.connected ≡ b → IsHome d (if b then go_line s d k (slice_get d.lines k.done) else stays k).client → Goes d es us (if b then go_line s d k (slice_get d.lines k.done) else stays k)
    by true connected after = line_goes s d es us k (slice_get d.lines k.done) rise ok home after connected below refl h
    by false connected after = stays_goes d es us k h

pub reconnect_goes : (s : Setup) (d : Declared) (es : List Entry) (us : List Packet) (k : Client) → PubsRise d → stays_or_is_silent d.lines ≡ true → IsHome d k → Each (λ (u : Packet). u.session ≤ k.connection) us → Turned d es us k
    → Goes d es us (reconnect s d k)
unfolding reconnect
reconnect_goes s d es us k rise ok home below h =
    connects_goes s d es us (connected_to k.cluster k) k.connection k.connected rise ok (record { stays = home.stays; silent = home.silent; produce = home.produce; sub = home.sub; flow = home.flow }) refl
    (below_next us k.connection below) h.0 h.1

-- ---- what comes

-- no publish is refused
abbrev pub IsNoError : ℕ → Frame → Type 0
IsNoError session (frame.SendError id seq code) = ⊥
IsNoError session f = Unit {0}

answered_hand : (d : Declared) (es : List Entry) (us : List Packet) (k : Client) (n : ℕ) (t : Bool) → HasSeq d es n → HandOf d es us k → HandOf d es us (answered d k n (with_receipt k t))
answered_hand d es us k n true stands h = on_if (HandOf d es us) (list_any (publishes d n) k.unanswered) _ _ (hand_answered d es us k.done k.unanswered k.connected k.connection n stands h) h
answered_hand d es us k n false stands h = on_if (HandOf d es us) (list_any (publishes d n) k.unanswered) _ _ (hand_answered d es us k.done k.unanswered k.connected k.connection n stands h) h

received_hand : (d : Declared) (es : List Entry) (us : List Packet) (k : Client) (id : ℕ) (i : Ident) (p : Position) → HandOf d es us k → HandOf d es us (received k id i p)
received_hand d es us k id i p h = on_if (HandOf d es us) (is_number id k.sub) _ _ h h

frame_hand : (d : Declared) (es : List Entry) (us : List Packet) (k : Client) (session : ℕ) (f : Frame) → ReceiptStands d es session f → IsNoError session f → HandOf d es us k → HandOf d es us (got_frame d k f)
frame_hand d es us k session (frame.SendReceipt id n o) stands fine h = answered_hand d es us k n (is_duplicate o) stands h
frame_hand d es us k session (frame.SendError id n code) stands fine h = absurd fine
frame_hand d es us k session (frame.Error request code) stands fine h = h
frame_hand d es us k session (frame.Message id p None e) stands fine h = received_hand d es us k id (with_origin k.cluster e).ident p h
frame_hand d es us k session (frame.Message id p (Some (cluster_ref.Known x)) e) stands fine h = received_hand d es us k id (with_origin x e).ident p h
frame_hand d es us k session (frame.Message id p (Some (cluster_ref.Stranger name)) e) stands fine h = h
frame_hand d es us k session f stands fine h = h

pub get_hand : (d : Declared) (es : List Entry) (us : List Packet) (k : Client) (o : Option Packet) → ((q : Packet) → o ≡ Some q → ReceiptStands d es q.session q.frame × IsNoError q.session q.frame) → HandOf d es us k
    → HandOf d es us (get d k o).client
unfolding get
get_hand d es us k None told h = h
get_hand d es us k (Some q) told h = let t = told q refl in on_if (HandOf d es us) (q.session == k.connection) _ _ (frame_hand d es us k q.session q.frame t.0 t.1 h) h

pub unconnected_hand : (d : Declared) (es : List Entry) (us : List Packet) (k : Client) → HandOf d es us k → HandOf d es us (unconnected k)
unconnected_hand d es us k h = record { answered = h.answered; sent = λ c n q at w. absurd (false≢true c); ascends = h.ascends }

pub new_hand : (d : Declared) (es : List Entry) (us : List Packet) → HandOf d es us (new_client d)
new_hand d es us = record { answered = λ n q at lt. absurd (omega (arith, lt)); sent = λ c n q at w. absurd (false≢true c); ascends = omega arith }

-- a client that is away has nothing that an answer could take out of hand
same_hand : (d : Declared) (es : List Entry) (us : List Packet) (done : ℕ) (is is' : List ℕ) (on : Bool) (m : ℕ) → is' ≡ is → Hand d es us done is on m → Hand d es us done is' on m
same_hand d es us done is is' on m same h = subst (λ (l : List ℕ). Hand d es us done l on m) (sym same) h

none_answered : (d : Declared) (es : List Entry) (us : List Packet) (k : Client) (n : ℕ) (counted : Client) → k.unanswered ≡ [] → HandOf d es us k → Hand d es us counted.done k.unanswered counted.connected counted.connection → HandOf d es us (answered d k n counted)
none_answered d es us k n counted none h same =
    on_if (HandOf d es us) (list_any (publishes d n) k.unanswered) _ _
    (same_hand d es us counted.done k.unanswered (without_seq d k.unanswered n) counted.connected counted.connection (ap (λ (is : List ℕ). without_seq d is n) none ∙ sym none) same) h

frame_away : (d : Declared) (es : List Entry) (us : List Packet) (k : Client) (f : Frame) → k.unanswered ≡ [] → HandOf d es us k → HandOf d es us (got_frame d k f)
frame_away d es us k (frame.SendReceipt id n o) none h = by (is_duplicate o)
  where
    by : (t : Bool) → HandOf d es us (answered d k n (with_receipt k t))
    by true = none_answered d es us k n (with_receipt k true) none h h
    by false = none_answered d es us k n (with_receipt k false) none h h
frame_away d es us k (frame.SendError id n code) none h = none_answered d es us k n (with_error k) none h h
frame_away d es us k (frame.Error request code) none h = h
frame_away d es us k (frame.Message id p None e) none h = received_hand d es us k id (with_origin k.cluster e).ident p h
frame_away d es us k (frame.Message id p (Some (cluster_ref.Known x)) e) none h = received_hand d es us k id (with_origin x e).ident p h
frame_away d es us k (frame.Message id p (Some (cluster_ref.Stranger name)) e) none h = h
frame_away d es us k f none h = h

pub get_away : (d : Declared) (es : List Entry) (us : List Packet) (k : Client) (o : Option Packet) → k.unanswered ≡ [] → HandOf d es us k → HandOf d es us (get d k o).client
unfolding get
get_away d es us k None none h = h
get_away d es us k (Some q) none h = on_if (HandOf d es us) (q.session == k.connection) _ _ (frame_away d es us k q.frame none h) h

-- a get sends nothing
pub get_none : (d : Declared) (k : Client) (o : Option Packet) → Each (IsTo (get d k o).client.cluster) (get d k o).sent × Each (λ (a : Out). IsPlain a.frame) (get d k o).sent
unfolding get
get_none d k None = (tt, tt)
get_none d k (Some q) = (tt, tt)

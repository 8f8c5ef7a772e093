-- What a client does keeps that what is sent to it rises: on each link it subscribes once in a session as each of its lines.
use Rattle.std.proofs.Common.{◌≡◌, ℕ, zero, suc, ◌<◌, ◌≤◌, ◌==◌, Bool, true, false, List, [], ◌∷◌, ◌++◌, length, refl, sym, ap, subst, ◌∙◌, arith, inl, inr, ◌⊎◌}
use Rattle.std.specs.Prelude.{Option, Some, None, ◌&&◌, is_some, nat_lt, slice_get}
use Rattle.std.specs.List.{list_any}
use Rattle.std.proofs.lemmas.Option.{none-some, same_Some}
use Rattle.world_laws.proofs.Types.{Frame, Held, Ident, Line, Out, Packet, Peer, Position}
use Rattle.world_laws.proofs.Types.frame
use Rattle.world_laws.proofs.Types.line
use Rattle.world_laws.proofs.Types.peer
use Rattle.world_laws.proofs.Types.cluster_ref
use Rattle.geo_base.specs.Client.{Acted, Client, command, command_at, commands_at, connected_to, connects, id_of, reconnect}
use Rattle.geo_base.specs.Getting.{answered, get, got_frame, is_duplicate, is_number, publishes, received, with_receipt, without_seq}
use Rattle.geo_base.specs.Going.{acks_all, acks_one, acks_to, first_held, go, go_line, most_unanswered, past}
use Rattle.geo_base.specs.Link.{Link, sent_on}
use Rattle.geo_base.specs.Setup.{Declared, Setup}
use Rattle.geo_base.specs.World.{Links, cell, delivered, from_client, link_at, stamped, with_cell, with_link}
use Rattle.world_laws.proofs.Clients.ClientLinks.{Packets, SentUp}
use Rattle.world_laws.proofs.Induction.Frames.{cell_set}
use Rattle.world_laws.proofs.OnceInOrder.Members.{get_push}
use Rattle.world_laws.proofs.Replicating.Effects.{Each, each_both}
use Rattle.world_laws.proofs.Walks.Walk.{on_if}
use Rattle.consumer_laws.proofs.Rising.Facts.{IsFlow, IsProduce, IsPub, LineKinds}
use Rattle.consumer_laws.proofs.Rising.Links.{SubsOnce, SubscribesAs, TakenOn, taken_more}

-- ---- the lines in force

abbrev KindsAfter : Declared → Acted → Type 0
KindsAfter d a = LineKinds d a.client

same_kinds : (d : Declared) (k j : Client) → j.produce ≡ k.produce → j.flow ≡ k.flow → j.unanswered ≡ k.unanswered → LineKinds d k → LineKinds d j
same_kinds d k j p f u h = record {
  produce = λ i is. h.produce i (sym p ∙ is);
  flow = λ i is. h.flow i (sym f ∙ is);
  unanswered = subst (Each (λ i. IsPub (slice_get d.lines i))) (sym u) h.unanswered;
}

line_kinds : (s : Setup) (d : Declared) (k : Client) (l : Option Line) → slice_get d.lines k.done ≡ l → LineKinds d k → KindsAfter d (go_line s d k l)
line_kinds s d k None at h = h
line_kinds s d k (Some line.Produce) at h =
    record { produce = λ i is. subst (λ (j : ℕ). IsProduce (slice_get d.lines j)) (same_Some k.done i is) (subst IsProduce (sym at) tt); flow = h.flow; unanswered = h.unanswered }
line_kinds s d k (Some (line.Pub seq to key text)) at h =
    on_if (KindsAfter d) (is_some k.produce && nat_lt (length k.unanswered) most_unanswered) _ _
    (record { produce = h.produce; flow = h.flow; unanswered = each_both (λ i. IsPub (slice_get d.lines i)) k.unanswered (k.done ∷ []) h.unanswered (subst IsPub (sym at) tt, tt) }) h
line_kinds s d k (Some (line.Sub n kind earliest replicated)) at h = record { produce = h.produce; flow = λ i is. absurd (none-some i is); unanswered = h.unanswered }
line_kinds s d k (Some (line.Flow permits)) at h =
    on_if (KindsAfter d) (is_some k.sub) _ _
    (record { produce = h.produce; flow = λ i is. subst (λ (j : ℕ). IsFlow (slice_get d.lines j)) (same_Some k.done i is) (subst IsFlow (sym at) tt); unanswered = h.unanswered }) h
line_kinds s d k (Some (line.Ack i)) at h = by (first_held k.held i)
  where
    by : (o : Option Position) → KindsAfter d (acks_one k i o)
    by None = h
    by (Some p) = record { produce = h.produce; flow = h.flow; unanswered = h.unanswered }
line_kinds s d k (Some (line.AckTo i)) at h = by (first_held k.held i)
  where
    by : (o : Option Position) → KindsAfter d (acks_to k o)
    by None = h
    by (Some p) = record { produce = h.produce; flow = h.flow; unanswered = h.unanswered }
line_kinds s d k (Some line.AckAll) at h = by k.held
  where
    by : (hs : List Held) → KindsAfter d (acks_all k hs)
    by [] = h
    by (g ∷ hs) = record { produce = h.produce; flow = h.flow; unanswered = h.unanswered }
line_kinds s d k (Some line.Unsub) at h = on_if (KindsAfter d) (is_some k.sub) _ _ (record { produce = h.produce; flow = λ i is. absurd (none-some i is); unanswered = h.unanswered }) h
line_kinds s d k (Some line.Close) at h = on_if (KindsAfter d) (is_some k.sub) _ _ (record { produce = h.produce; flow = λ i is. absurd (none-some i is); unanswered = h.unanswered }) h
line_kinds s d k (Some line.CloseProducer) at h =
    on_if (KindsAfter d) (is_some k.produce && (length k.unanswered == 0)) _ _ (record { produce = λ i is. absurd (none-some i is); flow = h.flow; unanswered = h.unanswered }) h
line_kinds s d k (Some line.Ping) at h = record { produce = h.produce; flow = h.flow; unanswered = h.unanswered }
line_kinds s d k (Some (line.Move x)) at h = record { produce = h.produce; flow = h.flow; unanswered = h.unanswered }

pub go_kinds : (s : Setup) (d : Declared) (k : Client) → LineKinds d k → LineKinds d (go s d k).client
unfolding go
go_kinds s d k h = on_if (KindsAfter d) k.connected _ _ (line_kinds s d k (slice_get d.lines k.done) refl h) h

pub reconnect_kinds : (s : Setup) (d : Declared) (k : Client) → LineKinds d k → LineKinds d (reconnect s d k).client
unfolding reconnect
reconnect_kinds s d k h = record { produce = h.produce; flow = h.flow; unanswered = h.unanswered }

seq_kinds : (d : Declared) (n : ℕ) (is : List ℕ) → Each (λ i. IsPub (slice_get d.lines i)) is → Each (λ i. IsPub (slice_get d.lines i)) (without_seq d is n)
seq_kinds d n [] h = tt
seq_kinds d n (i ∷ is) h = on_if (Each (λ i. IsPub (slice_get d.lines i))) (publishes d n i) is (i ∷ without_seq d is n) h.1 (h.0, seq_kinds d n is h.1)

answered_kinds : (d : Declared) (k : Client) (n : ℕ) (counted : Client) → LineKinds d k → LineKinds d counted → LineKinds d (answered d k n counted)
answered_kinds d k n counted h g =
    on_if (LineKinds d) (list_any (publishes d n) k.unanswered) _ _ (record { produce = g.produce; flow = g.flow; unanswered = seq_kinds d n k.unanswered h.unanswered }) h

received_kinds : (d : Declared) (k : Client) (id : ℕ) (i : Ident) (p : Position) → LineKinds d k → LineKinds d (received k id i p)
received_kinds d k id i p h = on_if (LineKinds d) (is_number id k.sub) _ _ (record { produce = h.produce; flow = h.flow; unanswered = h.unanswered }) h

frame_kinds : (d : Declared) (k : Client) (f : Frame) → LineKinds d k → LineKinds d (got_frame d k f)
frame_kinds d k (frame.SendReceipt id n p) h = answered_kinds d k n (with_receipt k (is_duplicate p)) h (by (is_duplicate p))
  where
    by : (t : Bool) → LineKinds d (with_receipt k t)
    by true = record { produce = h.produce; flow = h.flow; unanswered = h.unanswered }
    by false = record { produce = h.produce; flow = h.flow; unanswered = h.unanswered }
frame_kinds d k (frame.SendError id n code) h = answered_kinds d k n _ h (record { produce = h.produce; flow = h.flow; unanswered = h.unanswered })
frame_kinds d k (frame.Error request code) h = record { produce = h.produce; flow = h.flow; unanswered = h.unanswered }
frame_kinds d k (frame.Message id p None e) h = received_kinds d k id _ p h
frame_kinds d k (frame.Message id p (Some (cluster_ref.Known x)) e) h = received_kinds d k id _ p h
frame_kinds d k (frame.Message id p (Some (cluster_ref.Stranger name)) e) h = h
frame_kinds d k f h = h

pub get_kinds : (d : Declared) (k : Client) (o : Option Packet) → LineKinds d k → LineKinds d (get d k o).client
unfolding get
get_kinds d k None h = h
get_kinds d k (Some p) h = on_if (LineKinds d) (p.session == k.connection) _ _ (frame_kinds d k p.frame h) h

-- ---- what it sends subscribes once at most

abbrev pub NoSub : Frame → Type 0
NoSub f = (id : ℕ) → SubscribesAs id f → ⊥

abbrev pub OneSub : ℕ → ℕ → List Out → Type 0
OneSub session id [] = Unit {0}
OneSub session id (o ∷ os) = (NoSub o.frame × OneSub session id os) ⊎ ((o.session ≡ session) × SubscribesAs id o.frame × Each (λ (a : Out). NoSub a.frame) os)

all_none : (session id : ℕ) (os : List Out) → Each (λ (o : Out). NoSub o.frame) os → OneSub session id os
all_none session id [] h = tt
all_none session id (o ∷ os) h = inl (h.0, all_none session id os h.1)

none_first : (session id : ℕ) (os ps : List Out) → Each (λ (o : Out). NoSub o.frame) os → OneSub session id ps → OneSub session id (os ++ ps)
none_first session id [] ps h g = g
none_first session id (o ∷ os) ps h g = inl (h.0, none_first session id os ps h.1 g)

none_last : (session id : ℕ) (os ps : List Out) → OneSub session id os → Each (λ (o : Out). NoSub o.frame) ps → OneSub session id (os ++ ps)
none_last session id [] ps h g = all_none session id ps g
none_last session id (o ∷ os) ps h g = elim h [
  | inl none ↦ inl (none.0, none_last session id os ps none.1 g)
  | inr one ↦ inr (one.0, one.1, each_both (λ (a : Out). NoSub a.frame) os ps one.2 g)
]

produce_none : (s : Setup) (d : Declared) (k : Client) (i : ℕ) (l : Option Line) → IsProduce l → Each (λ (o : Out). NoSub o.frame) (command s d k i l)
produce_none s d k i None h = absurd h
produce_none s d k i (Some line.Produce) h = ((λ id e. e), tt)
produce_none s d k i (Some (line.Pub seq to key text)) h = absurd h
produce_none s d k i (Some (line.Sub n kind earliest replicated)) h = absurd h
produce_none s d k i (Some l) h = absurd h

flow_none : (s : Setup) (d : Declared) (k : Client) (i : ℕ) (l : Option Line) → IsFlow l → Each (λ (o : Out). NoSub o.frame) (command s d k i l)
flow_none s d k i None h = absurd h
flow_none s d k i (Some (line.Flow permits)) h = ((λ id e. e), tt)
flow_none s d k i (Some l) h = absurd h

pub_none : (s : Setup) (d : Declared) (k : Client) (i : ℕ) (l : Option Line) → IsPub l → Each (λ (o : Out). NoSub o.frame) (command s d k i l)
pub_none s d k i None h = absurd h
pub_none s d k i (Some (line.Pub seq to key text)) h = ((λ id e. e), tt)
pub_none s d k i (Some l) h = absurd h

pubs_none : (s : Setup) (d : Declared) (k : Client) (is : List ℕ) → Each (λ i. IsPub (slice_get d.lines i)) is → Each (λ (o : Out). NoSub o.frame) (commands_at s d k is)
pubs_none s d k [] h = tt
pubs_none s d k (i ∷ is) h = each_both (λ (o : Out). NoSub o.frame) (command_at s d k (Some i)) (commands_at s d k is) (pub_none s d k i (slice_get d.lines i) h.0) (pubs_none s d k is h.1)

some_none : (s : Setup) (d : Declared) (k : Client) (o : Option ℕ) → ((i : ℕ) → o ≡ Some i → Each (λ (a : Out). NoSub a.frame) (command s d k i (slice_get d.lines i))) → Each (λ (a : Out). NoSub a.frame) (command_at s d k o)
some_none s d k None h = tt
some_none s d k (Some i) h = h i refl

sub_one : (s : Setup) (d : Declared) (k : Client) (i : ℕ) (l : Option Line) → OneSub k.connection i (command s d k i l)
sub_one s d k i None = tt
sub_one s d k i (Some line.Produce) = inl ((λ id e. e), tt)
sub_one s d k i (Some (line.Sub n kind earliest replicated)) = inr (refl, refl, tt)
sub_one s d k i (Some (line.Flow permits)) = inl ((λ id e. e), tt)
sub_one s d k i (Some (line.Pub seq to key text)) = inl ((λ id e. e), tt)
sub_one s d k i (Some l) = tt

sub_at : (s : Setup) (d : Declared) (k : Client) (o : Option ℕ) → OneSub k.connection (id_of o) (command_at s d k o)
sub_at s d k None = tt
sub_at s d k (Some i) = sub_one s d k i (slice_get d.lines i)

connects_one : (s : Setup) (d : Declared) (k : Client) → LineKinds d k → OneSub k.connection (id_of k.sub) (connects s d k).sent
connects_one s d k h =
    let N : Out → Type 0 = λ o. NoSub o.frame in
    let last = each_both N (command_at s d k k.flow) (commands_at s d k k.unanswered) (some_none s d k k.flow (λ i is. flow_none s d k i (slice_get d.lines i) (h.flow i is))) (pubs_none s d k k.unanswered h.unanswered) in
    inl (
      (λ id e. e),
      none_first k.connection (id_of k.sub) (command_at s d k k.produce) (command_at s d k k.sub ++ (command_at s d k k.flow ++ commands_at s d k k.unanswered))
          (some_none s d k k.produce (λ i is. produce_none s d k i (slice_get d.lines i) (h.produce i is)))
          (none_last k.connection (id_of k.sub) (command_at s d k k.sub) (command_at s d k k.flow ++ commands_at s d k k.unanswered) (sub_at s d k k.sub) last),
    )

-- and where it does, in a new session or as a later line
pub record NewSub (k : Client) (os : List Out) : Type 0 where
  pub session : ℕ
  pub id : ℕ
  pub one : OneSub session id os
  pub fresh : (k.connection < session) ⊎ ((session ≡ k.connection) × (k.done ≤ id))

none_new : (k : Client) (os : List Out) → Each (λ (o : Out). NoSub o.frame) os → NewSub k os
none_new k os h = record { session = k.connection; id = k.done; one = all_none k.connection k.done os h; fresh = inr (refl, omega arith) }

line_new : (s : Setup) (d : Declared) (k : Client) (l : Option Line) → LineKinds d k → NewSub k (go_line s d k l).sent
line_new s d k None h = none_new k [] tt
line_new s d k (Some line.Produce) h = none_new k _ ((λ id e. e), tt)
line_new s d k (Some (line.Pub seq to key text)) h =
    on_if (λ (a : Acted). NewSub k a.sent) (is_some k.produce && nat_lt (length k.unanswered) most_unanswered) _ _ (none_new k _ ((λ id e. e), tt)) (none_new k [] tt)
line_new s d k (Some (line.Sub n kind earliest replicated)) h = record { session = k.connection; id = k.done; one = inr (refl, refl, tt); fresh = inr (refl, omega arith) }
line_new s d k (Some (line.Flow permits)) h = on_if (λ (a : Acted). NewSub k a.sent) (is_some k.sub) _ _ (none_new k _ ((λ id e. e), tt)) (none_new k [] tt)
line_new s d k (Some (line.Ack i)) h = by (first_held k.held i)
  where
    by : (o : Option Position) → NewSub k (acks_one k i o).sent
    by None = none_new k [] tt
    by (Some p) = none_new k _ ((λ id e. e), tt)
line_new s d k (Some (line.AckTo i)) h = by (first_held k.held i)
  where
    by : (o : Option Position) → NewSub k (acks_to k o).sent
    by None = none_new k [] tt
    by (Some p) = none_new k _ ((λ id e. e), tt)
line_new s d k (Some line.AckAll) h = by k.held
  where
    by : (hs : List Held) → NewSub k (acks_all k hs).sent
    by [] = none_new k [] tt
    by (g ∷ hs) = none_new k _ ((λ id e. e), tt)
line_new s d k (Some line.Unsub) h = on_if (λ (a : Acted). NewSub k a.sent) (is_some k.sub) _ _ (none_new k _ ((λ id e. e), tt)) (none_new k [] tt)
line_new s d k (Some line.Close) h = on_if (λ (a : Acted). NewSub k a.sent) (is_some k.sub) _ _ (none_new k _ ((λ id e. e), tt)) (none_new k [] tt)
line_new s d k (Some line.CloseProducer) h = on_if (λ (a : Acted). NewSub k a.sent) (is_some k.produce && (length k.unanswered == 0)) _ _ (none_new k _ ((λ id e. e), tt)) (none_new k [] tt)
line_new s d k (Some line.Ping) h = none_new k _ ((λ id e. e), tt)
line_new s d k (Some (line.Move x)) h =
    let j : Client = connected_to x (past k) in
    record { session = j.connection; id = id_of k.sub; one = connects_one s d j (record { produce = h.produce; flow = h.flow; unanswered = h.unanswered }); fresh = inl (omega arith) }

pub go_new : (s : Setup) (d : Declared) (k : Client) → LineKinds d k → NewSub k (go s d k).sent
unfolding go
go_new s d k h = on_if (λ (a : Acted). NewSub k a.sent) k.connected _ _ (line_new s d k (slice_get d.lines k.done) h) (none_new k [] tt)

pub reconnect_new : (s : Setup) (d : Declared) (k : Client) → LineKinds d k → NewSub k (reconnect s d k).sent
unfolding reconnect
reconnect_new s d k h =
    let j : Client = connected_to k.cluster k in
    record { session = j.connection; id = id_of k.sub; one = connects_one s d j (record { produce = h.produce; flow = h.flow; unanswered = h.unanswered }); fresh = inl (omega arith) }

-- ---- the link that it sends on

-- no packet subscribes in this session as this line
abbrev pub NotSub : ℕ → ℕ → ℕ → Frame → Type 0
NotSub session id s f = s ≡ session → SubscribesAs id f → ⊥

one_id : (f : Frame) (i j : ℕ) → SubscribesAs i f → SubscribesAs j f → i ≡ j
one_id (frame.Subscribe topic n kind a request consumer earliest replicated) i j h g = sym h ∙ g
one_id (frame.Connect) i j h g = absurd h
one_id f i j h g = absurd h

each_get : {X : Type 0} (P : X → Type 0) (xs : List X) (i : ℕ) (x : X) → slice_get xs i ≡ Some x → Each P xs → P x
each_get P [] i x at h = absurd (none-some x at)
each_get P (y ∷ xs) zero x at h = subst P (same_Some y x at) h.0
each_get P (y ∷ xs) (suc i) x at h = each_get P xs i x at h.1

once_push : (ps : List Packet) (p : Packet) → ((id : ℕ) → SubscribesAs id p.frame → Packets (NotSub p.session id) ps) → SubsOnce ps → SubsOnce (ps ++ p ∷ [])
once_push ps p fresh h i j a c id lt at_i at_j same sub_a sub_c =
    elim (get_push ps p j c at_j) [
      | inl old ↦ elim (get_push ps p i a at_i) [
        | inl first ↦ h i j a c id lt first.1 old.1 same sub_a sub_c
        | inr last ↦ let small = old.0 in let is = last.0 in absurd (omega (arith, lt, small, is))
      ]
      | inr last ↦ elim (get_push ps p i a at_i) [
        | inl first ↦
            let mine : SubscribesAs id p.frame = subst (λ (q : Packet). SubscribesAs id q.frame) (sym last.1) sub_c in
            each_get (λ (q : Packet). NotSub p.session id q.session q.frame) ps i a first.1 (fresh id mine) (same ∙ ap (λ (q : Packet). q.session) (sym last.1)) sub_a
        | inr again ↦ let one = last.0 in let two = again.0 in absurd (omega (arith, lt, one, two))
      ]
    ]

-- one packet more, wherever it goes
push_up : (z stamp y : ℕ) (P Q : List Packet → Type 0) (o : Out) (to : Peer) (ls : Links) → ((ps : List Packet) → P ps → Q ps) → ((ps : List Packet) → P ps → Q (ps ++ stamped stamp o ∷ [])) → P (SentUp ls z y)
    → Q (SentUp (with_link ls (from_client z to) (sent_on (link_at ls (from_client z to)) (stamped stamp o))) z y)
push_up z stamp y P Q o to ls keep more h = by to
  where
    at : (x : ℕ) → Q (cell (with_cell ls.to_broker z x (sent_on (cell ls.to_broker z x) (stamped stamp o))) z y).sent
    at x = cell_set (λ (l : Link). Q l.sent) ls.to_broker z x _ z y (λ e e'. more (cell ls.to_broker z x).sent (subst (λ (v : ℕ). P (cell ls.to_broker z v).sent) (sym e') h)) (keep _ h)

    by : (q : Peer) → Q (SentUp (with_link ls (from_client z q) (sent_on (link_at ls (from_client z q)) (stamped stamp o))) z y)
    by (peer.Broker x) = at x
    by (peer.Forward x) = at x
    by (peer.Back x) = at x
    by (peer.Client x) = at x

sends_none : (z stamp y : ℕ) (os : List Out) (ls : Links) → Each (λ (o : Out). NoSub o.frame) os → SubsOnce (SentUp ls z y) → SubsOnce (SentUp (delivered (from_client z) stamp os ls) z y)
sends_none z stamp y [] ls none h = h
sends_none z stamp y (o ∷ os) ls none h =
    sends_none z stamp y os (with_link ls (from_client z o.to) (sent_on (link_at ls (from_client z o.to)) (stamped stamp o))) none.1
    (push_up z stamp y SubsOnce SubsOnce o o.to ls (λ ps g. g) (λ ps g. once_push ps (stamped stamp o) (λ id e. absurd (none.0 id e)) g) h)

pub sends_once : (z stamp y session id : ℕ) (os : List Out) (ls : Links) → OneSub session id os → Packets (NotSub session id) (SentUp ls z y) → SubsOnce (SentUp ls z y)
    → SubsOnce (SentUp (delivered (from_client z) stamp os ls) z y)
sends_once z stamp y session id [] ls one fresh h = h
sends_once z stamp y session id (o ∷ os) ls one fresh h =
    let P : List Packet → Type 0 = λ ps. Packets (NotSub session id) ps × SubsOnce ps in
    let ls' = with_link ls (from_client z o.to) (sent_on (link_at ls (from_client z o.to)) (stamped stamp o)) in
    elim one [
      | inl none ↦
          let next = push_up z stamp y P P o o.to ls (λ ps g. g)
          (λ ps g. (each_both (λ (p : Packet). NotSub session id p.session p.frame) ps (stamped stamp o ∷ []) g.0 ((λ same e. none.0 id e), tt), once_push ps (stamped stamp o) (λ a e. absurd (none.0 a e)) g.1)) (fresh, h) in
          sends_once z stamp y session id os ls' none.1 next.0 next.1
      | inr sub ↦
          sends_none z stamp y os ls' sub.2
          (push_up z stamp y P SubsOnce o o.to ls (λ ps g. g.1)
          (λ ps g. once_push ps (stamped stamp o)
          (λ a e. subst (λ (i : ℕ). Packets (NotSub o.session i) ps) (one_id o.frame id a sub.1 e) (subst (λ (n : ℕ). Packets (NotSub n id) ps) (sym sub.0) g.0)) g.1) (fresh, h))
    ]

-- what was taken of whatever link stays so
stays_one : (z stamp c y session id : ℕ) (o : Out) (to : Peer) (ls : Links) → TakenOn session id (cell ls.to_broker c y)
    → TakenOn session id (cell (with_link ls (from_client z to) (sent_on (link_at ls (from_client z to)) (stamped stamp o))).to_broker c y)
stays_one z stamp c y session id o to ls h = by to
  where
    at : (x : ℕ) → TakenOn session id (cell (with_cell ls.to_broker z x (sent_on (cell ls.to_broker z x) (stamped stamp o))) c y)
    at x =
        cell_set (TakenOn session id) ls.to_broker z x (sent_on (cell ls.to_broker z x) (stamped stamp o)) c y
        (λ e e'. taken_more (cell ls.to_broker z x).sent (stamped stamp o ∷ []) (cell ls.to_broker z x).taken session id
        (subst (λ (u : ℕ). TakenOn session id (cell ls.to_broker u x)) (sym e) (subst (λ (v : ℕ). TakenOn session id (cell ls.to_broker c v)) (sym e') h))) h

    by : (q : Peer) → TakenOn session id (cell (with_link ls (from_client z q) (sent_on (link_at ls (from_client z q)) (stamped stamp o))).to_broker c y)
    by (peer.Broker x) = at x
    by (peer.Forward x) = at x
    by (peer.Back x) = at x
    by (peer.Client x) = at x

pub sends_stays : (z stamp c y session id : ℕ) (os : List Out) (ls : Links) → TakenOn session id (cell ls.to_broker c y) → TakenOn session id (cell (delivered (from_client z) stamp os ls).to_broker c y)
sends_stays z stamp c y session id [] ls h = h
sends_stays z stamp c y session id (o ∷ os) ls h =
    sends_stays z stamp c y session id os (with_link ls (from_client z o.to) (sent_on (link_at ls (from_client z o.to)) (stamped stamp o))) (stays_one z stamp c y session id o o.to ls h)

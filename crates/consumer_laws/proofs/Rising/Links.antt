-- The links of a client: which SUBSCRIBEs were taken, and how the messages on the way back rise.
use Rattle.std.proofs.Common.{◌≡◌, ℕ, zero, suc, ◌<◌, List, [], ◌∷◌, ◌++◌, map, refl, sym, subst, ◌∙◌, arith}
use Rattle.std.specs.Prelude.{Option, Some, None, slice_get, slice_index_or, slice_set, take}
use Rattle.std.proofs.lemmas.Option.{none-some, slice_get_within}
use Rattle.world_laws.proofs.Types.{Frame, Out, Packet, Peer, Position}
use Rattle.world_laws.proofs.Types.frame
use Rattle.world_laws.proofs.Types.peer
use Rattle.geo_base.specs.Happening.{all_discarded}
use Rattle.geo_base.specs.Link.{Link, discarded, no_link, sent_on, took}
use Rattle.geo_base.specs.Setup.{Setup}
use Rattle.geo_base.specs.Topic.{index_of}
use Rattle.geo_base.specs.World.{Back, Forward, LinkName, Links, ToBroker, ToClient, cell, delivered, from_broker, link_at, stamped, taken_from, with_cell, with_link}
use Rattle.world_laws.proofs.Clients.ClientLinks.{Packets}
use Rattle.world_laws.proofs.Clients.Consumers.{IsQuiet}
use Rattle.world_laws.proofs.Induction.Frames.{cell_set}
use Rattle.world_laws.proofs.OnceInOrder.Members.{get_left}
use Rattle.world_laws.proofs.Replicating.Effects.{each_map}
use Rattle.consumer_laws.proofs.Worlds.Facts.{AllAfter}

-- ---- SUBSCRIBEs

abbrev pub SubscribesAs : ℕ → Frame → Type 0
SubscribesAs id (frame.Subscribe topic n kind a request consumer earliest replicated) = a ≡ id
SubscribesAs id f = ⊥

-- one of this session and id was taken, of some packets of which so many were
pub record TakenSub (sent : List Packet) (taken session id : ℕ) : Type 0 where
  pub place : ℕ
  pub below : place < taken
  pub packet : Packet
  pub at : slice_get sent place ≡ Some packet
  pub same : packet.session ≡ session
  pub is : SubscribesAs id packet.frame

-- no two are of one session and id
abbrev pub SubsOnce : List Packet → Type 0
SubsOnce ps = (i j : ℕ) (p q : Packet) (id : ℕ) → i < j → slice_get ps i ≡ Some p → slice_get ps j ≡ Some q → p.session ≡ q.session → SubscribesAs id p.frame → SubscribesAs id q.frame → ⊥

pub taken_more : (ps qs : List Packet) (taken session id : ℕ) → TakenSub ps taken session id → TakenSub (ps ++ qs) taken session id
taken_more ps qs taken session id h = record { place = h.place; below = h.below; packet = h.packet; at = get_left ps qs h.place h.packet h.at; same = h.same; is = h.is }

-- what was taken stays so
abbrev pub TakenOn : ℕ → ℕ → Link → Type 0
TakenOn session id l = TakenSub l.sent l.taken session id

took_stays : (session id : ℕ) (l : Link) → TakenOn session id l → TakenOn session id (took l)
took_stays session id l h =
    let lt = h.below in let within = slice_get_within l.sent h.place h.packet h.at in
    record { place = h.place; below = omega (arith, lt, within); packet = h.packet; at = h.at; same = h.same; is = h.is }

pub taking_stays : (o : Option LinkName) (ls : Links) (c x session id : ℕ) → TakenOn session id (cell ls.to_broker c x) → TakenOn session id (cell (taken_from o ls).to_broker c x)
taking_stays None ls c x session id h = h
taking_stays (Some (Forward a b)) ls c x session id h = h
taking_stays (Some (Back a b)) ls c x session id h = h
taking_stays (Some (ToClient a b)) ls c x session id h = h
taking_stays (Some (ToBroker a b)) ls c x session id h =
    cell_set (TakenOn session id) ls.to_broker a b (took (cell ls.to_broker a b)) c x
    (λ e e'. took_stays session id (cell ls.to_broker a b)
    (subst (λ (u : ℕ). TakenOn session id (cell ls.to_broker u b)) (sym e) (subst (λ (v : ℕ). TakenOn session id (cell ls.to_broker c v)) (sym e') h))) h

one_up : (s : Setup) (t x : ℕ) (to : Peer) (l : Link) (ls : Links) → (with_link ls (from_broker s t x to) l).to_broker ≡ ls.to_broker
one_up s t x (peer.Forward z) l ls = refl
one_up s t x (peer.Back z) l ls = refl
one_up s t x (peer.Broker z) l ls = refl
one_up s t x (peer.Client z) l ls = refl

pub broker_up : (s : Setup) (t x stamp : ℕ) (os : List Out) (ls : Links) → (delivered (from_broker s t x) stamp os ls).to_broker ≡ ls.to_broker
broker_up s t x stamp [] ls = refl
broker_up s t x stamp (o ∷ os) ls = broker_up s t x stamp os _ ∙ one_up s t x o.to (sent_on (link_at ls (from_broker s t x o.to)) (stamped stamp o)) ls

-- a packet that is taken next was taken then
row_same : (r : List Link) (j : ℕ) (v : Link) (k : ℕ) (q : Packet) → slice_get (slice_index_or r j no_link).sent k ≡ Some q → slice_index_or (slice_set r j v) j no_link ≡ v
row_same [] j v k q h = absurd (none-some q h)
row_same (l ∷ r) zero v k q h = refl
row_same (l ∷ r) (suc j) v k q h = row_same r j v k q h

cell_same : (m : List (List Link)) (i j : ℕ) (v : Link) (k : ℕ) (q : Packet) → slice_get (cell m i j).sent k ≡ Some q → cell (with_cell m i j v) i j ≡ v
cell_same [] i j v k q h = absurd (none-some q h)
cell_same (r ∷ m) zero j v k q h = row_same r j v k q h
cell_same (r ∷ m) (suc i) j v k q h = cell_same m i j v k q h

pub next_taken : (m : List (List Link)) (c x id : ℕ) (q : Packet) → let l = cell m c x in slice_get l.sent l.taken ≡ Some q → SubscribesAs id q.frame → TakenOn q.session id (cell (with_cell m c x (took l)) c x)
next_taken m c x id q at is =
    let l = cell m c x in let within = slice_get_within l.sent l.taken q at in
    subst (TakenOn q.session id) (sym (cell_same m c x (took l) l.taken q at)) (record { place = l.taken; below = omega (arith, within); packet = q; at = at; same = refl; is = is })

-- a stop takes what waits
pub stopping_stays : (m : List (List Link)) (i j session id : ℕ) → TakenOn session id (cell m i j) → TakenOn session id (cell (all_discarded m) i j)
stopping_stays [] i j session id h = absurd (none-some h.packet h.at)
stopping_stays (r ∷ m) zero j session id h = row r j h
  where
    row : (r : List Link) (j : ℕ) → TakenOn session id (slice_index_or r j no_link) → TakenOn session id (slice_index_or (map discarded r) j no_link)
    row [] j g = absurd (none-some g.packet g.at)
    row (l ∷ r) zero g = record { place = g.place; below = slice_get_within l.sent g.place g.packet g.at; packet = g.packet; at = g.at; same = g.same; is = g.is }
    row (l ∷ r) (suc j) g = row r j g
stopping_stays (r ∷ m) (suc i) j session id h = stopping_stays m i j session id h

-- ---- messages

-- the SUBSCRIBE of a message's consumer was taken, taken being so
abbrev pub CameOf : (ℕ → ℕ → Type 0) → ℕ → Frame → Type 0
CameOf taken session (frame.Message id p source e) = taken session id
CameOf taken session f = Unit {0}

pub came_grows : (taken taken' : ℕ → ℕ → Type 0) → ((session id : ℕ) → taken session id → taken' session id) → (ps : List Packet) → Packets (CameOf taken) ps → Packets (CameOf taken') ps
came_grows taken taken' f ps h = each_map (λ (p : Packet). CameOf taken p.session p.frame) (λ (p : Packet). CameOf taken' p.session p.frame) (λ p g. one p.session p.frame g) ps h
  where
    one : (session : ℕ) (a : Frame) → CameOf taken session a → CameOf taken' session a
    one session (frame.Message id p source e) g = f session id g
    one session (frame.SendReceipt id n q) g = tt
    one session a g = tt

-- a message of this session to this consumer stands below this position
abbrev pub LessOf : List ℕ → ℕ → ℕ → Position → ℕ → Frame → Type 0
LessOf ls session id p s (frame.Message a q source e) = s ≡ session → a ≡ id → (i : ℕ) × (j : ℕ) × (index_of ls q ≡ Some i) × (index_of ls p ≡ Some j) × (i < j)
LessOf ls session id p s f = Unit {0}

abbrev pub RisesAfter : List ℕ → ℕ → List Packet → ℕ → Frame → Type 0
RisesAfter ls id before session (frame.Message a p source e) = a ≡ id → Packets (LessOf ls session id p) before
RisesAfter ls id before session f = Unit {0}

less_grows : (ls ls' : List ℕ) → ((p : Position) (i : ℕ) → index_of ls p ≡ Some i → index_of ls' p ≡ Some i) → (session id : ℕ) (p : Position) (s : ℕ) (f : Frame) → LessOf ls session id p s f
    → LessOf ls' session id p s f
less_grows ls ls' g session id p s (frame.Message a q source e) h = λ same is. let u = h same is in (u.0, u.1, g q u.0 u.2, g p u.1 u.3, u.4)
less_grows ls ls' g session id p s f h = tt

pub rises_grow : (ls ls' : List ℕ) → ((p : Position) (i : ℕ) → index_of ls p ≡ Some i → index_of ls' p ≡ Some i) → (id : ℕ) (ps : List Packet) → AllAfter (RisesAfter ls id) ps → AllAfter (RisesAfter ls' id) ps
rises_grow ls ls' g id ps h k q at = one (take k ps) q.session q.frame (h k q at)
  where
    one : (before : List Packet) (session : ℕ) (f : Frame) → RisesAfter ls id before session f → RisesAfter ls' id before session f
    one before session (frame.Message a p source e) u = λ is. each_map (λ (b : Packet). LessOf ls session id p b.session b.frame) (λ (b : Packet). LessOf ls' session id p b.session b.frame) (λ b v. less_grows ls ls' g session id p b.session b.frame v) before (u is)
    one before session (frame.SendReceipt a n b) u = tt
    one before session f u = tt

-- what is quiet is no message
pub quiet_rises : (ls : List ℕ) (id : ℕ) (before : List Packet) (session : ℕ) (f : Frame) → IsQuiet f → RisesAfter ls id before session f
quiet_rises ls id before session (frame.Message a p source e) q = absurd q
quiet_rises ls id before session f q = tt

pub quiet_came : (taken : ℕ → ℕ → Type 0) (session : ℕ) (f : Frame) → IsQuiet f → CameOf taken session f
quiet_came taken session (frame.Message a p source e) q = absurd q
quiet_came taken session f q = tt

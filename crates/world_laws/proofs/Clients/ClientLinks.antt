-- What sending and taking leave of the packets that were ever sent on the links of client c.
use Rattle.std.proofs.Common.{◌≡◌, ℕ, zero, suc, List, [], ◌∷◌, length, map, refl, sym, ap, subst, ◌∙◌}
use Rattle.std.specs.Prelude.{Option, Some, None, slice_index_or}
use Rattle.world_laws.proofs.Types.{Frame, Out, Packet, Peer}
use Rattle.world_laws.proofs.Types.peer
use Rattle.geo_base.specs.Happening.{stops}
use Rattle.geo_base.specs.Link.{Link, discarded, no_link, sent_on}
use Rattle.geo_base.specs.Setup.{Setup}
use Rattle.geo_base.specs.World.{Back, Forward, LinkName, Links, ToBroker, ToClient, World, cell, delivered, from_broker, from_client, link_at, opening_world, stamped, taken_from, with_cell, with_link}
use Rattle.world_laws.proofs.Counters.Bounds.{table_has}
use Rattle.world_laws.proofs.Replicating.Effects.{Each, each_both}
use Rattle.world_laws.proofs.Induction.Frames.{cell_set}

abbrev pub SentDown : Links → ℕ → ℕ → List Packet
SentDown ls c x = (link_at ls (ToClient c x)).sent

abbrev pub SentUp : Links → ℕ → ℕ → List Packet
SentUp ls c x = (link_at ls (ToBroker c x)).sent

-- ---- taking

pub taken_down : (o : Option LinkName) (ls : Links) (c x : ℕ) → SentDown (taken_from o ls) c x ≡ SentDown ls c x
taken_down None ls c x = refl
taken_down (Some (Forward a b)) ls c x = refl
taken_down (Some (Back a b)) ls c x = refl
taken_down (Some (ToBroker a b)) ls c x = refl
taken_down (Some (ToClient a b)) ls c x =
    let C : ℕ → ℕ → List Packet = λ u v. (cell ls.to_client u v).sent in
    cell_set (λ (l : Link). l.sent ≡ C c x) ls.to_client a b _ c x (λ h k. ap (λ (u : ℕ). C u b) h ∙ ap (C c) k) refl

pub taken_up : (o : Option LinkName) (ls : Links) (c x : ℕ) → SentUp (taken_from o ls) c x ≡ SentUp ls c x
taken_up None ls c x = refl
taken_up (Some (Forward a b)) ls c x = refl
taken_up (Some (Back a b)) ls c x = refl
taken_up (Some (ToClient a b)) ls c x = refl
taken_up (Some (ToBroker a b)) ls c x =
    let C : ℕ → ℕ → List Packet = λ u v. (cell ls.to_broker u v).sent in
    cell_set (λ (l : Link). l.sent ≡ C c x) ls.to_broker a b _ c x (λ h k. ap (λ (u : ℕ). C u b) h ∙ ap (C c) k) refl

-- ---- sending, Q being a fact of a packet's session and frame

abbrev pub Packets : (ℕ → Frame → Type 0) → List Packet → Type 0
Packets Q ps = Each (λ (p : Packet). Q p.session p.frame) ps

-- what a broker at x sends to c on its link there
abbrev pub ToHere : ℕ → ℕ → ℕ → (ℕ → Frame → Type 0) → ℕ → Frame → Peer → Type 0
ToHere c y x Q session f (peer.Client z) = z ≡ c → x ≡ y → Q session f
ToHere c y x Q session f q = Unit {0}

abbrev pub OutHere : ℕ → ℕ → ℕ → (ℕ → Frame → Type 0) → Out → Type 0
OutHere c y x Q o = ToHere c y x Q o.session o.frame o.to

one_down : (s : Setup) (t x stamp c y : ℕ) (Q : ℕ → Frame → Type 0) (o : Out) (to : Peer) (ls : Links) → ToHere c y x Q o.session o.frame to → Packets Q (SentDown ls c y)
    → Packets Q (SentDown (with_link ls (from_broker s t x to) (sent_on (link_at ls (from_broker s t x to)) (stamped stamp o))) c y)
one_down s t x stamp c y Q o (peer.Forward z) ls h all = all
one_down s t x stamp c y Q o (peer.Back z) ls h all = all
one_down s t x stamp c y Q o (peer.Broker z) ls h all = all
one_down s t x stamp c y Q o (peer.Client z) ls h all =
    let P : Packet → Type 0 = λ p. Q p.session p.frame in
    cell_set (λ (l : Link). Each P l.sent) ls.to_client z x _ c y
    (λ e e'.
    let C : ℕ → ℕ → Type 0 = λ u v. Each P (cell ls.to_client u v).sent in
    each_both P (cell ls.to_client z x).sent (stamped stamp o ∷ []) (subst (λ (u : ℕ). C u x) (sym e) (subst (C c) (sym e') all)) (h e e', tt)) all

pub broker_down : (s : Setup) (t x stamp c y : ℕ) (Q : ℕ → Frame → Type 0) (os : List Out) (ls : Links) → Each (OutHere c y x Q) os → Packets Q (SentDown ls c y)
    → Packets Q (SentDown (delivered (from_broker s t x) stamp os ls) c y)
broker_down s t x stamp c y Q [] ls h all = all
broker_down s t x stamp c y Q (o ∷ os) ls h all =
    broker_down s t x stamp c y Q os (with_link ls (from_broker s t x o.to) (sent_on (link_at ls (from_broker s t x o.to)) (stamped stamp o))) h.1
    (one_down s t x stamp c y Q o o.to ls h.0 all)

-- it sends nothing on a client's link to it
one_up : (s : Setup) (t x : ℕ) (to : Peer) (l : Link) (ls : Links) → (with_link ls (from_broker s t x to) l).to_broker ≡ ls.to_broker
one_up s t x (peer.Forward z) l ls = refl
one_up s t x (peer.Back z) l ls = refl
one_up s t x (peer.Broker z) l ls = refl
one_up s t x (peer.Client z) l ls = refl

pub broker_up : (s : Setup) (t x stamp : ℕ) (os : List Out) (ls : Links) → (delivered (from_broker s t x) stamp os ls).to_broker ≡ ls.to_broker
broker_up s t x stamp [] ls = refl
broker_up s t x stamp (o ∷ os) ls = broker_up s t x stamp os _ ∙ one_up s t x o.to (sent_on (link_at ls (from_broker s t x o.to)) (stamped stamp o)) ls

-- what client z sends
client_one : (z stamp c y : ℕ) (Q : ℕ → Frame → Type 0) (o : Out) (to : Peer) (ls : Links) → (z ≡ c → Q o.session o.frame) → Packets Q (SentUp ls c y)
    → Packets Q (SentUp (with_link ls (from_client z to) (sent_on (link_at ls (from_client z to)) (stamped stamp o))) c y)
client_one z stamp c y Q o to ls h all = by to
  where
    P : Packet → Type 0
    P p = Q p.session p.frame

    at : (x : ℕ) → Each P (cell (with_cell ls.to_broker z x (sent_on (cell ls.to_broker z x) (stamped stamp o))) c y).sent
    at x =
        cell_set (λ (l : Link). Each P l.sent) ls.to_broker z x _ c y
        (λ e e'.
        let C : ℕ → ℕ → Type 0 = λ u v. Each P (cell ls.to_broker u v).sent in
        each_both P (cell ls.to_broker z x).sent (stamped stamp o ∷ []) (subst (λ (u : ℕ). C u x) (sym e) (subst (C c) (sym e') all)) (h e, tt)) all

    by : (q : Peer) → Packets Q (SentUp (with_link ls (from_client z q) (sent_on (link_at ls (from_client z q)) (stamped stamp o))) c y)
    by (peer.Broker x) = at x
    by (peer.Forward x) = at x
    by (peer.Back x) = at x
    by (peer.Client x) = at x

client_up : (z stamp c y : ℕ) (Q : ℕ → Frame → Type 0) (os : List Out) (ls : Links) → (z ≡ c → Each (λ (o : Out). Q o.session o.frame) os) → Packets Q (SentUp ls c y)
    → Packets Q (SentUp (delivered (from_client z) stamp os ls) c y)
client_up z stamp c y Q [] ls h all = all
client_up z stamp c y Q (o ∷ os) ls h all =
    client_up z stamp c y Q os (with_link ls (from_client z o.to) (sent_on (link_at ls (from_client z o.to)) (stamped stamp o))) (λ e. (h e).1)
    (client_one z stamp c y Q o o.to ls (λ e. (h e).0) all)

client_one_down : (z : ℕ) (to : Peer) (l : Link) (ls : Links) → (with_link ls (from_client z to) l).to_client ≡ ls.to_client
client_one_down z (peer.Broker x) l ls = refl
client_one_down z (peer.Forward x) l ls = refl
client_one_down z (peer.Back x) l ls = refl
client_one_down z (peer.Client x) l ls = refl

pub client_down : (z stamp : ℕ) (os : List Out) (ls : Links) → (delivered (from_client z) stamp os ls).to_client ≡ ls.to_client
client_down z stamp [] ls = refl
client_down z stamp (o ∷ os) ls = client_down z stamp os _ ∙ client_one_down z o.to (sent_on (link_at ls (from_client z o.to)) (stamped stamp o)) ls

-- ---- an event

-- of a broker at x
pub does_down : (s : Setup) (t x stamp c y : ℕ) (Q : ℕ → Frame → Type 0) (takes : Option LinkName) (os : List Out) (ls : Links) → Each (OutHere c y x Q) os → Packets Q (SentDown ls c y)
    → Packets Q (SentDown (taken_from takes (delivered (from_broker s t x) stamp os ls)) c y)
does_down s t x stamp c y Q takes os ls h all =
    subst (Packets Q) (sym (taken_down takes (delivered (from_broker s t x) stamp os ls) c y)) (broker_down s t x stamp c y Q os ls h all)

pub does_up : (s : Setup) (t x stamp c y : ℕ) (takes : Option LinkName) (os : List Out) (ls : Links)
    → SentUp (taken_from takes (delivered (from_broker s t x) stamp os ls)) c y ≡ SentUp ls c y
does_up s t x stamp c y takes os ls =
    taken_up takes (delivered (from_broker s t x) stamp os ls) c y ∙ ap (λ (m : List (List Link)). (cell m c y).sent) (broker_up s t x stamp os ls)

pub halts_down : (c y : ℕ) (takes : Option LinkName) (ls : Links) → SentDown (taken_from takes ls) c y ≡ SentDown ls c y
halts_down c y takes ls = taken_down takes ls c y

pub halts_up : (c y : ℕ) (takes : Option LinkName) (ls : Links) → SentUp (taken_from takes ls) c y ≡ SentUp ls c y
halts_up c y takes ls = taken_up takes ls c y

-- of client z
pub acts_up : (z stamp c y : ℕ) (Q : ℕ → Frame → Type 0) (takes : Option LinkName) (os : List Out) (ls : Links) → (z ≡ c → Each (λ (o : Out). Q o.session o.frame) os) → Packets Q (SentUp ls c y)
    → Packets Q (SentUp (delivered (from_client z) stamp os (taken_from takes ls)) c y)
acts_up z stamp c y Q takes os ls h all = client_up z stamp c y Q os (taken_from takes ls) h (subst (Packets Q) (sym (taken_up takes ls c y)) all)

pub acts_down : (z stamp c y : ℕ) (takes : Option LinkName) (os : List Out) (ls : Links) → SentDown (delivered (from_client z) stamp os (taken_from takes ls)) c y ≡ SentDown ls c y
acts_down z stamp c y takes os ls =
    ap (λ (m : List (List Link)). (cell m c y).sent) (client_down z stamp os (taken_from takes ls)) ∙ taken_down takes ls c y

-- a stop of everything
pub discarded_same : (m : List (List Link)) (i j : ℕ) → (cell (map (λ (ls : List Link). map discarded ls) m) i j).sent ≡ (cell m i j).sent
discarded_same [] i j = refl
discarded_same (r ∷ m) zero j = row r j
  where
    row : (r : List Link) (j : ℕ) → (slice_index_or (map discarded r) j no_link).sent ≡ (slice_index_or r j no_link).sent
    row [] j = refl
    row (l ∷ r) zero = refl
    row (l ∷ r) (suc j) = row r j
discarded_same (r ∷ m) (suc i) j = discarded_same m i j

pub stops_down : (s : Setup) (w : World) (c y : ℕ) → SentDown (stops s w).links c y ≡ SentDown w.links c y
unfolding stops
stops_down s w c y = discarded_same w.links.to_client c y

pub stops_up : (s : Setup) (w : World) (c y : ℕ) → SentUp (stops s w).links c y ≡ SentUp w.links c y
unfolding stops
stops_up s w c y = discarded_same w.links.to_broker c y

-- links that were never used
pub none_down : (s : Setup) (c y : ℕ) (Q : ℕ → Frame → Type 0) → Packets Q (SentDown (opening_world s).links c y)
none_down s c y Q = table_has (λ (l : Link). Packets Q l.sent) (length s.clients) (length s.clusters) c y tt

pub none_up : (s : Setup) (c y : ℕ) (Q : ℕ → Frame → Type 0) → Packets Q (SentUp (opening_world s).links c y)
none_up s c y Q = table_has (λ (l : Link). Packets Q l.sent) (length s.clients) (length s.clusters) c y tt

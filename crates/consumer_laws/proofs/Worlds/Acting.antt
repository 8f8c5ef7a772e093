-- Every event of a client keeps what is known of links, of what clients hold and of consumers.
use Rattle.std.proofs.Common.{◌≡◌, ℕ, zero, suc, ◌<◌, ◌≤◌, Bool, true, false, List, [], ◌∷◌, length, refl, sym, subst, ◌∙◌, ◌==◌, arith, inl, inr, ◌⊎◌}
use Rattle.std.specs.Prelude.{Some, slice_get, slice_index_or, slice_set, take}
use Rattle.std.proofs.lemmas.Bool.{eqb-false, eqb-true}
use Rattle.std.proofs.lemmas.List.{get_or-set_other, get_or-set_same}
use Rattle.world_laws.proofs.Types.{Frame, Held, Out, Packet, Peer, SubKind}
use Rattle.world_laws.proofs.Types.frame
use Rattle.world_laws.proofs.Types.peer
use Rattle.geo_base.specs.Broker.{Broker, no_broker}
use Rattle.geo_base.specs.Client.{Client, id_of, new_client}
use Rattle.geo_base.specs.Link.{Link, sent_on}
use Rattle.geo_base.specs.Settled.{SettledSoFar}
use Rattle.geo_base.specs.Setup.{Declared, Setup, declared_at}
use Rattle.geo_base.specs.World.{Links, ToClient, World, cell, client_at, delivered, from_client, link_at, node, stamped, taken_from, topic_at, with_cell, with_link}
use Rattle.world_laws.proofs.Replicating.Effects.{Each, each_both, each_map, each_take}
use Rattle.world_laws.proofs.Induction.Frames.{cell_set}
use Rattle.world_laws.proofs.Snapshotting.Grows.{unchanged}
use Rattle.world_laws.proofs.Merges.LinkTables.{HasLink}
use Rattle.world_laws.proofs.Replicating.Sizes.{IsThere}
use Rattle.world_laws.proofs.Dispatching.SubFrames.{AllSubs}
use Rattle.world_laws.proofs.Telling.Told.{Includes}
use Rattle.consumer_laws.specs.Lines.{IsKindLine}
use Rattle.world_laws.proofs.Clients.ClientLinks.{Packets, SentDown, SentUp}
use Rattle.consumer_laws.proofs.Clients.Going.{Comes, target}
use Rattle.consumer_laws.proofs.Worlds.Growing.{link_grows}
use Rattle.consumer_laws.proofs.Worlds.Facts.{ClientFact, DownFact, Hands, LinkFact, MadeBy, Reached, SubsAt, TakenFact, UpFact, down_grows, reached_grows, up_grows}
use Rattle.consumer_laws.proofs.Subscriptions.Plans.{numbers, same_numbers}
use Rattle.consumer_laws.proofs.Subscriptions.WhatIsOut.{Carried, SameNumbers, SubFact, each_two, fact_grows}
use Rattle.world_laws.proofs.Clients.Meeting.{MeetsAll}

-- ---- what client z sends, by the cluster that it goes to

sends_one : (z stamp y : ℕ) (Q : ℕ → Frame → Type 0) (o : Out) (to : Peer) (ls : Links) → (target to ≡ y → Q o.session o.frame) → Packets Q (SentUp ls z y)
    → Packets Q (SentUp (with_link ls (from_client z to) (sent_on (link_at ls (from_client z to)) (stamped stamp o))) z y)
sends_one z stamp y Q o to ls h all = by to h
  where
    P : Packet → Type 0
    P p = Q p.session p.frame

    at : (x : ℕ) → (x ≡ y → Q o.session o.frame) → Each P (cell (with_cell ls.to_broker z x (sent_on (cell ls.to_broker z x) (stamped stamp o))) z y).sent
    at x g =
        cell_set (λ (l : Link). Each P l.sent) ls.to_broker z x _ z y
        (λ e e'. each_both P (cell ls.to_broker z x).sent (stamped stamp o ∷ []) (subst (λ (v : ℕ). Each P (cell ls.to_broker z v).sent) (sym e') all) (g e', tt)) all

    by : (q : Peer) → (target q ≡ y → Q o.session o.frame) → Packets Q (SentUp (with_link ls (from_client z q) (sent_on (link_at ls (from_client z q)) (stamped stamp o))) z y)
    by (peer.Broker x) g = at x g
    by (peer.Forward x) g = at x g
    by (peer.Back x) g = at x g
    by (peer.Client x) g = at x g

pub sends_all : (z stamp y : ℕ) (Q : ℕ → Frame → Type 0) (os : List Out) (ls : Links) → Each (λ (o : Out). target o.to ≡ y → Q o.session o.frame) os → Packets Q (SentUp ls z y)
    → Packets Q (SentUp (delivered (from_client z) stamp os ls) z y)
sends_all z stamp y Q [] ls h all = all
sends_all z stamp y Q (o ∷ os) ls h all =
    sends_all z stamp y Q os (with_link ls (from_client z o.to) (sent_on (link_at ls (from_client z o.to)) (stamped stamp o))) h.1 (sends_one z stamp y Q o o.to ls h.0 all)

-- another client's links stay
other_one : (z stamp c y : ℕ) (o : Out) (to : Peer) (ls : Links) → (z ≡ c → ⊥)
    → SentUp (with_link ls (from_client z to) (sent_on (link_at ls (from_client z to)) (stamped stamp o))) c y ≡ SentUp ls c y
other_one z stamp c y o to ls differ = by to
  where
    at : (x : ℕ) → (cell (with_cell ls.to_broker z x (sent_on (cell ls.to_broker z x) (stamped stamp o))) c y).sent ≡ (cell ls.to_broker c y).sent
    at x = cell_set (λ (l : Link). l.sent ≡ (cell ls.to_broker c y).sent) ls.to_broker z x _ c y (λ e e'. absurd (differ e)) refl

    by : (q : Peer) → SentUp (with_link ls (from_client z q) (sent_on (link_at ls (from_client z q)) (stamped stamp o))) c y ≡ SentUp ls c y
    by (peer.Broker x) = at x
    by (peer.Forward x) = at x
    by (peer.Back x) = at x
    by (peer.Client x) = at x

pub other_all : (z stamp c y : ℕ) (os : List Out) (ls : Links) → (z ≡ c → ⊥) → SentUp (delivered (from_client z) stamp os ls) c y ≡ SentUp ls c y
other_all z stamp c y [] ls differ = refl
other_all z stamp c y (o ∷ os) ls differ =
    other_all z stamp c y os (with_link ls (from_client z o.to) (sent_on (link_at ls (from_client z o.to)) (stamped stamp o))) differ ∙ other_one z stamp c y o o.to ls differ

pub other_taken : (z x c y : ℕ) (ls : Links) → (z ≡ c → ⊥) → cell (taken_from (Some (ToClient z x)) ls).to_client c y ≡ cell ls.to_client c y
other_taken z x c y ls differ = cell_set (λ (l : Link). l ≡ cell ls.to_client c y) ls.to_client z x _ c y (λ e e'. absurd (differ e)) refl

-- ---- another sub line, another connection

all_each : {X : Type 0} (P : X → Type 0) (xs : List X) → ((k : ℕ) (x : X) → slice_get xs k ≡ Some x → P x) → Each P xs
all_each P [] h = tt
all_each P (x ∷ xs) h = (h zero x refl, all_each P xs (λ k y at. h (suc k) y at))

-- the id of a message is that of a line that was done
abbrev IsBelow : ℕ → ℕ → Frame → Type 0
IsBelow done session (frame.Message id p source e) = id < done
IsBelow done session f = Unit {0}

below_of : (told : SettledSoFar) (t x : ℕ) (b : Broker) (d : Declared) (done : ℕ) (before : List Packet) (session : ℕ) (f : Frame) → DownFact told t x b d done before session f → IsBelow done session f
below_of told t x b d done before session (frame.Message id p source e) h = h.below
below_of told t x b d done before session (frame.SendReceipt id n q) h = tt
below_of told t x b d done before session f h = tt

taken_stays : (told : SettledSoFar) (t : ℕ) (d : Declared) (k j : Client) (session : ℕ) (f : Frame) → j.connection ≡ k.connection → ((id : ℕ) → j.sub ≡ Some id → (k.sub ≡ Some id) ⊎ (k.done ≤ id))
    → IsBelow k.done session f → TakenFact told t d k session f → TakenFact told t d j session f
taken_stays told t d k j session (frame.Message id p source e) same subs lt h = λ current sub n kind line. elim (subs id sub) [
  | inl was ↦ h (current ∙ same) was n kind line
  | inr le ↦ absurd (omega (arith, le, lt))
]
taken_stays told t d k j session f same subs lt h = tt

taken_anew : (told : SettledSoFar) (t : ℕ) (d : Declared) (k j : Client) (session : ℕ) (f : Frame) → k.connection < j.connection → session ≤ k.connection → TakenFact told t d j session f
taken_anew told t d k j session (frame.Message id p source e) newer le = λ current sub n kind line. absurd (omega (arith, newer, le, current))
taken_anew told t d k j session f newer le = tt

-- the link of a client that did a line or reconnected
pub link_leaves : (told : SettledSoFar) (t x : ℕ) (b : Broker) (d : Declared) (k j : Client) (sent : List Packet) (l : Link) → k.done ≤ j.done → Comes k j
    → Packets (λ session f. session ≤ k.connection) l.sent → LinkFact told t x b d k sent l → LinkFact told t x b d j sent l
link_leaves told t x b d k j sent l later comes below h = record {
  extends = h.extends;
  after = λ i p at. down_grows told told t x b b d k.done j.done (take i l.sent) p.session p.frame (λ u n e g. g) (unchanged b) later (h.after i p at);
  whole = h.whole;
  taken = by comes;
}
  where
    ids : Packets (IsBelow k.done) l.sent
    ids = all_each (λ (p : Packet). IsBelow k.done p.session p.frame) l.sent (λ i p at. below_of told t x b d k.done (take i l.sent) p.session p.frame (h.after i p at))

    by : Comes k j → x ≡ j.cluster → j.connected ≡ true → Packets (TakenFact told t d j) (take l.taken l.sent)
    by (Comes.Stays cluster connection connected subs) here on =
        each_two (λ (p : Packet). IsBelow k.done p.session p.frame) (λ (p : Packet). TakenFact told t d k p.session p.frame) (λ (p : Packet). TakenFact told t d j p.session p.frame)
        (λ p lt f. taken_stays told t d k j p.session p.frame connection subs lt f) (take l.taken l.sent)
        (each_take (λ (p : Packet). IsBelow k.done p.session p.frame) l.taken l.sent ids) (h.taken (here ∙ cluster) (sym connected ∙ on))
    by (Comes.Anew newer) here on =
        each_map (λ (p : Packet). p.session ≤ k.connection) (λ (p : Packet). TakenFact told t d j p.session p.frame) (λ p le. taken_anew told t d k j p.session p.frame newer le) (take l.taken l.sent)
        (each_take (λ (p : Packet). p.session ≤ k.connection) l.taken l.sent below)

-- ---- as more is told

pub hands_more : (s : Setup) (told more : SettledSoFar) (w : World) → Includes told more → Hands s told w → Hands s more w
hands_more s told more w inc h = record {
  meets = h.meets;
  cells = h.cells;
  up = λ c x there.
      let d = declared_at s c in let b = topic_at s w d.topic x in let k = client_at s w c in
      each_map (λ (p : Packet). UpFact told d.topic b d k.done p.session p.frame) (λ (p : Packet). UpFact more d.topic b d k.done p.session p.frame)
      (λ p f. up_grows told more d.topic b b d k.done k.done p.session p.frame inc (unchanged b) (omega arith) f) (SentUp w.links c x) (h.up c x there);
  down = λ c x there.
      let d = declared_at s c in let b = topic_at s w d.topic x in
      link_grows told more d.topic x b b d (client_at s w c) (SentDown w.links c x) (link_at w.links (ToClient c x)) inc (unchanged b) (h.down c x there);
  client = λ c. let d = declared_at s c in client_more s told more w d.topic d (client_at s w c) inc (h.client c);
  subs = h.subs;
}
  where
    client_more : (s : Setup) (told more : SettledSoFar) (w : World) (t : ℕ) (d : Declared) (k : Client) → Includes told more → ClientFact told s w t d k → ClientFact more s w t d k
    client_more s told more w t d k inc h = record {
      sub = h.sub;
      all = h.all;
      held = λ on there.
          let b = topic_at s w t k.cluster in
          each_map (λ (x : Held). (n : List ℕ) (kind : SubKind) → IsKindLine d (id_of k.sub) n kind → Reached told t n b kind x.position)
          (λ (x : Held). (n : List ℕ) (kind : SubKind) → IsKindLine d (id_of k.sub) n kind → Reached more t n b kind x.position)
          (λ x m n kind line. reached_grows told more t n b b kind x.position inc (unchanged b) (m n kind line)) k.held (h.held on there);
    }

-- ---- client z acts

after_set : (s : Setup) (w : World) (z : ℕ) (j : Client) (G : ℕ → Client → Type 0) → z < length w.clients → G z j → ((c : ℕ) → (z ≡ c → ⊥) → G c (client_at s w c)) → (c : ℕ)
    → G c (slice_index_or (slice_set w.clients z j) c (new_client (declared_at s c)))
after_set s w z j G lt mine others c = by (z == c) refl
  where
    by : (t : Bool) → (z == c) ≡ t → G c (slice_index_or (slice_set w.clients z j) c (new_client (declared_at s c)))
    by true is =
        subst (λ (x : ℕ). G x (slice_index_or (slice_set w.clients z j) x (new_client (declared_at s x)))) (eqb-true z c is)
        (subst (G z) (sym (get_or-set_same w.clients z j (new_client (declared_at s z)) lt)) mine)
    by false is =
        let differ = eqb-false z c is in
        subst (G c) (sym (get_or-set_other w.clients z c j (new_client (declared_at s c)) (λ e. differ (sym e)))) (others c differ)

-- what it leaves of its own links and of what it keeps
pub record ActsWell (s : Setup) (told : SettledSoFar) (w : World) (z : ℕ) (ls : Links) (j : Client) : Type 0 where
  pub later : (client_at s w z).done ≤ j.done
  pub up : (x : ℕ) → let d = declared_at s z in IsThere s d.topic x → Packets (UpFact told d.topic (topic_at s w d.topic x) d j.done) (SentUp ls z x)
  pub down : (x : ℕ) → let d = declared_at s z in IsThere s d.topic x → LinkFact told d.topic x (topic_at s w d.topic x) d j (SentDown ls z x) (link_at ls (ToClient z x))
  pub client : ClientFact told s w (declared_at s z).topic (declared_at s z) j

-- and of another client's
pub record LeavesOthers (z : ℕ) (ls ls' : Links) : Type 0 where
  pub up : (c x : ℕ) → (z ≡ c → ⊥) → SentUp ls' c x ≡ SentUp ls c x
  pub down : (c x : ℕ) → (z ≡ c → ⊥) → cell ls'.to_client c x ≡ cell ls.to_client c x
  pub sent : (c x : ℕ) → SentDown ls' c x ≡ SentDown ls c x
  pub cells : (c x : ℕ) → HasLink ls (ToClient c x) → HasLink ls' (ToClient c x)

-- so it is in the world, whatever else changed that is no part of it
pub hands_acted : (s : Setup) (told : SettledSoFar) (w w' : World) (z : ℕ) (j : Client) → z < length w.clients → w'.brokers ≡ w.brokers → w'.clients ≡ slice_set w.clients z j
    → ((c : ℕ) → MeetsAll s c w') → LeavesOthers z w.links w'.links → ActsWell s told w z w'.links j → Hands s told w → Hands s told w'
hands_acted s told w w' z j lt brokers clients meets left acts h = record {
  meets = meets;
  cells = λ c x small small'. left.cells c x (h.cells c x small small');
  up = λ c x there.
      let d = declared_at s c in
      subst (λ (bs : List Broker). Packets (UpFact told d.topic (topic_in bs d.topic x) d (client_at s w' c).done) (SentUp w'.links c x)) (sym brokers)
      (with_client (λ c k. IsThere s (declared_at s c).topic x → Packets (UpFact told (declared_at s c).topic (topic_at s w (declared_at s c).topic x) (declared_at s c) k.done) (SentUp w'.links c x))
      (acts.up x)
      (λ c differ there. let d = declared_at s c in subst (Packets (UpFact told d.topic (topic_at s w d.topic x) d (client_at s w c).done)) (sym (left.up c x differ)) (h.up c x there)) c there);
  down = λ c x there.
      let d = declared_at s c in
      subst (λ (bs : List Broker). LinkFact told d.topic x (topic_in bs d.topic x) d (client_at s w' c) (SentDown w'.links c x) (link_at w'.links (ToClient c x))) (sym brokers)
      (with_client (λ c k. IsThere s (declared_at s c).topic x
      → LinkFact told (declared_at s c).topic x (topic_at s w (declared_at s c).topic x) (declared_at s c) k (SentDown w'.links c x) (link_at w'.links (ToClient c x)))
      (acts.down x)
      (λ c differ there.
      let d = declared_at s c in
      subst (λ (l : Link). LinkFact told d.topic x (topic_at s w d.topic x) d (client_at s w c) l.sent l) (sym (left.down c x differ)) (h.down c x there)) c there);
  client = λ c.
      let d = declared_at s c in
      same_client d.topic d (client_at s w' c)
      (with_client (λ c k. ClientFact told s w (declared_at s c).topic (declared_at s c) k) acts.client (λ c differ. h.client c) c);
  subs = λ t x there.
      subst (λ (bs : List Broker). AllSubs (SubFact (MadeBy s w' t) (topic_in bs t x).entries (numbers (topic_in bs t x)) (λ c. SentDown w'.links c x)) (topic_in bs t x)) (sym brokers) (subs_now t x (h.subs t x there));
}
  where
    topic_in : List Broker → ℕ → ℕ → Broker
    topic_in bs t x = slice_index_or bs (node s t x) no_broker

    with_client : (G : ℕ → Client → Type 0) → G z j → ((c : ℕ) → (z ≡ c → ⊥) → G c (client_at s w c)) → (c : ℕ) → G c (client_at s w' c)
    with_client G mine others c = subst (λ (ks : List Client). G c (slice_index_or ks c (new_client (declared_at s c)))) (sym clients) (after_set s w z j G lt mine others c)

    later : (c : ℕ) → (client_at s w c).done ≤ (client_at s w' c).done
    later c = with_client (λ c k. (client_at s w c).done ≤ k.done) acts.later (λ c differ. omega arith) c

    same_client : (t : ℕ) (d : Declared) (k : Client) → ClientFact told s w t d k → ClientFact told s w' t d k
    same_client t d k f = record {
      sub = f.sub;
      all = f.all;
      held = λ on there.
          subst (λ (bs : List Broker). Each (λ (g : Held). (n : List ℕ) (kind : SubKind) → IsKindLine d (id_of k.sub) n kind → Reached told t n (slice_index_or bs (node s t k.cluster) no_broker) kind g.position) k.held)
          (sym brokers) (f.held on there);
    }

    subs_now : (t x : ℕ) → SubsAt s w t x (topic_at s w t x)
        → AllSubs (SubFact (MadeBy s w' t) (topic_at s w t x).entries (numbers (topic_at s w t x)) (λ c. SentDown w'.links c x)) (topic_at s w t x)
    subs_now t x f =
        let b = topic_at s w t x in
        each_two (SubFact (MadeBy s w t) b.entries (numbers b) (λ c. SentDown w.links c x)) (SameNumbers (numbers b) (numbers b)) (SubFact (MadeBy s w' t) b.entries (numbers b) (λ c. SentDown w'.links c x))
        (λ v g e. fact_grows (MadeBy s w t) (MadeBy s w' t) b.entries b.entries (numbers b) (numbers b) (λ c. SentDown w.links c x) (λ c. SentDown w'.links c x)
        (record {
          made = λ n kind c id m. (m.0, m.1, let lt' = m.2 in let le = later c in omega (arith, lt', le));
          entries = λ i e' at. at;
          packets = λ c session id e' c'. subst (λ (ps : List Packet). Carried ps session id e') (sym (left.sent c x)) c';
        }) v e g) b.subs f (same_numbers (numbers b) (numbers b) (λ c. refl) b.subs)

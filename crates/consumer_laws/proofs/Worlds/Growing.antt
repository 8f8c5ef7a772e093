-- What is known stays so as topics and what is told grow; and what a broker knows of a message that it gives.
use Rattle.std.proofs.Common.{◌≡◌, ℕ, zero, suc, ◌<◌, true, List, [], ◌∷◌, length, refl, sym, ap, subst, ◌∙◌, arith, inl, inr}
use Rattle.std.specs.Prelude.{Some, slice_get, take}
use Rattle.std.proofs.lemmas.Option.{none-some, same_Some}
use Rattle.world_laws.proofs.Types.{Consumer, Entry, Line, Packet, SubKind}
use Rattle.world_laws.proofs.Types.frame
use Rattle.world_laws.proofs.Types.line
use Rattle.world_laws.proofs.Types.sub_kind
use Rattle.geo_base.specs.Broker.{Broker, Site}
use Rattle.geo_base.specs.Client.{Client}
use Rattle.geo_base.specs.Cursor.{has}
use Rattle.geo_base.specs.Dispatcher.{consumer_at, least_due, pick}
use Rattle.geo_base.specs.Entry.{key_bytes}
use Rattle.geo_base.specs.Link.{Link, sent_on}
use Rattle.geo_base.specs.Nodes.{same_link}
use Rattle.geo_base.specs.Offering.{message, source_of}
use Rattle.geo_base.specs.Safe.{IsEntry}
use Rattle.geo_base.specs.Settled.{SettledSoFar, serves_one}
use Rattle.geo_base.specs.Setup.{Declared, Setup, declared_at, nobody}
use Rattle.geo_base.specs.Subscription.{Subscription}
use Rattle.geo_base.specs.Topic.{position_at}
use Rattle.geo_base.specs.World.{Links, ToClient, World, client_at, delivered, from_broker, link_at, site, with_link}
use Rattle.world_laws.proofs.Snapshotting.Answering.{Numbered}
use Rattle.world_laws.proofs.Replicating.Effects.{Each, each_map}
use Rattle.world_laws.proofs.Snapshotting.Grows.{Lengthened}
use Rattle.world_laws.proofs.TopicOrder.Ledgers.{at_index}
use Rattle.world_laws.proofs.Merges.LinkTables.{HasLink, link_at_with, same_link_self}
use Rattle.world_laws.proofs.OnceInOrder.Members.{below_or, get_last}
use Rattle.world_laws.proofs.Merges.PeerWalk.{pick_has}
use Rattle.world_laws.proofs.Dispatching.Remembers.{Remembers, least_due_is}
use Rattle.world_laws.proofs.Telling.Told.{Includes, OnlyTold}
use Rattle.world_laws.proofs.Walks.Walk.{on_true}
use Rattle.consumer_laws.specs.Lines.{IsKindLine}
use Rattle.world_laws.proofs.Clients.ClientLinks.{SentDown}
use Rattle.consumer_laws.proofs.Subscriptions.LeastDue.{gives_order}
use Rattle.consumer_laws.proofs.Worlds.Facts.{LinkFact, MadeBy, Passed, Sent, TakenFact, down_grows, taken_grows}
use Rattle.consumer_laws.proofs.Subscriptions.Plans.{numbers}
use Rattle.consumer_laws.proofs.Subscriptions.WhatIsOut.{Carried, IsMade, Makes, SubFact}
pub use Rattle.geo_base.proofs.Lists.{index_or_past as past_none}

-- ---- facts grow

pub same_told : (told : SettledSoFar) → Includes told told
same_told told t n e h = h

pub link_grows : (told more : SettledSoFar) (t x : ℕ) (b b' : Broker) (d : Declared) (k : Client) (sent : List Packet) (l : Link) → Includes told more → Lengthened b b' → LinkFact told t x b d k sent l
    → LinkFact more t x b' d k sent l
link_grows told more t x b b' d k sent l inc g h = record {
  extends = h.extends;
  after = λ i p at. down_grows told more t x b b' d k.done k.done (take i l.sent) p.session p.frame inc g (omega arith) (h.after i p at);
  whole = h.whole;
  taken = λ here on.
      each_map (λ (p : Packet). TakenFact told t d k p.session p.frame) (λ (p : Packet). TakenFact more t d k p.session p.frame)
      (λ p f. taken_grows told more t d k p.session p.frame inc f) (take l.taken l.sent) (h.taken here on);
}

-- what was sent on it before is there
pub link_same : (told : SettledSoFar) (t x : ℕ) (b : Broker) (d : Declared) (k : Client) (sent : List Packet) (l : Link) → LinkFact told t x b d k sent l → LinkFact told t x b d k l.sent l
link_same told t x b d k sent l h = record { extends = λ session id e c. c; after = h.after; whole = h.whole; taken = h.taken }

pub client_there : (s : Setup) (c i : ℕ) (n : List ℕ) (kind : SubKind) → IsKindLine (declared_at s c) i n kind → c < length s.clients
client_there s c i n kind h =
    elim (below_or c (length s.clients)) [
      | inl lt ↦ lt
      | inr le ↦ absurd (none-some _ (subst (λ (d : Declared). slice_get d.lines i ≡ Some (line.Sub n kind h.0 h.1)) (past_none s.clients c nobody le) h.2))
    ]

-- one line is of one kind, and names one subscription
name_of : Line → List ℕ
name_of (line.Sub m kind earliest replicated) = m
name_of l = []

kind_of : Line → SubKind
kind_of (line.Sub m kind earliest replicated) = kind
kind_of l = sub_kind.Shared

pub one_line : (d : Declared) (i : ℕ) (m n : List ℕ) (k k' : SubKind) → IsKindLine d i m k → IsKindLine d i n k' → (m ≡ n) × (k ≡ k')
unfolding name_of kind_of
one_line d i m n k k' h g =
    let same : line.Sub m k h.0 h.1 ≡ line.Sub n k' g.0 g.1 = same_Some _ _ (sym h.2 ∙ g.2) in
    (ap name_of same, ap kind_of same)

-- ---- a message that is given

-- the consumer to whom it goes was made by its client
pub picked_made : (mine : Makes) (es : List Entry) (num : ℕ → ℕ) (sent : ℕ → List Packet) (v : Subscription) (at : ℕ) → 0 < (consumer_at v.consumers at).permits → SubFact mine es num sent v
    → mine v.name v.kind (consumer_at v.consumers at).client (consumer_at v.consumers at).id
picked_made mine es num sent v at permit h = by v.consumers at permit h.consumers
  where
    by : (ks : List Consumer) (a : ℕ) → 0 < (consumer_at ks a).permits → Each (IsMade mine v.name v.kind) ks → IsMade mine v.name v.kind (consumer_at ks a)
    by [] a lt all = absurd (omega (arith, lt))
    by (k ∷ ks) zero lt all = all.0
    by (k ∷ ks) (suc a) lt all = by ks a lt all.1

-- what the broker of topic t at x, b, knows when it gives
pub record MayGive (s : Setup) (told : SettledSoFar) (w : World) (t x : ℕ) (b : Broker) (v : Subscription) (i at : ℕ) (e : Entry) : Type 0 where
  pub only : OnlyTold told t b.entries v
  pub remembers : Remembers (length b.entries) v
  pub fact : SubFact (MadeBy s w t) b.entries (numbers b) (λ c. SentDown w.links c x) v
  pub numbered : Numbered b.entries b.ledgers
  pub due : least_due v (length b.entries) ≡ Some i
  pub stands : IsEntry b i e
  pub picked : pick v.kind v.consumers (key_bytes e.meta.key) ≡ Some at

-- its packet, after packets among which are all that were sent to that client before
pub gives_sent : (s : Setup) (told : SettledSoFar) (w : World) (t x : ℕ) (b : Broker) (v : Subscription) (i at : ℕ) (e : Entry) (before : List Packet) → MayGive s told w t x b v i at e
    → let k = consumer_at v.consumers at in ((session id : ℕ) (f : Entry) → Carried (SentDown w.links k.client x) session id f → Carried before session id f)
    → Sent told t x b (declared_at s k.client) (client_at s w k.client).done before (numbers b k.client) k.id (position_at b.ledgers i) (source_of x e) e
gives_sent s told w t x b v i at e before m extends =
    let k = consumer_at v.consumers at in
    let made = picked_made (MadeBy s w t) b.entries (numbers b) (λ c. SentDown w.links c x) v at (pick_has v.kind v.consumers (key_bytes e.meta.key) at m.picked) m.fact in
    let least = least_due_is v 0 (length b.entries) i m.due in
    let high = least.high in
    record {
      below = made.2;
      index = i;
      at = let whole = m.numbered.whole in at_index b.ledgers i (omega (arith, high, whole));
      stands = m.stands;
      within = omega (arith, high);
      from = refl;
      order = λ n kind line one j f lt stands message.
          let same = one_line (declared_at s k.client) k.id v.name n v.kind kind made.1 line in
          subst (λ (l : List ℕ). Passed told t l before (numbers b k.client) k.id f) same.0
          (further v.name f (gives_order told t (MadeBy s w t) b.entries (numbers b) (λ c. SentDown w.links c x) v i at (key_bytes e.meta.key) m.only m.remembers m.fact m.due m.picked
          (subst (λ (kd : SubKind). serves_one kd ≡ true) (sym same.1) one) j f lt stands message));
    }
  where
    further : (n : List ℕ) (f : Entry)
        → Passed told t n (SentDown w.links (consumer_at v.consumers at).client x) (numbers b (consumer_at v.consumers at).client) (consumer_at v.consumers at).id f
        → Passed told t n before (numbers b (consumer_at v.consumers at).client) (consumer_at v.consumers at).id f
    further n f (Passed.IsHanded h) = Passed.IsHanded h
    further n f (Passed.Earlier c) = Passed.Earlier (extends _ _ f c)

-- and it is there when it was sent
pub one_carried : (s : Setup) (t x stamp i : ℕ) (h : Site) (b : Broker) (e : Entry) (k : Consumer) (ls : Links) → h ≡ site s t x → HasLink ls (ToClient k.client x)
    → Carried (SentDown (delivered (from_broker s t x) stamp (message h b i e k) ls) k.client x) (numbers b k.client) k.id e
one_carried s t x stamp i h b e k ls same has = record {
  place = length l.sent;
  packet = p;
  at = subst (λ (m : Link). slice_get m.sent (length l.sent) ≡ Some p) (sym is) (get_last l.sent p);
  brings = record { in_session = refl; position = position_at b.ledgers i; source = source_of h.own e; is = refl };
}
  where
    l : Link
    l = link_at ls (ToClient k.client x)

    p : Packet
    p = record { session = numbers b k.client; stamp = stamp; frame = frame.Message k.id (position_at b.ledgers i) (source_of h.own e) e }

    is : link_at (with_link ls (ToClient k.client x) (sent_on l p)) (ToClient k.client x) ≡ sent_on l p
    is =
        link_at_with ls (ToClient k.client x) (sent_on l p) (ToClient k.client x) has
        ∙ on_true (same_link (ToClient k.client x) (ToClient k.client x)) (sent_on l p) l (same_link_self (ToClient k.client x))

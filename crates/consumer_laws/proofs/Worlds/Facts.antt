-- What is known of clients' links, of what clients hold and of consumers, told being what is handed out so far.
use Rattle.std.proofs.Common.{◌≡◌, ℕ, ◌<◌, ◌≤◌, true, List, [], ◌∷◌, ◌++◌, length, sym, subst, arith}
use Rattle.std.specs.Prelude.{Option, Some, slice_get, take}
use Rattle.world_laws.proofs.Types.{Entry, Frame, Held, Packet, ClusterRef, Position, SubKind}
use Rattle.world_laws.proofs.Types.frame
use Rattle.geo_base.specs.Broker.{Broker}
use Rattle.geo_base.specs.Client.{Client, id_of}
use Rattle.geo_base.specs.Entry.{is_data}
use Rattle.geo_base.specs.Link.{Link}
use Rattle.geo_base.specs.Offering.{source_of}
use Rattle.geo_base.specs.Safe.{IsEntry}
use Rattle.geo_base.specs.Settled.{IsSettled, SettledSoFar, serves_one}
use Rattle.geo_base.specs.Setup.{Declared, Setup, declared_at}
use Rattle.geo_base.specs.Topic.{index_of}
use Rattle.geo_base.specs.World.{ToClient, World, client_at, link_at, topic_at}
use Rattle.world_laws.proofs.Replicating.Effects.{Each, each_map}
use Rattle.world_laws.proofs.Snapshotting.Grows.{Lengthened}
use Rattle.world_laws.proofs.Snapshotting.Hearing.{grown_get, grown_old}
use Rattle.world_laws.proofs.Merges.LinkTables.{HasLink}
use Rattle.world_laws.proofs.Replicating.Sizes.{IsThere}
use Rattle.world_laws.proofs.Dispatching.SubFrames.{AllSubs}
use Rattle.world_laws.proofs.Telling.Told.{Includes}
use Rattle.consumer_laws.specs.Lines.{IsKindLine}
use Rattle.world_laws.proofs.Clients.ClientLinks.{Packets, SentDown, SentUp}
use Rattle.consumer_laws.proofs.Subscriptions.Plans.{numbers}
use Rattle.consumer_laws.proofs.Subscriptions.WhatIsOut.{Carried, Makes, SubFact}
use Rattle.world_laws.proofs.Clients.Meeting.{MeetsAll}

-- ---- a position whose message is handed out on n, and where one consumer at a time is served, all before it
pub record Reached (told : SettledSoFar) (t : ℕ) (n : List ℕ) (b : Broker) (kind : SubKind) (p : Position) : Type 0 where
  pub index : ℕ
  pub at : index_of b.ledgers p ≡ Some index
  pub within : index < length b.entries
  pub this : (e : Entry) → IsEntry b index e → is_data e.content ≡ true → IsSettled told t n e
  pub before : serves_one kind ≡ true → (j : ℕ) (e : Entry) → j < index → IsEntry b j e → is_data e.content ≡ true → IsSettled told t n e

pub reached_grows : (told more : SettledSoFar) (t : ℕ) (n : List ℕ) (b b' : Broker) (kind : SubKind) (p : Position) → Includes told more → Lengthened b b' → Reached told t n b kind p
    → Reached more t n b' kind p
reached_grows told more t n b b' kind p inc g r = record {
  index = r.index;
  at = g.index p r.index r.at;
  within = let w = r.within in let le = longer in omega (arith, w, le);
  this = λ e at message. inc t n e (r.this e (grown_old b.entries b'.entries b.ledgers b'.ledgers g r.index e r.within at) message);
  before = λ one j e lt at message.
      let w = r.within in inc t n e (r.before one j e lt (grown_old b.entries b'.entries b.ledgers b'.ledgers g j e (omega (arith, w, lt)) at) message);
}
  where
    longer_by : (xs ys : List Entry) → length xs ≤ length (xs ++ ys)
    longer_by [] ys = omega arith
    longer_by (x ∷ xs) ys = let h = longer_by xs ys in omega (arith, h)

    longer : length b.entries ≤ length b'.entries
    longer = subst (λ (es : List Entry). length b.entries ≤ length es) (sym g.is) (longer_by b.entries g.more)

-- ---- what a client sent
abbrev pub UpFact : SettledSoFar → ℕ → Broker → Declared → ℕ → ℕ → Frame → Type 0
UpFact told t b d done session (frame.Subscribe topic n kind id request consumer earliest replicated) = IsKindLine d id n kind × (id < done)
UpFact told t b d done session (frame.Ack id kind ps) = (n : List ℕ) (kd : SubKind) → IsKindLine d id n kd → Each (Reached told t n b kd) ps
UpFact told t b d done session f = Unit {0}

pub up_grows : (told more : SettledSoFar) (t : ℕ) (b b' : Broker) (d : Declared) (done done' session : ℕ) (f : Frame) → Includes told more → Lengthened b b' → done ≤ done'
    → UpFact told t b d done session f → UpFact more t b' d done' session f
up_grows told more t b b' d done done' session (frame.Subscribe topic n kind id request consumer earliest replicated) inc g le h = (h.0, let lt = h.1 in omega (arith, lt, le))
up_grows told more t b b' d done done' session (frame.Ack id kind ps) inc g le h =
    λ n kd line. each_map (Reached told t n b kd) (Reached more t n b' kd) (λ p r. reached_grows told more t n b b' kd p inc g r) ps (h n kd line)
up_grows told more t b b' d done done' session f inc g le h = tt

-- ---- what was sent to it: each message of a packet stands, and what stands before it is handed out or came in an earlier packet
pub data Passed (told : SettledSoFar) (t : ℕ) (n : List ℕ) (before : List Packet) (session id : ℕ) (f : Entry) : Type 0 where
  IsHanded : IsSettled told t n f → Passed told t n before session id f
  Earlier : Carried before session id f → Passed told t n before session id f

pub record Sent (told : SettledSoFar) (t x : ℕ) (b : Broker) (d : Declared) (done : ℕ) (before : List Packet) (session id : ℕ) (p : Position) (source : Option ClusterRef) (e : Entry) : Type 0 where
  pub below : id < done
  pub index : ℕ
  pub at : index_of b.ledgers p ≡ Some index
  pub stands : IsEntry b index e
  pub within : index < length b.entries
  pub from : source ≡ source_of x e
  pub order : (n : List ℕ) (kind : SubKind) → IsKindLine d id n kind → serves_one kind ≡ true → (j : ℕ) (f : Entry) → j < index → IsEntry b j f → is_data f.content ≡ true
      → Passed told t n before session id f

abbrev pub DownFact : SettledSoFar → ℕ → ℕ → Broker → Declared → ℕ → List Packet → ℕ → Frame → Type 0
DownFact told t x b d done before session (frame.Message id p source e) = Sent told t x b d done before session id p source e
DownFact told t x b d done before session f = Unit {0}

pub passed_grows : (told more : SettledSoFar) (t : ℕ) (n : List ℕ) (before : List Packet) (session id : ℕ) (f : Entry) → Includes told more → Passed told t n before session id f
    → Passed more t n before session id f
passed_grows told more t n before session id f inc (Passed.IsHanded h) = Passed.IsHanded (inc t n f h)
passed_grows told more t n before session id f inc (Passed.Earlier c) = Passed.Earlier c

pub down_grows : (told more : SettledSoFar) (t x : ℕ) (b b' : Broker) (d : Declared) (done done' : ℕ) (before : List Packet) (session : ℕ) (f : Frame) → Includes told more → Lengthened b b'
    → done ≤ done' → DownFact told t x b d done before session f → DownFact more t x b' d done' before session f
down_grows told more t x b b' d done done' before session (frame.Message id p source e) inc g le h = record {
  below = let lt = h.below in omega (arith, lt, le);
  index = h.index;
  at = g.index p h.index h.at;
  stands = grown_get b.entries b'.entries b.ledgers b'.ledgers g h.index e h.stands;
  within = let w = h.within in let l = longer in omega (arith, w, l);
  from = h.from;
  order = λ n kind line one j a lt at message.
      let w = h.within in
      passed_grows told more t n before session id a inc (h.order n kind line one j a lt (grown_old b.entries b'.entries b.ledgers b'.ledgers g j a (omega (arith, w, lt)) at) message);
}
  where
    longer_by : (xs ys : List Entry) → length xs ≤ length (xs ++ ys)
    longer_by [] ys = omega arith
    longer_by (y ∷ xs) ys = let h = longer_by xs ys in omega (arith, h)

    longer : length b.entries ≤ length b'.entries
    longer = subst (λ (es : List Entry). length b.entries ≤ length es) (sym g.is) (longer_by b.entries g.more)
down_grows told more t x b b' d done done' before session f inc g le h = tt

-- of each packet, with those before it
abbrev pub AllAfter : (List Packet → ℕ → Frame → Type 0) → List Packet → Type 0
AllAfter F ps = (k : ℕ) (p : Packet) → slice_get ps k ≡ Some p → F (take k ps) p.session p.frame

-- what was taken of the current connection for the sub line in force is handed out
abbrev pub TakenFact : SettledSoFar → ℕ → Declared → Client → ℕ → Frame → Type 0
TakenFact told t d k session (frame.Message id p source e) = session ≡ k.connection → k.sub ≡ Some id → (n : List ℕ) (kind : SubKind) → IsKindLine d id n kind → IsSettled told t n e
TakenFact told t d k session f = Unit {0}

pub taken_grows : (told more : SettledSoFar) (t : ℕ) (d : Declared) (k : Client) (session : ℕ) (f : Frame) → Includes told more → TakenFact told t d k session f → TakenFact more t d k session f
taken_grows told more t d k session (frame.Message id p source e) inc h = λ same sub n kind line. inc t n e (h same sub n kind line)
taken_grows told more t d k session f inc h = tt

-- a link to client k, at cluster x; before are packets that were sent on it
pub record LinkFact (told : SettledSoFar) (t x : ℕ) (b : Broker) (d : Declared) (k : Client) (sent : List Packet) (l : Link) : Type 0 where
  pub extends : (session id : ℕ) (e : Entry) → Carried sent session id e → Carried l.sent session id e
  pub after : AllAfter (DownFact told t x b d k.done) l.sent
  pub whole : l.taken ≤ length l.sent
  pub taken : x ≡ k.cluster → k.connected ≡ true → Packets (TakenFact told t d k) (take l.taken l.sent)

-- ---- what a client keeps

-- all lines that are in force were done
pub record AllDone (k : Client) : Type 0 where
  pub produce : (i : ℕ) → k.produce ≡ Some i → i < k.done
  pub flow : (i : ℕ) → k.flow ≡ Some i → i < k.done
  pub unanswered : Each (λ i. i < k.done) k.unanswered

pub record ClientFact (told : SettledSoFar) (s : Setup) (w : World) (t : ℕ) (d : Declared) (k : Client) : Type 0 where
  pub sub : (id : ℕ) → k.sub ≡ Some id → id < k.done
  pub all : AllDone k
  pub held : k.connected ≡ true → IsThere s t k.cluster
      → Each (λ (h : Held). (n : List ℕ) (kind : SubKind) → IsKindLine d (id_of k.sub) n kind → Reached told t n (topic_at s w t k.cluster) kind h.position) k.held

-- ---- a world

-- who made a consumer, of topic t
abbrev pub MadeBy : Setup → World → ℕ → Makes
MadeBy s w t n kind c id = ((declared_at s c).topic ≡ t) × IsKindLine (declared_at s c) id n kind × (id < (client_at s w c).done)

abbrev pub SubsAt : Setup → World → ℕ → ℕ → Broker → Type 0
SubsAt s w t x b = AllSubs (SubFact (MadeBy s w t) b.entries (numbers b) (λ c. SentDown w.links c x)) b

pub record Hands (s : Setup) (told : SettledSoFar) (w : World) : Type 0 where
  pub meets : (c : ℕ) → MeetsAll s c w
  pub cells : (c x : ℕ) → c < length s.clients → x < length s.clusters → HasLink w.links (ToClient c x)
  pub up : (c x : ℕ) → let d = declared_at s c in IsThere s d.topic x → Packets (UpFact told d.topic (topic_at s w d.topic x) d (client_at s w c).done) (SentUp w.links c x)
  pub down : (c x : ℕ) → let d = declared_at s c in IsThere s d.topic x
      → LinkFact told d.topic x (topic_at s w d.topic x) d (client_at s w c) (SentDown w.links c x) (link_at w.links (ToClient c x))
  pub client : (c : ℕ) → ClientFact told s w (declared_at s c).topic (declared_at s c) (client_at s w c)
  pub subs : (t x : ℕ) → IsThere s t x → SubsAt s w t x (topic_at s w t x)

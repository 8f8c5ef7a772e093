-- Every event of a broker keeps what is known of clients' links, of what clients hold and of consumers, where what is told is handed out.
use Rattle.std.proofs.Common.{◌≡◌, ℕ, ◌<◌, false, List, [], ◌∷◌, length, refl, sym, ap, subst, arith, inl, inr}
use Rattle.std.specs.Prelude.{Option, Some, slice_get, slice_index_or, slice_set}
use Rattle.std.proofs.lemmas.Option.{none-some}
use Rattle.world_laws.proofs.Types.{Consumer, Entry, Held, Out, Packet, Peer, ClusterRef, Position, SubKind}
use Rattle.world_laws.proofs.Types.frame
use Rattle.world_laws.proofs.Types.peer
use Rattle.geo_base.specs.Broker.{Broker, no_broker, sub_named}
use Rattle.geo_base.specs.Client.{Client, id_of}
use Rattle.geo_base.specs.Dispatcher.{consumer_at, least_due, pick}
use Rattle.geo_base.specs.Entry.{key_bytes}
use Rattle.geo_base.specs.Happening.{broker_does}
use Rattle.geo_base.specs.Link.{Link, next_packet}
use Rattle.geo_base.specs.Offering.{source_of}
use Rattle.geo_base.specs.Plan.{Plan, all_written, done}
use Rattle.geo_base.specs.Planned.{Planned}
use Rattle.geo_base.specs.Safe.{IsEntry}
use Rattle.geo_base.specs.Settled.{SettledSoFar}
use Rattle.geo_base.specs.Setup.{Declared, Setup, declared_at}
use Rattle.geo_base.specs.Subscription.{Subscription}
use Rattle.geo_base.specs.Topic.{position_at}
use Rattle.geo_base.specs.World.{Links, ToBroker, ToClient, World, cell, client_at, delivered, from_broker, link_at, node, site, stamped, taken_from, topic_at}
use Rattle.world_laws.proofs.Replicating.Effects.{Each, each_map}
use Rattle.world_laws.proofs.Snapshotting.Grows.{Grown, Lengthened, grown_does}
use Rattle.world_laws.proofs.Snapshotting.Hearing.{Stays, grown_get}
use Rattle.world_laws.proofs.Dispatching.Keeping.{Remembering}
use Rattle.world_laws.proofs.Induction.Layers.{one_topic}
use Rattle.world_laws.proofs.Merges.LinkTables.{HasLink, delivered_has, taken_has}
use Rattle.world_laws.proofs.OnceInOrder.Members.{below_or}
use Rattle.world_laws.proofs.Replicating.PairRoles.{shape_within}
use Rattle.world_laws.proofs.Replicating.Pairs.{past_node}
use Rattle.world_laws.proofs.Merges.PeerWalk.{pick_has}
use Rattle.world_laws.proofs.Dispatching.Recalled.{found_remembers}
use Rattle.world_laws.proofs.Snapshotting.SecondRound.{Knows}
use Rattle.world_laws.proofs.Walks.Shapes.{Shape}
use Rattle.world_laws.proofs.Replicating.Sizes.{IsThere}
use Rattle.world_laws.proofs.Dispatching.SubFrames.{AllSubs, each_at_place, found_is}
use Rattle.world_laws.proofs.Telling.Told.{OnlyTold, ToldNow}
use Rattle.world_laws.proofs.Walks.Walk.{on_if, on_test}
use Rattle.world_laws.proofs.Snapshotting.Answering.{Numbered}
use Rattle.world_laws.proofs.OnceInOrder.Appends.{all_changed_entries}
use Rattle.world_laws.proofs.Counters.Counts.{all_changed_ledgers}
use Rattle.world_laws.proofs.Snapshotting.Making.{writes_stay}
use Rattle.consumer_laws.specs.Lines.{IsKindLine}
use Rattle.world_laws.proofs.Clients.CalmWalk.{Acts, shape_acts}
use Rattle.world_laws.proofs.Clients.ClientLinks.{Packets, SentDown, SentUp, does_up}
use Rattle.world_laws.proofs.Clients.Consumers.{IsCalmOut}
use Rattle.consumer_laws.proofs.Worlds.Growing.{MayGive, client_there, gives_sent, link_grows, link_same, one_carried, picked_made, same_told}
use Rattle.consumer_laws.proofs.Links.Sending.{NotDown, Pushes, calm_pushes, delivered_cell, link_push, not_down, shape_not_down}
use Rattle.consumer_laws.proofs.Worlds.Facts.{ClientFact, DownFact, Hands, LinkFact, MadeBy, Reached, Sent, SubsAt, UpFact, reached_grows, up_grows}
use Rattle.consumer_laws.proofs.Subscriptions.Plans.{numbers, same_numbers}
use Rattle.consumer_laws.proofs.Subscriptions.Shapes.{GivesSent, Joins, shape_heads}
use Rattle.consumer_laws.proofs.Subscriptions.WhatIsOut.{Carried, Grows, SameNumbers, SubFact, carried_more, each_two, fact_grows}
use Rattle.world_laws.proofs.Clients.Meeting.{does_meets}

-- what is known before an event
pub record Around (s : Setup) (told : SettledSoFar) (w : World) : Type 0 where
  pub hands : Hands s told w
  pub now : ToldNow s told w
  pub remembers : Remembering w

-- a topic that is not there has no subscription
pub sub_there : (s : Setup) (w : World) (t x : ℕ) (n : List ℕ) (v : Subscription) → Knows s w → sub_named (topic_at s w t x).subs n ≡ Some v → t < length s.topics
sub_there s w t x n v k named =
    elim (below_or t (length s.topics)) [
      | inl lt ↦ lt
      | inr le ↦ absurd (none-some v (subst (λ (b : Broker). sub_named b.subs n ≡ Some v) (past_node s w.brokers t x k.size le) named))
    ]

-- what the broker knows when it gives
pub may_give : (s : Setup) (told : SettledSoFar) (w : World) (t x : ℕ) (n : List ℕ) (v : Subscription) (i at : ℕ) (e : Entry) → Around s told w → IsThere s t x
    → sub_named (topic_at s w t x).subs n ≡ Some v → least_due v (length (topic_at s w t x).entries) ≡ Some i → IsEntry (topic_at s w t x) i e
    → pick v.kind v.consumers (key_bytes e.meta.key) ≡ Some at → MayGive s told w t x (topic_at s w t x) v i at e
may_give s told w t x n v i at e a there named due stands picked =
    let b = topic_at s w t x in record {
      only = (found_is (OnlyTold told t b.entries) _ b.subs v named (a.now.kept t x there).only).0;
      remembers = found_remembers b n v named (a.remembers (node s t x));
      fact = (found_is (SubFact (MadeBy s w t) b.entries (numbers b) (λ c. SentDown w.links c x)) _ b.subs v named (a.hands.subs t x there)).0;
      numbered = (a.now.knows.answers t x there).numbered;
      due = due;
      stands = stands;
      picked = picked;
    }

-- ---- the links to clients

abbrev FactOf : Setup → SettledSoFar → World → ℕ → ℕ → Link → Type 0
FactOf s told w c x l = let d = declared_at s c in LinkFact told d.topic x (topic_at s w d.topic x) d (client_at s w c) (SentDown w.links c x) l

-- the packet of what is given
given_push : (s : Setup) (told : SettledSoFar) (w : World) (t y c x stamp : ℕ) (n : List ℕ) (v : Subscription) (i at : ℕ) (e : Entry) (l : Link) → Around s told w → y < length s.clusters
    → sub_named (topic_at s w t y).subs n ≡ Some v → least_due v (length (topic_at s w t y).entries) ≡ Some i → IsEntry (topic_at s w t y) i e
    → pick v.kind v.consumers (key_bytes e.meta.key) ≡ Some at → (consumer_at v.consumers at).client ≡ c → y ≡ x → FactOf s told w c x l
    → let k = consumer_at v.consumers at in let d = declared_at s c in
    DownFact told d.topic x (topic_at s w d.topic x) d (client_at s w c).done l.sent (numbers (topic_at s w t y) k.client) (frame.Message k.id (position_at (topic_at s w t y).ledgers i) (source_of y e) e)
given_push s told w t y c x stamp n v i at e l a lt named due stands picked mine here f =
    subst (λ (z : ℕ). let d = declared_at s c in Sent told d.topic z (topic_at s w d.topic z) d (client_at s w c).done l.sent num k.id pos src e) here
    (subst (λ (z : ℕ). let d = declared_at s z in Sent told d.topic y (topic_at s w d.topic y) d (client_at s w z).done l.sent num k.id pos src e) mine
    (subst (λ (u : ℕ). Sent told u y (topic_at s w u y) (declared_at s k.client) (client_at s w k.client).done l.sent num k.id pos src e) (sym made.0)
    (gives_sent s told w t y b v i at e l.sent m
    (λ session id g c'. f.extends session id g
    (subst (λ (z : ℕ). Carried (SentDown w.links c z) session id g) here (subst (λ (z : ℕ). Carried (SentDown w.links z y) session id g) mine c'))))))
  where
    b : Broker
    b = topic_at s w t y

    k : Consumer
    k = consumer_at v.consumers at

    num : ℕ
    num = numbers b k.client

    pos : Position
    pos = position_at b.ledgers i

    src : Option ClusterRef
    src = source_of y e

    m : MayGive s told w t y b v i at e
    m = may_give s told w t y n v i at e a (sub_there s w t y n v a.now.knows named, lt) named due stands picked

    made : MadeBy s w t v.name v.kind k.client k.id
    made = picked_made (MadeBy s w t) b.entries (numbers b) (λ z. SentDown w.links z y) v at (pick_has v.kind v.consumers (key_bytes e.meta.key) at picked) m.fact

acts_push : (s : Setup) (told : SettledSoFar) (w : World) (t y c x stamp m : ℕ) (p : Plan) → Around s told w → y < length s.clusters → Acts t c m (declared_at s c) (site s t y) (topic_at s w t y) p
    → Each (λ (o : Out). Pushes c x y (FactOf s told w c x) stamp o o.to) p.sent
acts_push s told w t y c x stamp m p a lt (Acts.Calmly q calm) =
    let d = declared_at s c in
    each_map (IsCalmOut c m) (λ (o : Out). Pushes c x y (FactOf s told w c x) stamp o o.to)
    (λ o out. calm_pushes told d.topic y c m x stamp (topic_at s w d.topic x) d (client_at s w c) (SentDown w.links c x) o o.to out) q.sent calm.sent
acts_push s told w t y c x stamp m p a lt (Acts.Giving n v i at e named least lacks stands picked) =
    let d = declared_at s c in (
      (λ mine here l f. link_push told d.topic x (topic_at s w d.topic x) d (client_at s w c) (SentDown w.links c x) l _ f
          (given_push s told w t y c x stamp n v i at e l a lt named least stands picked mine here f)),
      tt,
    )

-- ---- an event that is done

-- the links after it
abbrev pub DoneLinks : Setup → World → Planned → ℕ → Links
DoneLinks s w p stamp = taken_from p.takes (delivered (from_broker s p.topic p.cluster) stamp p.plan.sent w.links)

link_done : (s : Setup) (told : SettledSoFar) (w : World) (p : Planned) (stamp c x : ℕ) → Shape s w p → p.plan.idle ≡ false → Around s told w → IsThere s (declared_at s c).topic x
    → FactOf s told w c x (link_at (DoneLinks s w p stamp) (ToClient c x))
link_done s told w p stamp c x shape busy a there =
    subst (λ (m : List (List Link)). FactOf s told w c x (cell m c x)) (sym (not_down p.takes (delivered (from_broker s p.topic p.cluster) stamp p.plan.sent w.links) (shape_not_down s w p shape busy)))
    (delivered_cell s p.topic p.cluster stamp c x (FactOf s told w c x) p.plan.sent w.links
    (acts_push s told w p.topic p.cluster c x stamp (client_at s w c).connection p.plan a (shape_within s w p shape)
    (shape_acts s w c (client_at s w c).connection p (a.hands.meets c).up shape)) (a.hands.down c x there))

-- whatever was sent stays sent
any_pushes : (c x y stamp session id : ℕ) (e : Entry) (os : List Out) → Each (λ (o : Out). Pushes c x y (λ (l : Link). Carried l.sent session id e) stamp o o.to) os
any_pushes c x y stamp session id e [] = tt
any_pushes c x y stamp session id e (o ∷ os) = (by o.to, any_pushes c x y stamp session id e os)
  where
    by : (q : Peer) → Pushes c x y (λ (l : Link). Carried l.sent session id e) stamp o q
    by (peer.Client z) = λ e1 e2 l h. carried_more l.sent (stamped stamp o ∷ []) session id e h
    by (peer.Forward z) = tt
    by (peer.Back z) = tt
    by (peer.Broker z) = tt

pub sent_stays : (s : Setup) (w : World) (p : Planned) (stamp c x session id : ℕ) (e : Entry) → NotDown p.takes → Carried (SentDown w.links c x) session id e
    → Carried (SentDown (DoneLinks s w p stamp) c x) session id e
sent_stays s w p stamp c x session id e off h =
    subst (λ (m : List (List Link)). Carried (cell m c x).sent session id e) (sym (not_down p.takes (delivered (from_broker s p.topic p.cluster) stamp p.plan.sent w.links) off))
    (delivered_cell s p.topic p.cluster stamp c x (λ (l : Link). Carried l.sent session id e) p.plan.sent w.links (any_pushes c x p.cluster stamp session id e p.plan.sent) h)

-- ---- consumers

same_grows : (s : Setup) (w : World) (t : ℕ) (es es' : List Entry) (num num' : ℕ → ℕ) (sent sent' : ℕ → List Packet) → ((i : ℕ) (e : Entry) → slice_get es i ≡ Some e → slice_get es' i ≡ Some e)
    → ((c session id : ℕ) (e : Entry) → Carried (sent c) session id e → Carried (sent' c) session id e) → Grows (MadeBy s w t) (MadeBy s w t) es es' num num' sent sent'
same_grows s w t es es' num num' sent sent' es_grow sent_grow = record { made = λ n kind c id m. m; entries = es_grow; packets = λ c session id e h. sent_grow c session id e h }

pub subs_grow : (s : Setup) (w : World) (t : ℕ) (es es' : List Entry) (num num' : ℕ → ℕ) (sent sent' : ℕ → List Packet) (vs : List Subscription) → ((i : ℕ) (e : Entry) → slice_get es i ≡ Some e → slice_get es' i ≡ Some e)
    → ((c session id : ℕ) (e : Entry) → Carried (sent c) session id e → Carried (sent' c) session id e) → Each (SameNumbers num num') vs → Each (SubFact (MadeBy s w t) es num sent) vs
    → Each (SubFact (MadeBy s w t) es' num' sent') vs
subs_grow s w t es es' num num' sent sent' vs es_grow sent_grow same h =
    each_two (SubFact (MadeBy s w t) es num sent) (SameNumbers num num') (SubFact (MadeBy s w t) es' num' sent')
    (λ v f e. fact_grows (MadeBy s w t) (MadeBy s w t) es es' num num' sent sent' (same_grows s w t es es' num num' sent sent' es_grow sent_grow) v e f) vs h same

-- who subscribes was made so
pub up_joins : (s : Setup) (told : SettledSoFar) (w : World) (t y : ℕ) → Hands s told w → IsThere s t y → (x c : ℕ) (q : Packet) → t ≡ (declared_at s c).topic → y ≡ x
    → next_packet (link_at w.links (ToBroker c x)) ≡ Some q → Joins (MadeBy s w t) c q
up_joins s told w t y h there x c q topic here next name n kind id request consumer earliest replicated is =
    let d = declared_at s c in let k = client_at s w c in
    let there' : IsThere s d.topic x = (subst (λ (u : ℕ). u < length s.topics) topic there.0, subst (λ (z : ℕ). z < length s.clusters) here there.1) in
    let fact = each_at_place (λ (p : Packet). UpFact told d.topic (topic_at s w d.topic x) d k.done p.session p.frame) (SentUp w.links c x) (link_at w.links (ToBroker c x)).taken q (h.up c x there') next in
    let made = subst (UpFact told d.topic (topic_at s w d.topic x) d k.done q.session) is fact in (sym topic, made.0, made.1)

-- what is given was sent
pub gives_there : (s : Setup) (told : SettledSoFar) (w : World) (p : Planned) (stamp : ℕ) → Around s told w → NotDown p.takes → IsThere s p.topic p.cluster
    → GivesSent (topic_at s w p.topic p.cluster).entries (λ c. SentDown (DoneLinks s w p stamp) c p.cluster) (site s p.topic p.cluster) (topic_at s w p.topic p.cluster) p.plan
gives_there s told w p stamp a off there n v i at e due picked is =
    let b = topic_at s w p.topic p.cluster in let k = consumer_at v.consumers at in let h = site s p.topic p.cluster in
    let m = may_give s told w p.topic p.cluster n v i at e a there due.0 due.1 due.2 picked in
    let made = picked_made (MadeBy s w p.topic) b.entries (numbers b) (λ z. SentDown w.links z p.cluster) v at (pick_has v.kind v.consumers (key_bytes e.meta.key) at picked) m.fact in
    let has = a.hands.cells k.client p.cluster (client_there s k.client k.id v.name v.kind made.1) there.1 in
    record {
      entry = e;
      stands = due.2;
      carried = subst (λ (z : List (List Link)). Carried (cell z k.client p.cluster).sent (numbers b k.client) k.id e) (sym (not_down p.takes (delivered (from_broker s p.topic p.cluster) stamp p.plan.sent w.links) off))
          (subst (λ (os : List Out). Carried (SentDown (delivered (from_broker s p.topic p.cluster) stamp os w.links) k.client p.cluster) (numbers b k.client) k.id e) (sym (ap (λ (q : Plan). q.sent) is))
          (one_carried s p.topic p.cluster stamp i h b e k w.links refl has));
    }

pub done_lengthens : (per : ℕ) (b : Broker) (p : Plan) → Numbered b.entries b.ledgers → Lengthened b (done per b p)
done_lengthens per b p numbered =
    let c = all_written per b p.writes in let d = done per b p in
    subst (λ (ls : List ℕ). Stays b.entries d.entries b.ledgers ls) (sym (all_changed_ledgers c p.changes))
    (subst (λ (es : List Entry). Stays b.entries es b.ledgers c.ledgers) (sym (all_changed_entries c p.changes)) (writes_stay per b p.writes numbered))

-- of topic t at x, whose broker is c
abbrev pub SubsOver : Setup → World → Links → ℕ → ℕ → Broker → Type 0
SubsOver s w ls t x c = AllSubs (SubFact (MadeBy s w t) c.entries (numbers c) (λ z. SentDown ls z x)) c

node_subs : (s : Setup) (told : SettledSoFar) (w : World) (p : Planned) (stamp : ℕ) → Shape s w p → p.plan.idle ≡ false → Around s told w → IsThere s p.topic p.cluster
    → SubsOver s w (DoneLinks s w p stamp) p.topic p.cluster (done s.per_ledger (topic_at s w p.topic p.cluster) p.plan)
node_subs s told w p stamp shape busy a there =
    let b = topic_at s w p.topic p.cluster in let b' = done s.per_ledger b p.plan in
    let off = shape_not_down s w p shape busy in
    let old : ℕ → List Packet = λ z. SentDown w.links z p.cluster in
    let new : ℕ → List Packet = λ z. SentDown (DoneLinks s w p stamp) z p.cluster in
    let g = done_lengthens s.per_ledger b p.plan (a.now.knows.answers p.topic p.cluster there).numbered in
    let before = subs_grow s w p.topic b.entries b.entries (numbers b) (numbers b) old new b.subs (λ i e at. at) (λ c session id e h. sent_stays s w p stamp c p.cluster session id e off h)
    (same_numbers (numbers b) (numbers b) (λ c. refl) b.subs) (a.hands.subs p.topic p.cluster there) in
    let heads = shape_heads (MadeBy s w p.topic) b.entries new s w p shape (up_joins s told w p.topic p.cluster a.hands there) (gives_there s told w p stamp a off there)
    (a.remembers (node s p.topic p.cluster)).apart before in
    subs_grow s w p.topic b.entries b'.entries (numbers b) (numbers b') new new b'.subs (λ i e at. grown_get b.entries b'.entries b.ledgers b'.ledgers g i e at) (λ c session id e h. h)
    heads.numbers_same heads.facts

does_subs : (s : Setup) (told : SettledSoFar) (w : World) (p : Planned) (stamp : ℕ) → Shape s w p → p.plan.idle ≡ false → Around s told w → (u v : ℕ) → IsThere s u v
    → SubsOver s w (DoneLinks s w p stamp) u v
    (slice_index_or (slice_set w.brokers (node s p.topic p.cluster) (done s.per_ledger (topic_at s w p.topic p.cluster) p.plan)) (node s u v) no_broker)
does_subs s told w p stamp shape busy a u v there =
    let b = topic_at s w p.topic p.cluster in let off = shape_not_down s w p shape busy in
    one_topic s (SubsOver s w (DoneLinks s w p stamp)) w p.topic p.cluster (done s.per_ledger b p.plan) (shape_within s w p shape)
    (λ here. node_subs s told w p stamp shape busy a here)
    (λ y z here.
    let c = topic_at s w y z in
    subs_grow s w y c.entries c.entries (numbers c) (numbers c) (λ i. SentDown w.links i z) (λ i. SentDown (DoneLinks s w p stamp) i z) c.subs (λ i e at. at)
    (λ i session id e h. sent_stays s w p stamp i z session id e off h) (same_numbers (numbers c) (numbers c) (λ i. refl) c.subs) (a.hands.subs y z here)) u v there

-- ---- the event

pub client_grows : (s : Setup) (told : SettledSoFar) (w w' : World) (t : ℕ) (d : Declared) (k : Client) → Grown s w w' → ClientFact told s w t d k → ClientFact told s w' t d k
client_grows s told w w' t d k g h = record {
  sub = h.sub;
  all = h.all;
  held = λ on there.
      each_map (λ (x : Held). (n : List ℕ) (kind : SubKind) → IsKindLine d (id_of k.sub) n kind → Reached told t n (topic_at s w t k.cluster) kind x.position)
      (λ (x : Held). (n : List ℕ) (kind : SubKind) → IsKindLine d (id_of k.sub) n kind → Reached told t n (topic_at s w' t k.cluster) kind x.position)
      (λ x m n kind line. reached_grows told told t n (topic_at s w t k.cluster) (topic_at s w' t k.cluster) kind x.position (same_told told) (g t k.cluster there) (m n kind line)) k.held (h.held on there);
}

pub ups_grow : (told : SettledSoFar) (t : ℕ) (b b' : Broker) (done : ℕ) (d : Declared) (ps : List Packet) → Lengthened b b' → Packets (UpFact told t b d done) ps → Packets (UpFact told t b' d done) ps
ups_grow told t b b' done d ps g h =
    each_map (λ (p : Packet). UpFact told t b d done p.session p.frame) (λ (p : Packet). UpFact told t b' d done p.session p.frame)
    (λ p f. up_grows told told t b b' d done done p.session p.frame (same_told told) g (omega arith) f) ps h

pub hands_does : (s : Setup) (told : SettledSoFar) (w : World) (p : Planned) → Shape s w p → Around s told w → Hands s told (broker_does s w p)
unfolding broker_does
hands_does s told w p shape a = record {
  meets = λ c. does_meets s c w p shape (h.meets c);
  cells = λ c x lt lt'.
      on_if (λ (w' : World). HasLink w'.links (ToClient c x)) p.plan.idle _ _ (h.cells c x lt lt')
      (taken_has p.takes _ (ToClient c x) (delivered_has (from_broker s p.topic p.cluster) _ p.plan.sent w.links (ToClient c x) (h.cells c x lt lt')));
  up = λ c x there.
      let d = declared_at s c in let k = client_at s w c in
      on_if (λ (w' : World). Grown s w w' → Packets (UpFact told d.topic (topic_at s w' d.topic x) d (client_at s w' c).done) (SentUp w'.links c x)) p.plan.idle _ _ (λ g. h.up c x there)
      (λ g. subst (Packets (UpFact told d.topic _ d k.done)) (sym (does_up s p.topic p.cluster _ c x p.takes p.plan.sent w.links))
      (ups_grow told d.topic (topic_at s w d.topic x) _ k.done d (SentUp w.links c x) (g d.topic x there) (h.up c x there))) grown;
  down = λ c x there.
      let d = declared_at s c in let k = client_at s w c in
      on_test (λ (w' : World). Grown s w w' → LinkFact told d.topic x (topic_at s w' d.topic x) d (client_at s w' c) (SentDown w'.links c x) (link_at w'.links (ToClient c x))) p.plan.idle _ _
      (λ idle g. h.down c x there)
      (λ busy g. link_same told d.topic x _ d k (SentDown w.links c x) _
      (link_grows told told d.topic x (topic_at s w d.topic x) _ d k (SentDown w.links c x) _ (same_told told) (g d.topic x there) (link_done s told w p _ c x shape busy a there))) grown;
  client = λ c.
      let d = declared_at s c in
      on_if (λ (w' : World). Grown s w w' → ClientFact told s w' d.topic d (client_at s w' c)) p.plan.idle _ _ (λ g. client_grows s told w _ d.topic d (client_at s w c) g (h.client c))
      (λ g. client_grows s told w _ d.topic d (client_at s w c) g (h.client c)) grown;
  subs = λ t x there.
      on_test (λ (w' : World). SubsAt s w' t x (topic_at s w' t x)) p.plan.idle _ _ (λ idle. h.subs t x there) (λ busy. does_subs s told w p _ shape busy a t x there);
}
  where
    h : Hands s told w
    h = a.hands

    grown : Grown s w (broker_does s w p)
    grown = grown_does s w p shape a.now.knows.answers

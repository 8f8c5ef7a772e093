-- A stop inside an event, a stop of everything, and the opening world: what is known of links, clients and consumers.
use Rattle.std.proofs.Common.{◌≡◌, ℕ, zero, suc, ◌*◌, ◌<◌, false, List, [], ◌∷◌, ◌++◌, length, map, refl, sym, ap, subst, ◌∙◌, arith}
use Rattle.std.specs.Prelude.{replicate, slice_index_or, slice_set, take}
use Rattle.std.proofs.lemmas.Bool.{false≢true}
use Rattle.std.proofs.lemmas.List.{get_or-replicate, length-replicate}
use Rattle.std.proofs.lemmas.Option.{none-some}
use Rattle.world_laws.proofs.Types.{Entry, Packet}
use Rattle.world_laws.proofs.Types.write
use Rattle.geo_base.specs.Broker.{Broker, new_broker, no_broker, written}
use Rattle.geo_base.specs.Client.{Client, new_client, unconnected}
use Rattle.geo_base.specs.Happening.{all_discarded, broker_halts, stops}
use Rattle.geo_base.specs.Link.{Link, discarded, no_link}
use Rattle.geo_base.specs.Plan.{all_written, done, halted}
use Rattle.geo_base.specs.Planned.{Planned}
use Rattle.geo_base.specs.Seeking.{restart}
use Rattle.geo_base.specs.Settled.{SettledSoFar}
use Rattle.geo_base.specs.Setup.{Declared, Setup, declared_at}
use Rattle.geo_base.specs.World.{Links, ToClient, World, cell, client_at, link_at, node, opening_world, table, taken_from, topic_at}
use Rattle.world_laws.proofs.Counters.Bounds.{table_has}
use Rattle.world_laws.proofs.Replicating.Effects.{Each}
use Rattle.world_laws.proofs.Induction.Frames.{at_copies}
use Rattle.world_laws.proofs.Snapshotting.Grows.{Grown, grown_halts, grown_stops}
use Rattle.world_laws.proofs.Induction.Layers.{one_topic}
use Rattle.world_laws.proofs.Replicating.LinkFrames.{HasCell}
use Rattle.world_laws.proofs.Merges.LinkTables.{taken_has}
use Rattle.world_laws.proofs.Replicating.PairRoles.{shape_within}
use Rattle.world_laws.proofs.Walks.Shapes.{Shape}
use Rattle.world_laws.proofs.Replicating.Sizes.{IsThere, Sized, discarded_has}
use Rattle.world_laws.proofs.Dispatching.SubFrames.{forgotten_subs}
use Rattle.world_laws.proofs.Clients.ClientLinks.{Packets, SentDown, SentUp, halts_down, halts_up, none_up, stops_up}
use Rattle.consumer_laws.proofs.Worlds.Growing.{link_grows, link_same, same_told}
use Rattle.consumer_laws.proofs.Worlds.BrokerEvents.{Around, SubsOver, client_grows, subs_grow, ups_grow}
use Rattle.consumer_laws.proofs.Links.Sending.{shape_takes_none, taken_cell}
use Rattle.consumer_laws.proofs.Worlds.Facts.{ClientFact, DownFact, Hands, LinkFact, MadeBy, UpFact}
use Rattle.consumer_laws.proofs.Subscriptions.Plans.{numbers, same_numbers}
use Rattle.consumer_laws.proofs.Subscriptions.WhatIsOut.{Carried, SubFact, cleared_fact}
use Rattle.world_laws.proofs.Clients.Meeting.{halts_meets, opening_meets, stop_meets}

-- ---- a stop inside an event

halted_subs : (s : Setup) (told : SettledSoFar) (w : World) (m : ℕ) (p : Planned) → Shape s w p → Around s told w → (u v : ℕ) → IsThere s u v
    → SubsOver s w (taken_from p.takes w.links) u v
    (slice_index_or (slice_set w.brokers (node s p.topic p.cluster) (halted s.per_ledger (topic_at s w p.topic p.cluster) m p.plan)) (node s u v) no_broker)
halted_subs s told w m p shape a u v there =
    let b = topic_at s w p.topic p.cluster in
    one_topic s (SubsOver s w (taken_from p.takes w.links)) w p.topic p.cluster (halted s.per_ledger b m p.plan) (shape_within s w p shape)
    (λ here.
    let c = halted s.per_ledger b m p.plan in let sent : ℕ → List Packet = λ z. SentDown (taken_from p.takes w.links) z p.cluster in
    forgotten_subs (SubFact (MadeBy s w p.topic) c.entries (numbers c) sent) (all_written s.per_ledger b (take m p.plan.writes ++ write.Ledger ∷ []))
    (λ x. cleared_fact (MadeBy s w p.topic) c.entries (numbers c) sent x))
    (λ y z here.
    let c = topic_at s w y z in
    subs_grow s w y c.entries c.entries (numbers c) (numbers c) (λ i. SentDown w.links i z) (λ i. SentDown (taken_from p.takes w.links) i z) c.subs (λ i e at. at)
    (λ i session id e h. subst (λ (ps : List Packet). Carried ps session id e) (sym (halts_down i z p.takes w.links)) h) (same_numbers (numbers c) (numbers c) (λ i. refl) c.subs) (a.hands.subs y z here)) u v there

pub hands_halts : (s : Setup) (told : SettledSoFar) (w : World) (m : ℕ) (p : Planned) → Shape s w p → Around s told w → Hands s told (broker_halts s w m p)
unfolding broker_halts
hands_halts s told w m p shape a = record {
  meets = λ c. halts_meets s c w m p shape (h.meets c);
  cells = λ c x lt lt'. taken_has p.takes w.links (ToClient c x) (h.cells c x lt lt');
  up = λ c x there.
      let d = declared_at s c in let k = client_at s w c in
      subst (Packets (UpFact told d.topic _ d k.done)) (sym (halts_up c x p.takes w.links)) (ups_grow told d.topic (topic_at s w d.topic x) _ k.done d (SentUp w.links c x) (grown d.topic x there) (h.up c x there));
  down = λ c x there.
      let d = declared_at s c in let k = client_at s w c in
      link_same told d.topic x _ d k (SentDown w.links c x) _
      (link_grows told told d.topic x (topic_at s w d.topic x) _ d k (SentDown w.links c x) _ (same_told told) (grown d.topic x there)
      (taken_cell told d.topic c x (topic_at s w d.topic x) d k (SentDown w.links c x) w p.takes (shape_takes_none s w p shape) (h.down c x there)));
  client = λ c. let d = declared_at s c in client_grows s told w _ d.topic d (client_at s w c) grown (h.client c);
  subs = λ t x there. halted_subs s told w m p shape a t x there;
}
  where
    h : Hands s told w
    h = a.hands

    grown : Grown s w (broker_halts s w m p)
    grown = grown_halts s w m p shape a.now.knows.answers

-- ---- a stop of everything

-- what it leaves of a client
record Off (k j : Client) : Type 0 where
  done : j.done ≡ k.done
  sub : j.sub ≡ k.sub
  produce : j.produce ≡ k.produce
  flow : j.flow ≡ k.flow
  unanswered : j.unanswered ≡ k.unanswered
  off : j.connected ≡ false

off_at : (ks : List Client) (c : ℕ) (d : Declared) → Off (slice_index_or ks c (new_client d)) (slice_index_or (map unconnected ks) c (new_client d))
off_at [] c d = record { done = refl; sub = refl; produce = refl; flow = refl; unanswered = refl; off = refl }
off_at (k ∷ ks) zero d = record { done = refl; sub = refl; produce = refl; flow = refl; unanswered = refl; off = refl }
off_at (k ∷ ks) (suc c) d = off_at ks c d

off_client : (s : Setup) (told : SettledSoFar) (w w' : World) (t : ℕ) (d : Declared) (k j : Client) → Off k j → ClientFact told s w t d k → ClientFact told s w' t d j
off_client s told w w' t d k j o h = record {
  sub = λ id is. let lt = h.sub id (sym o.sub ∙ is) in let e = o.done in omega (arith, lt, e);
  all = record {
    produce = λ i is. let lt = h.all.produce i (sym o.produce ∙ is) in let e = o.done in omega (arith, lt, e);
    flow = λ i is. let lt = h.all.flow i (sym o.flow ∙ is) in let e = o.done in omega (arith, lt, e);
    unanswered = subst (λ (is : List ℕ). Each (λ i. i < j.done) is) (sym o.unanswered) (subst (λ (m : ℕ). Each (λ i. i < m) k.unanswered) (sym o.done) h.all.unanswered);
  };
  held = λ on there. absurd (false≢true (sym o.off ∙ on));
}

-- a link without packets
none_carried : {X : Type 0} (session id : ℕ) (e : Entry) → Carried [] session id e → X
none_carried session id e c = absurd (none-some c.packet c.at)

empty_link : (told : SettledSoFar) (t x : ℕ) (b : Broker) (d : Declared) (k : Client) → LinkFact told t x b d k [] no_link
empty_link told t x b d k = record { extends = λ session id e c. none_carried session id e c; after = λ i p at. absurd (none-some p at); whole = omega arith; taken = λ here on. tt }

off_link : (told : SettledSoFar) (t x : ℕ) (b : Broker) (d : Declared) (k j : Client) (sent : List Packet) (l : Link) → Off k j → LinkFact told t x b d k sent l → LinkFact told t x b d j [] (discarded l)
off_link told t x b d k j sent l o h = record {
  extends = λ session id e c. none_carried session id e c;
  after = λ i p at. subst (λ (m : ℕ). DownFact told t x b d m (take i l.sent) p.session p.frame) (sym o.done) (h.after i p at);
  whole = omega arith;
  taken = λ here on. absurd (false≢true (sym o.off ∙ on));
}

cell_discarded : (P Q : Link → Type 0) → Q no_link → ((l : Link) → P l → Q (discarded l)) → (m : List (List Link)) (i j : ℕ) → P (cell m i j) → Q (cell (all_discarded m) i j)
cell_discarded P Q none f [] i j h = none
cell_discarded P Q none f (r ∷ m) zero j h = row r j h
  where
    row : (r : List Link) (j : ℕ) → P (slice_index_or r j no_link) → Q (slice_index_or (map discarded r) j no_link)
    row [] j h = none
    row (l ∷ r) zero h = f l h
    row (l ∷ r) (suc j) h = row r j h
cell_discarded P Q none f (r ∷ m) (suc i) j h = cell_discarded P Q none f m i j h

stopped_subs : (s : Setup) (w w' : World) (ls : Links) (t x n : ℕ) (bs : List Broker) → SubsOver s w' ls t x (slice_index_or (map (λ (b : Broker). done s.per_ledger b restart) bs) n no_broker)
unfolding restart
stopped_subs s w w' ls t x n [] = tt
stopped_subs s w w' ls t x zero (b ∷ bs) =
    forgotten_subs (SubFact (MadeBy s w' t) _ _ (λ z. SentDown ls z x)) (written s.per_ledger b write.Ledger) (λ v. cleared_fact (MadeBy s w' t) _ _ _ v)
stopped_subs s w w' ls t x (suc n) (b ∷ bs) = stopped_subs s w w' ls t x n bs

pub hands_stops : (s : Setup) (told : SettledSoFar) (w : World) → Sized s w → Around s told w → Hands s told (stops s w)
unfolding stops
hands_stops s told w z a = record {
  meets = λ c. stop_meets s c w (h.meets c);
  cells = λ c x lt lt'. discarded_has w.links.to_client c x (h.cells c x lt lt');
  up = λ c x there.
      let d = declared_at s c in let k = client_at s w c in
      let b' = topic_at s (stops s w) d.topic x in let j = client_at s (stops s w) c in
      subst (Packets (UpFact told d.topic b' d j.done)) (sym (stops_up s w c x))
      (subst (λ (m : ℕ). Packets (UpFact told d.topic b' d m) (SentUp w.links c x)) (sym (off_at w.clients c d).done)
      (ups_grow told d.topic (topic_at s w d.topic x) b' k.done d (SentUp w.links c x) (grown d.topic x there) (h.up c x there)));
  down = λ c x there.
      let d = declared_at s c in let k = client_at s w c in
      let b' = topic_at s (stops s w) d.topic x in let j = client_at s (stops s w) c in let l = link_at (stops s w).links (ToClient c x) in
      link_same told d.topic x b' d j [] l
      (link_grows told told d.topic x (topic_at s w d.topic x) b' d j [] l (same_told told) (grown d.topic x there)
      (cell_discarded (LinkFact told d.topic x (topic_at s w d.topic x) d k (SentDown w.links c x)) (LinkFact told d.topic x (topic_at s w d.topic x) d j []) (empty_link told d.topic x (topic_at s w d.topic x) d j)
      (λ l f. off_link told d.topic x (topic_at s w d.topic x) d k j (SentDown w.links c x) l (off_at w.clients c d) f) w.links.to_client c x (h.down c x there)));
  client = λ c. let d = declared_at s c in off_client s told w (stops s w) d.topic d (client_at s w c) (client_at s (stops s w) c) (off_at w.clients c d) (h.client c);
  subs = λ t x there. stopped_subs s w (stops s w) (stops s w).links t x (node s t x) w.brokers;
}
  where
    h : Hands s told w
    h = a.hands

    grown : Grown s w (stops s w)
    grown = grown_stops s w z a.now.knows.answers

-- ---- the opening world

has_cell : (rows columns i j : ℕ) → i < rows → j < columns → HasCell (table rows columns) i j
has_cell rows columns i j lt lt' = record {
  row = let e = length-replicate rows (replicate columns no_link) in omega (arith, e, lt);
  column =
      let row = get_or-replicate rows i (replicate columns no_link) [] lt in
      let e = ap (λ (ls : List Link). length ls) row ∙ length-replicate columns no_link in
      omega (arith, e, lt');
}

new_fact : (s : Setup) (told : SettledSoFar) (w : World) (t : ℕ) (d e : Declared) → ClientFact told s w t d (new_client e)
new_fact s told w t d e = record {
  sub = λ id is. absurd (none-some id is);
  all = record { produce = λ i is. absurd (none-some i is); flow = λ i is. absurd (none-some i is); unanswered = tt };
  held = λ on there. tt;
}

new_at : (s : Setup) (told : SettledSoFar) (w : World) (t : ℕ) (d e : Declared) (ds : List Declared) (c : ℕ) → ClientFact told s w t d (slice_index_or (map new_client ds) c (new_client e))
new_at s told w t d e [] c = new_fact s told w t d e
new_at s told w t d e (x ∷ ds) zero = new_fact s told w t d x
new_at s told w t d e (x ∷ ds) (suc c) = new_at s told w t d e ds c

pub hands_opening : (s : Setup) (told : SettledSoFar) → Hands s told (opening_world s)
hands_opening s told = record {
  meets = λ c. opening_meets s c;
  cells = λ c x lt lt'. has_cell (length s.clients) (length s.clusters) c x lt lt';
  up = λ c x there. let d = declared_at s c in none_up s c x (UpFact told d.topic (topic_at s (opening_world s) d.topic x) d (client_at s (opening_world s) c).done);
  down = λ c x there.
      let d = declared_at s c in
      let b = topic_at s (opening_world s) d.topic x in let k = client_at s (opening_world s) c in
      link_same told d.topic x b d k [] (link_at (opening_world s).links (ToClient c x))
      (table_has (LinkFact told d.topic x (topic_at s (opening_world s) d.topic x) d (client_at s (opening_world s) c) []) (length s.clients) (length s.clusters) c x
      (empty_link told d.topic x b d k));
  client = λ c. let d = declared_at s c in new_at s told (opening_world s) d.topic d d s.clients c;
  subs = λ t x there.
      at_copies (SubsOver s (opening_world s) (opening_world s).links t x) (length s.topics * length s.clusters) (node s t x) (new_broker (length s.clusters) (length s.clients)) no_broker tt tt;
}

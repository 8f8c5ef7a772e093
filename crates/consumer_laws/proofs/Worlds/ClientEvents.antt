-- Go, reconnect and get, in the world.
use Rattle.std.proofs.Common.{◌≡◌, ℕ, ◌+◌, ◌<◌, true, List, length, refl, sym, ap, subst, ◌∙◌, ◌==◌, arith}
use Rattle.std.specs.Prelude.{Option, Some, None, take}
use Rattle.std.proofs.lemmas.Bool.{eqb-false, eqb-true, ltb-true}
use Rattle.world_laws.proofs.Types.{Held, Out, Packet, SubKind}
use Rattle.geo_base.specs.Broker.{Broker}
use Rattle.geo_base.specs.Client.{Acted, Client, id_of}
use Rattle.geo_base.specs.Getting.{get}
use Rattle.geo_base.specs.Happening.{client_does}
use Rattle.geo_base.specs.Link.{Link, next_packet, took}
use Rattle.geo_base.specs.Planned.{has_client}
use Rattle.geo_base.specs.Settled.{SettledSoFar}
use Rattle.geo_base.specs.Setup.{Declared, Setup, declared_at}
use Rattle.geo_base.specs.World.{Links, ToClient, World, cell, client_at, delivered, from_client, link_at, taken_from, topic_at}
use Rattle.world_laws.proofs.Replicating.Effects.{Each, each_map}
use Rattle.world_laws.proofs.Induction.Frames.{cell_set}
use Rattle.world_laws.proofs.Snapshotting.Grows.{unchanged}
use Rattle.world_laws.proofs.Merges.LinkTables.{delivered_has, taken_has}
use Rattle.world_laws.proofs.ComesOver.LiveFrames.{taken_one}
use Rattle.world_laws.proofs.Replicating.Sizes.{IsThere}
use Rattle.world_laws.proofs.Telling.Told.{Includes}
use Rattle.world_laws.proofs.Walks.Walk.{by_test, on_test}
use Rattle.consumer_laws.specs.Lines.{IsKindLine}
use Rattle.world_laws.proofs.Clients.ClientLinks.{SentDown, SentUp, client_down}
use Rattle.world_laws.proofs.Clients.ClientSends.{Sends, get_out}
use Rattle.consumer_laws.proofs.Clients.Going.{Leaves, SendsWell, target}
use Rattle.consumer_laws.proofs.Clients.Getting.{GetDone, GetKeeps, TellsGet, get_done, get_keeps}
use Rattle.consumer_laws.proofs.Worlds.Acting.{ActsWell, LeavesOthers, hands_acted, hands_more, link_leaves, other_all, other_taken, sends_all}
use Rattle.consumer_laws.proofs.Worlds.Growing.{link_same}
use Rattle.consumer_laws.proofs.Worlds.Facts.{Hands, LinkFact, Reached, UpFact, down_grows, up_grows}
use Rattle.world_laws.proofs.Clients.Meeting.{MeetsAll, client_meets}

-- a world with other counts
pub hands_idle : (s : Setup) (told : SettledSoFar) (w : World) (n : ℕ) → ((c : ℕ) → MeetsAll s c (record w { idle = n })) → Hands s told w → Hands s told (record w { idle = n })
hands_idle s told w n meets h = record {
  meets = meets;
  cells = h.cells;
  up = h.up;
  down = h.down;
  client = λ c. let f = h.client c in record { sub = f.sub; all = f.all; held = f.held };
  subs = h.subs;
}

pub hands_round : (s : Setup) (told : SettledSoFar) (w : World) (n : ℕ) → Hands s told w → Hands s told (record w { rounds = n })
hands_round s told w n h = record {
  meets = λ c. let m = h.meets c in record { size = m.size; up = m.up; down = m.down; brokers = m.brokers };
  cells = h.cells;
  up = h.up;
  down = h.down;
  client = λ c. let f = h.client c in record { sub = f.sub; all = f.all; held = f.held };
  subs = h.subs;
}

-- ---- go and reconnect

go_others : (z stamp : ℕ) (os : List Out) (ls : Links) → LeavesOthers z ls (delivered (from_client z) stamp os ls)
go_others z stamp os ls = record {
  up = λ c x differ. other_all z stamp c x os ls differ;
  down = λ c x differ. ap (λ (m : List (List Link)). cell m c x) (client_down z stamp os ls);
  sent = λ c x. ap (λ (m : List (List Link)). (cell m c x).sent) (client_down z stamp os ls);
  cells = λ c x h. delivered_has (from_client z) stamp os ls (ToClient c x) h;
}

abbrev pub LeavesAt : Setup → SettledSoFar → World → ℕ → Acted → Type 0
LeavesAt s told w z a = let d = declared_at s z in Leaves told d.topic (λ y. topic_at s w d.topic y) (λ y. IsThere s d.topic y) d (client_at s w z) a

go_acts : (s : Setup) (told : SettledSoFar) (w : World) (z stamp : ℕ) (a : Acted) → LeavesAt s told w z a → Hands s told w → ActsWell s told w z (delivered (from_client z) stamp a.sent w.links) a.client
go_acts s told w z stamp a l h = record {
  later = l.later;
  up = λ x there.
      let b = topic_at s w d.topic x in
      sends_all z stamp x (UpFact told d.topic b d a.client.done) a.sent w.links
      (each_map (SendsWell told d.topic (λ y. topic_at s w d.topic y) (λ y. IsThere s d.topic y) d a.client.done) (λ (o : Out). target o.to ≡ x → UpFact told d.topic b d a.client.done o.session o.frame)
      (λ o sends is. sends x there is) a.sent l.sent)
      (each_map (λ (p : Packet). UpFact told d.topic b d k.done p.session p.frame) (λ (p : Packet). UpFact told d.topic b d a.client.done p.session p.frame)
      (λ p f. up_grows told told d.topic b b d k.done a.client.done p.session p.frame (λ u n e g. g) (unchanged b) l.later f) (SentUp w.links z x) (h.up z x there));
  down = λ x there.
      let b = topic_at s w d.topic x in
      subst (λ (m : List (List Link)). LinkFact told d.topic x b d a.client (cell m z x).sent (cell m z x)) (sym (client_down z stamp a.sent w.links))
      (link_leaves told d.topic x b d k a.client (SentDown w.links z x) (link_at w.links (ToClient z x)) l.later l.comes ((h.meets z).down x) (h.down z x there));
  client = record { sub = l.sub; all = l.all; held = l.held };
}
  where
    d : Declared
    d = declared_at s z

    k : Client
    k = client_at s w z

pub hands_goes : (s : Setup) (told : SettledSoFar) (w : World) (z : ℕ) (a : Acted) → has_client s z ≡ true → Sends (declared_at s z) (client_at s w z) a → LeavesAt s told w z a → Hands s told w
    → Hands s told (client_does s w z None a)
unfolding client_does
hands_goes s told w z a has sends l h =
    on_test (λ (w' : World). ((c : ℕ) → MeetsAll s c w') → Hands s told w') a.idle _ _ (λ idle meets. hands_idle s told w _ meets h)
    (λ busy meets. hands_acted s told w _ z a.client lt refl refl meets (go_others z _ a.sent w.links) (go_acts s told w z _ a l h) h)
    (λ c. client_meets s c w z None a has sends (h.meets c))
  where
    lt : z < length w.clients
    lt = let small = ltb-true z (length s.clients) has in let size = (h.meets z).size in omega (arith, small, size)

-- ---- get

get_others : (z x : ℕ) (ls : Links) → LeavesOthers z ls (taken_from (Some (ToClient z x)) ls)
get_others z x ls = record {
  up = λ c y differ. refl;
  down = λ c y differ. other_taken z x c y ls differ;
  sent = λ c y. sent_same c y;
  cells = λ c y h. taken_has (Some (ToClient z x)) ls (ToClient c y) h;
}
  where
    sent_same : (c y : ℕ) → SentDown (taken_from (Some (ToClient z x)) ls) c y ≡ SentDown ls c y
    sent_same c y =
        cell_set (λ (l : Link). l.sent ≡ (cell ls.to_client c y).sent) ls.to_client z x _ c y
        (λ e e'. ap (λ (u : ℕ). (cell ls.to_client u x).sent) e ∙ ap (λ (v : ℕ). (cell ls.to_client c v).sent) e') refl

-- the links from other clusters
link_kept : (told more : SettledSoFar) (t x : ℕ) (b : Broker) (d : Declared) (k j : Client) (l : Link) → Includes told more → GetKeeps k j → (x ≡ k.cluster → ⊥) → LinkFact told t x b d k l.sent l
    → LinkFact more t x b d j l.sent l
link_kept told more t x b d k j l inc g other h = record {
  extends = λ session id e c. c;
  after = λ i p at. down_grows told more t x b b d k.done j.done (take i l.sent) p.session p.frame inc (unchanged b) (let e = g.done in omega (arith, e)) (h.after i p at);
  whole = h.whole;
  taken = λ here on. absurd (other (here ∙ g.cluster));
}

get_acts : (s : Setup) (told more : SettledSoFar) (w : World) (z : ℕ) (p : Packet) → z < length s.clients → let d = declared_at s z in let k = client_at s w z in
    next_packet (link_at w.links (ToClient z k.cluster)) ≡ Some p → TellsGet told more d.topic d k (Some p) → Hands s told w
    → ActsWell s more w z (taken_from (Some (ToClient z k.cluster)) w.links) (get d k (Some p)).client
get_acts s told more w z p lt next tells h = record {
  later = let e = keeps.done in omega (arith, e);
  up = λ x there.
      let b = topic_at s w d.topic x in
      each_map (λ (q : Packet). UpFact told d.topic b d k.done q.session q.frame) (λ (q : Packet). UpFact more d.topic b d j.done q.session q.frame)
      (λ q f. up_grows told more d.topic b b d k.done j.done q.session q.frame tells.includes (unchanged b) (let e = keeps.done in omega (arith, e)) f) (SentUp w.links z x) (h.up z x there);
  down = down;
  client = record {
    sub = λ id is. let was = (h.client z).sub id (sym keeps.sub ∙ is) in let e = keeps.done in omega (arith, was, e);
    all = record {
      produce = λ i is. let was = (h.client z).all.produce i (sym keeps.produce ∙ is) in let e = keeps.done in omega (arith, was, e);
      flow = λ i is. let was = (h.client z).all.flow i (sym keeps.flow ∙ is) in let e = keeps.done in omega (arith, was, e);
      unanswered = subst (λ (m : ℕ). Each (λ i. i < m) j.unanswered) (sym keeps.done) (keeps.unanswered k.done (h.client z).all.unanswered);
    };
    held = λ on there.
        let there' : IsThere s d.topic k.cluster = subst (IsThere s d.topic) keeps.cluster there in
        subst (λ (x : ℕ). Each (λ (g : Held). (n : List ℕ) (kind : SubKind) → IsKindLine d (id_of j.sub) n kind → Reached more d.topic n (topic_at s w d.topic x) kind g.position) j.held)
        (sym keeps.cluster) ((got there').held on);
  };
}
  where
    d : Declared
    d = declared_at s z

    k : Client
    k = client_at s w z

    j : Client
    j = (get d k (Some p)).client

    l : Link
    l = link_at w.links (ToClient z k.cluster)

    keeps : GetKeeps k j
    keeps = get_keeps d k p

    got : IsThere s d.topic k.cluster → GetDone more d.topic k.cluster (topic_at s w d.topic k.cluster) d k j (SentDown w.links z k.cluster) l
    got there =
        get_done told more d.topic k.cluster (topic_at s w d.topic k.cluster) d k (SentDown w.links z k.cluster) l p next refl tells (h.down z k.cluster there) (λ on. (h.client z).held on there)

    ls : Links
    ls = taken_from (Some (ToClient z k.cluster)) w.links

    here : IsThere s d.topic k.cluster → LinkFact more d.topic k.cluster (topic_at s w d.topic k.cluster) d j (SentDown ls z k.cluster) (link_at ls (ToClient z k.cluster))
    here there =
        subst (λ (m : Link). LinkFact more d.topic k.cluster (topic_at s w d.topic k.cluster) d j m.sent m)
        (sym (taken_one w.links (ToClient z k.cluster) (h.cells z k.cluster lt there.1)))
        (link_same more d.topic k.cluster (topic_at s w d.topic k.cluster) d j (SentDown w.links z k.cluster) (took l) (got there).link)

    down : (x : ℕ) → IsThere s d.topic x → LinkFact more d.topic x (topic_at s w d.topic x) d j (SentDown ls z x) (link_at ls (ToClient z x))
    down x there =
        by_test (k.cluster == x)
        (λ is. subst (λ (y : ℕ). IsThere s d.topic y → LinkFact more d.topic y (topic_at s w d.topic y) d j (SentDown ls z y) (link_at ls (ToClient z y))) (eqb-true k.cluster x is) here there)
        (λ other.
        let differ = eqb-false k.cluster x other in
        let same : cell ls.to_client z x ≡ cell w.links.to_client z x =
        cell_set (λ (m : Link). m ≡ cell w.links.to_client z x) w.links.to_client z k.cluster _ z x (λ e e'. absurd (differ e')) refl in
        subst (λ (m : Link). LinkFact more d.topic x (topic_at s w d.topic x) d j m.sent m) (sym same)
        (link_kept told more d.topic x (topic_at s w d.topic x) d k j (link_at w.links (ToClient z x)) tells.includes keeps (λ e. differ (sym e)) (h.down z x there)))

pub hands_gets : (s : Setup) (told more : SettledSoFar) (w : World) (z : ℕ) (o : Option Packet) → has_client s z ≡ true → let d = declared_at s z in let k = client_at s w z in
    next_packet (link_at w.links (ToClient z k.cluster)) ≡ o → TellsGet told more d.topic d k o → Hands s told w
    → Hands s more (client_does s w z (Some (ToClient z k.cluster)) (get d k o))
unfolding client_does get
hands_gets s told more w z None has next tells h =
    hands_idle s more w (w.idle + 1) (λ c. client_meets s c w z (Some (ToClient z (client_at s w z).cluster)) (get (declared_at s z) (client_at s w z) None) has (get_out (declared_at s z) (client_at s w z) None) (h.meets c))
    (hands_more s told more w tells.includes h)
hands_gets s told more w z (Some p) has next tells h =
    let d = declared_at s z in let k = client_at s w z in
    let small = ltb-true z (length s.clients) has in
    hands_acted s more w (client_does s w z (Some (ToClient z k.cluster)) (get d k (Some p))) z (get d k (Some p)).client (let size = (h.meets z).size in omega (arith, small, size)) refl refl
    (λ c. client_meets s c w z (Some (ToClient z k.cluster)) (get d k (Some p)) has (get_out d k (Some p)) (h.meets c))
    (get_others z k.cluster w.links) (get_acts s told more w z p small next tells h) (hands_more s told more w tells.includes h)

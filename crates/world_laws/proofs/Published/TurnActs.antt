-- An event of a client keeps it.
use Rattle.std.proofs.Common.{◌≡◌, ◌==◌, ℕ, ◌+◌, ◌<◌, ◌≤◌, Bool, true, false, List, [], ◌∷◌, ◌++◌, length, map, refl, sym, ap, subst, ◌∙◌}
use Rattle.std.specs.Prelude.{Option, Some, None, if◌then◌else◌, ◌&&◌, slice_index, slice_set}
use Rattle.std.proofs.lemmas.Bool.{eq-eqb, eqb-true, false≢true}
use Rattle.std.proofs.lemmas.List.{append-nil}
use Rattle.world_laws.proofs.Types.{Entry, Out, Packet, Peer}
use Rattle.world_laws.proofs.Types.event
use Rattle.world_laws.proofs.Types.peer
use Rattle.geo_base.specs.Client.{Acted, Client, new_client}
use Rattle.geo_base.specs.FrameSizes.{sent_bytes}
use Rattle.geo_base.specs.Getting.{get}
use Rattle.geo_base.specs.Happening.{client_acted, client_does, idles, next_stamp}
use Rattle.geo_base.specs.History.{sent_over, sent_with}
use Rattle.geo_base.specs.Link.{Link, next_packet, took}
use Rattle.geo_base.specs.Nodes.{ClientNode, same_link}
use Rattle.geo_base.specs.Scripted.{IsScripted}
use Rattle.geo_base.specs.Setup.{Declared, Setup, declared_at}
use Rattle.geo_base.specs.World.{LinkName, ToBroker, ToClient, World, client_at, delivered, from_client, link_at, packet_at, stamped, taken_from}
use Rattle.world_laws.specs.Publishing.{PubsRise}
use Rattle.world_laws.proofs.Clients.CalmWalk.{IsSentBy}
use Rattle.world_laws.proofs.Clients.ClientLinks.{Packets, SentDown, acts_down}
use Rattle.world_laws.proofs.Dispatching.SubFrames.{each_at_place}
use Rattle.world_laws.proofs.Induction.Frames.{at_set}
use Rattle.world_laws.proofs.Merges.LinkTables.{delivered_at, moved}
use Rattle.world_laws.proofs.Published.Chained.{Chained, home_there}
use Rattle.world_laws.proofs.Published.ClientCells.{Linked, taken_at, taken_has, takes_it}
use Rattle.world_laws.proofs.Published.ClientEvents.{good_lines}
use Rattle.world_laws.proofs.Published.Homes.{go_home}
use Rattle.world_laws.proofs.Published.InTurn.{ReceiptStands}
use Rattle.world_laws.proofs.Published.TurnCore.{Core, core_acts}
use Rattle.world_laws.proofs.Published.TurnHands.{HandOf}
use Rattle.world_laws.proofs.Published.TurnLines.{Goes, IsNoError, IsTo, Turned, away_silent, get_away, get_hand, get_none, go_goes, hand_on, plain_goes, reconnect_goes}
use Rattle.world_laws.proofs.Published.TurnShapes.{CoreAt, NoErrorsAt, and_true, home_of}
use Rattle.world_laws.proofs.Replicating.Effects.{Each, each_map}
use Rattle.world_laws.proofs.Walks.Walk.{on_if}

-- ---- what goes over the link of c to its home

abbrev over : Setup → ℕ → ℕ → ℕ → ℕ → List Out → List Packet
over s c x z stamp os = sent_over s (ToBroker c x) (ClientNode z) (map (sent_with stamp) os)

both_false : (a b : Bool) → (a ≡ true → b ≡ true → ⊥) → (a && b) ≡ false
both_false true true h = absurd (h refl refl)
both_false true false h = refl
both_false false b h = refl

-- nothing, of another client
over_other : (s : Setup) (c x z stamp : ℕ) (os : List Out) → (z == c) ≡ false → over s c x z stamp os ≡ []
over_other s c x z stamp [] other = refl
over_other s c x z stamp (o ∷ os) other =
    ap (λ (t : Bool). if t then stamped stamp o ∷ over s c x z stamp os else over s c x z stamp os) (by o.to) ∙ over_other s c x z stamp os other
  where
    by : (q : Peer) → same_link (from_client z q) (ToBroker c x) ≡ false
    by (peer.Broker y) = ap (λ (t : Bool). t && (y == x)) other
    by (peer.Forward y) = ap (λ (t : Bool). t && (y == x)) other
    by (peer.Back y) = ap (λ (t : Bool). t && (y == x)) other
    by (peer.Client y) = ap (λ (t : Bool). t && (y == x)) other

-- or to another place
over_none : (s : Setup) (c x z y stamp : ℕ) (os : List Out) → (z ≡ c → y ≡ x → ⊥) → Each (IsTo y) os → over s c x z stamp os ≡ []
over_none s c x z y stamp [] other to = refl
over_none s c x z y stamp (o ∷ os) other to =
    let no_link : same_link (from_client z o.to) (ToBroker c x) ≡ false = ap (λ q. same_link (from_client z q) (ToBroker c x)) to.0 ∙ both_false (z == c) (y == x) (λ a b. other (eqb-true z c a) (eqb-true y x b)) in
    ap (λ (t : Bool). if t then stamped stamp o ∷ over s c x z stamp os else over s c x z stamp os) no_link ∙ over_none s c x z y stamp os other to.1

-- all of it, where it is at home
over_all : (s : Setup) (c x stamp : ℕ) (os : List Out) → Each (IsTo x) os → over s c x c stamp os ≡ map (stamped stamp) os
over_all s c x stamp [] to = refl
over_all s c x stamp (o ∷ os) to =
    let it : same_link (from_client c o.to) (ToBroker c x) ≡ true = ap (λ q. same_link (from_client c q) (ToBroker c x)) to.0 ∙ and_true (c == c) (x == x) (eq-eqb c c refl) (eq-eqb x x refl) in
    ap (λ (t : Bool). if t then stamped stamp o ∷ over s c x c stamp os else over s c x c stamp os) it ∙ ap (λ (ps : List Packet). stamped stamp o ∷ ps) (over_all s c x stamp os to.1)

-- ---- one event

-- what c does is well
abbrev pub ActsInTurn : Setup → ℕ → World → ℕ → Acted → Type 0
ActsInTurn s c w z a = z ≡ c → NoErrorsAt s c w → CoreAt s c w → Goes (declared_at s c) (home_of s w c).entries (link_at w.links (ToBroker c (declared_at s c).cluster)).sent a

pub core_acted : (s : Setup) (c : ℕ) (w : World) (z : ℕ) (takes : Option LinkName) (a : Acted) → IsScripted s → c < length s.clients → Linked s w → takes_it takes (ToBroker c (declared_at s c).cluster) ≡ false → ActsInTurn s c w z a
    → (NoErrorsAt s c w → CoreAt s c w) → NoErrorsAt s c (client_does s w z takes a) → CoreAt s c (client_does s w z takes a)
unfolding client_does
core_acted s c w z takes a scripted lt linked apart acts old fine =
    let Goal : World → Type 0 = λ w'. NoErrorsAt s c w' → CoreAt s c w' in
    on_if Goal a.idle (idles w) after (λ still. old still) active fine
  where
    d : Declared
    d = declared_at s c

    x : ℕ
    x = d.cluster

    stamp : ℕ
    stamp = next_stamp (slice_index w.client_clocks z) (packet_at w.links takes)

    after : World
    after = record {
      brokers = w.brokers;
      clients = slice_set w.clients z a.client;
      links = delivered (from_client z) stamp a.sent (taken_from takes w.links);
      broker_clocks = w.broker_clocks;
      client_clocks = slice_set w.client_clocks z stamp;
      events = w.events + 1;
      idle = w.idle;
      rounds = w.rounds;
      frame_bytes = w.frame_bytes + sent_bytes s.clusters a.sent;
    }

    l : Link
    l = link_at w.links (ToBroker c x)

    ps : List Packet
    ps = over s c x z stamp a.sent

    link' : link_at after.links (ToBroker c x) ≡ moved l ps 0
    link' =
        let has = (linked c x lt (home_there s scripted c lt).1).0 in
        delivered_at s (ClientNode z) (ToBroker c x) stamp a.sent (taken_from takes w.links) (taken_has takes w.links (ToBroker c x) has)
        ∙ ap (λ (m : Link). moved m ps 0) (taken_at takes w.links (ToBroker c x) has ∙ ap (λ (t : Bool). if t then took (link_at w.links (ToBroker c x)) else link_at w.links (ToBroker c x)) apart)

    same_down : SentDown after.links c x ≡ SentDown w.links c x
    same_down = acts_down z stamp c x takes a.sent w.links

    -- whoever acts
    turned : CoreAt s c w → NoErrorsAt s c w → (t : Bool) → (z == c) ≡ t → (u : Bool) → (a.client.cluster == x) ≡ u → Turned d (home_of s w c).entries (l.sent ++ ps) (client_at s after c)
    turned h calm false other u here =
        let T : List Packet → Client → Type 0 = λ us k. Turned d (home_of s w c).entries us k in
        let none = over_other s c x z stamp a.sent other in
        at_set (T (l.sent ++ ps)) w.clients z c a.client (new_client d) (λ same. absurd (false≢true (sym other ∙ eq-eqb z c same)))
        (subst (λ (us : List Packet). T us (client_at s w c)) (sym (ap (λ (qs : List Packet). l.sent ++ qs) none ∙ append-nil l.sent)) h.turned)
    turned h calm true is true here =
        let same = eqb-true z c is in let goes = acts same calm h in
        let all : ps ≡ map (stamped stamp) a.sent = ap (λ (i : ℕ). over s c x i stamp a.sent) same ∙ over_all s c x stamp a.sent (subst (λ (y : ℕ). Each (IsTo y) a.sent) (eqb-true a.client.cluster x here) goes.to) in
        let T : List Packet → Client → Type 0 = λ us k. Turned d (home_of s w c).entries us k in
        let new = goes.home (eqb-true a.client.cluster x here) stamp in
        at_set (T (l.sent ++ ps)) w.clients z c a.client (new_client d) (λ e. subst (λ (qs : List Packet). T (l.sent ++ qs) a.client) (sym all) new)
        ((subst (λ (qs : List Packet). T (l.sent ++ qs) a.client) (sym all) new).0, hand_on d (home_of s w c).entries l.sent ps (client_at s w c) h.turned.1)
    turned h calm true is false here =
        let same = eqb-true z c is in let goes = acts same calm h in
        let T : List Packet → Client → Type 0 = λ us k. Turned d (home_of s w c).entries us k in
        let none = over_none s c x z a.client.cluster stamp a.sent (λ e at. false≢true (sym here ∙ eq-eqb a.client.cluster x at)) goes.to in
        let back = sym (ap (λ (qs : List Packet). l.sent ++ qs) none ∙ append-nil l.sent) in
        at_set (T (l.sent ++ ps)) w.clients z c a.client (new_client d) (λ e. subst (λ (us : List Packet). T us a.client) back (goes.away (λ at. false≢true (sym here ∙ eq-eqb a.client.cluster x at))))
        (subst (λ (us : List Packet). T us (client_at s w c)) back h.turned)

    active : NoErrorsAt s c after → CoreAt s c after
    active new =
        let calm = subst (Packets IsNoError) same_down new in let h = old calm in
        subst (λ (ds : List Packet). Core d c (home_of s w c) (link_at after.links (ToBroker c x)) (client_at s after c) ds) (sym same_down)
        (subst (λ (m : Link). Core d c (home_of s w c) m (client_at s after c) (SentDown w.links c x)) (sym link')
        (core_acts d c (home_of s w c) l (client_at s w c) (client_at s after c) (SentDown w.links c x) ps (turned h calm (z == c) refl (a.client.cluster == x) refl) h))

-- ---- go, reconnect and get

up_below : (s : Setup) (c : ℕ) (w : World) → Chained s w → Each (λ (u : Packet). u.session ≤ (client_at s w c).connection) (link_at w.links (ToBroker c (declared_at s c).cluster)).sent
up_below s c w g =
    let m = (client_at s w c).connection in let d = declared_at s c in
    each_map (λ (p : Packet). IsSentBy m d p.session p.frame) (λ (u : Packet). u.session ≤ m) (λ p h. h.below) (link_at w.links (ToBroker c d.cluster)).sent ((g.clients c).meets.up d.cluster)

pub go_in_turn : (s : Setup) (c : ℕ) (w : World) (z : ℕ) → IsScripted s → Chained s w → c < length s.clients → PubsRise (declared_at s c) → ActsInTurn s c w z (client_acted s (client_at s w z) (event.Go z) None)
go_in_turn s c w z scripted g lt rise same calm h =
    let d = declared_at s c in let k = client_at s w c in let es = (home_of s w c).entries in let us = (link_at w.links (ToBroker c d.cluster)).sent in
    let ok = good_lines s c scripted lt in let home = (g.clients c).home in
    subst (λ (i : ℕ). Goes d es us (client_acted s (client_at s w i) (event.Go i) None)) (sym same) (go_goes s d es us k rise ok home (go_home s d k ok home).home (up_below s c w g) h.turned)

pub reconnect_in_turn : (s : Setup) (c : ℕ) (w : World) (z : ℕ) → IsScripted s → Chained s w → c < length s.clients → PubsRise (declared_at s c) → ActsInTurn s c w z (client_acted s (client_at s w z) (event.Reconnect z) None)
reconnect_in_turn s c w z scripted g lt rise same calm h =
    let d = declared_at s c in let k = client_at s w c in let es = (home_of s w c).entries in let us = (link_at w.links (ToBroker c d.cluster)).sent in
    subst (λ (i : ℕ). Goes d es us (client_acted s (client_at s w i) (event.Reconnect i) None)) (sym same) (reconnect_goes s d es us k rise (good_lines s c scripted lt) (g.clients c).home (up_below s c w g) h.turned)

get_goes : (s : Setup) (c : ℕ) (w : World) → IsScripted s → Chained s w → c < length s.clients → NoErrorsAt s c w → CoreAt s c w → let d = declared_at s c in let k = client_at s w c in
    Goes d (home_of s w c).entries (link_at w.links (ToBroker c d.cluster)).sent (get d k (next_packet (link_at w.links (ToClient c k.cluster))))
get_goes s c w scripted g lt calm h = plain_goes d es us (get d k o) (get_none d k o).0 (get_none d k o).1 h.turned.0 (by (k.cluster == d.cluster) refl)
  where
    d : Declared
    d = declared_at s c

    k : Client
    k = client_at s w c

    es : List Entry
    es = (home_of s w c).entries

    us : List Packet
    us = (link_at w.links (ToBroker c d.cluster)).sent

    o : Option Packet
    o = next_packet (link_at w.links (ToClient c k.cluster))

    by : (t : Bool) → (k.cluster == d.cluster) ≡ t → HandOf d es us (get d k o).client
    by true here =
        let at = eqb-true k.cluster d.cluster here in
        get_hand d es us k o (λ q next.
        let n = subst (λ (y : ℕ). next_packet (link_at w.links (ToClient c y)) ≡ Some q) at next in (
          each_at_place (λ (p : Packet). ReceiptStands d es p.session p.frame) (SentDown w.links c d.cluster) (link_at w.links (ToClient c d.cluster)).taken q h.receipts n,
          each_at_place (λ (p : Packet). IsNoError p.session p.frame) (SentDown w.links c d.cluster) (link_at w.links (ToClient c d.cluster)).taken q calm n,
        )) h.turned.1
    by false away = get_away d es us k o (away_silent d k (good_lines s c scripted lt) (g.clients c).home (λ at. false≢true (sym away ∙ eq-eqb k.cluster d.cluster at))) h.turned.1

pub get_in_turn : (s : Setup) (c : ℕ) (w : World) (z : ℕ) → IsScripted s → Chained s w → c < length s.clients → ActsInTurn s c w z (client_acted s (client_at s w z) (event.Get z) (next_packet (link_at w.links (ToClient z (client_at s w z).cluster))))
get_in_turn s c w z scripted g lt same calm h =
    let d = declared_at s c in let es = (home_of s w c).entries in let us = (link_at w.links (ToBroker c d.cluster)).sent in
    subst (λ (i : ℕ). Goes d es us (client_acted s (client_at s w i) (event.Get i) (next_packet (link_at w.links (ToClient i (client_at s w i).cluster))))) (sym same) (get_goes s c w scripted g lt calm h)

-- What is still to be taken from a link is a beginning of what waits on it and of what is still to be sent: so the next
-- packet to be taken is the next on the link, if nothing that is still to be sent is older.
use Rattle.std.proofs.Common.{◌≡◌, ℕ, ◌+◌, ◌<◌, ◌≤◌, Bool, true, false, List, [], ◌∷◌, ◌++◌, length, map, refl, sym, ap, subst, ◌∙◌, arith}
use Rattle.std.specs.Prelude.{Option, Some, None, if◌then◌else◌, slice_get}
use Rattle.std.proofs.lemmas.Bool.{eqb-true, false≢true, ltb-true, lt-ltb}
use Rattle.std.proofs.lemmas.List.{append_assoc, length-append}
use Rattle.std.proofs.lemmas.Nat.{div-mul-add}
use Rattle.world_laws.proofs.Types.{Out, Packet, Peer}
use Rattle.world_laws.proofs.Types.peer
use Rattle.geo_base.specs.Happening.{next_stamp}
use Rattle.geo_base.specs.History.{RecordedEvent, Replays, SentPacket, is_input, sent_in, sent_over, sent_with, state_after, taken_over}
use Rattle.geo_base.specs.Link.{Link, next_packet}
use Rattle.geo_base.specs.NodeState.{NodeState, acts}
use Rattle.geo_base.specs.Nodes.{BrokerNode, ClientNode, Node, beside, broker_count, has_link, is_node, is_peer, link_from, link_to, node_number, node_of, same_link, sender_of, taker_of}
use Rattle.geo_base.specs.Planned.{has_node}
use Rattle.geo_base.specs.Setup.{Setup, declared_at}
use Rattle.geo_base.specs.World.{Forward, LinkName, node, stamped}
use Rattle.world_laws.proofs.Replicating.Effects.{Each, each_both}
use Rattle.world_laws.proofs.Merges.LinkTables.{moved, same_link_is}
use Rattle.world_laws.proofs.OnceInOrder.Members.{get_right}
use Rattle.world_laws.proofs.Replicating.Sizes.{node_lt}
use Rattle.world_laws.proofs.Walks.Walk.{left, right}
use Rattle.geo_base.proofs.Bools.{and_of_both}

node_there : (s : Setup) (t x : ℕ) → has_node s t x ≡ true → node s t x < broker_count s
node_there s t x h = node_lt s t x (ltb-true _ _ (left _ _ h), ltb-true _ _ (right _ _ h))

-- the link between two clusters of a topic
pair_there : (s : Setup) (t x y : ℕ) → has_node s t x ≡ true → y < length s.clusters → has_link s (Forward (node s t x) y) ≡ true
pair_there s t x y h lt = and_of_both _ _ (lt-ltb _ _ (node_there s t x h)) (lt-ltb _ _ lt)

beside_is : (s : Setup) (t x y : ℕ) → y < length s.clusters → beside s (node s t y) x ≡ node s t x
beside_is s t x y lt = ap (λ (k : ℕ). node s k x) (div-mul-add t (length s.clusters) y lt)

cluster_lt : (s : Setup) (t x : ℕ) → has_node s t x ≡ true → x < length s.clusters
cluster_lt s t x h = ltb-true _ _ (right _ _ h)

with_cluster : (s : Setup) (t x y : ℕ) → has_node s t x ≡ true → y < length s.clusters → has_node s t y ≡ true
with_cluster s t x y h lt = and_of_both _ _ (left _ _ h) (lt-ltb _ _ lt)

pub record IsEnd (s : Setup) (k : LinkName) (end n : ℕ) : Type 0 where
  pub has : has_link s k ≡ true
  pub here : end ≡ n

pub takes_there : (s : Setup) (n : Node) (q : Peer) → is_node s n ≡ true → is_peer s n q ≡ true
    → IsEnd s (link_from s n q) (taker_of s (link_from s n q)) (node_number s n)
takes_there s (BrokerNode t x) (peer.Forward y) h p = record { has = pair_there s t x y h (ltb-true _ _ (left _ _ p)); here = refl }
takes_there s (BrokerNode t x) (peer.Back y) h p =
    let lt = ltb-true _ _ (left _ _ p) in
    record { has = pair_there s t y x (with_cluster s t x y h lt) (cluster_lt s t x h); here = beside_is s t x y lt }
takes_there s (BrokerNode t x) (peer.Client c) h p =
    let same : (declared_at s c).topic ≡ t = eqb-true _ _ (right _ _ p) in
    record {
      has = and_of_both _ _ (left _ _ p) (subst (λ (i : ℕ). has_node s i x ≡ true) (sym same) h);
      here = ap (λ (i : ℕ). node s i x) same;
    }
takes_there s (BrokerNode t x) (peer.Broker y) h p = absurd (false≢true p)
takes_there s (ClientNode c) (peer.Broker x) h p = record { has = and_of_both _ _ h p; here = refl }
takes_there s (ClientNode c) q h p = absurd (false≢true p)

pub sends_there : (s : Setup) (n : Node) (q : Peer) → is_node s n ≡ true → is_peer s n q ≡ true
    → IsEnd s (link_to s n q) (sender_of s (link_to s n q)) (node_number s n)
sends_there s (BrokerNode t x) (peer.Forward y) h p = record { has = pair_there s t x y h (ltb-true _ _ (left _ _ p)); here = refl }
sends_there s (BrokerNode t x) (peer.Back y) h p =
    let lt = ltb-true _ _ (left _ _ p) in
    record { has = pair_there s t y x (with_cluster s t x y h lt) (cluster_lt s t x h); here = beside_is s t x y lt }
sends_there s (BrokerNode t x) (peer.Client c) h p =
    let same : (declared_at s c).topic ≡ t = eqb-true _ _ (right _ _ p) in
    record {
      has = and_of_both _ _ (left _ _ p) (subst (λ (i : ℕ). has_node s i x ≡ true) (sym same) h);
      here = ap (λ (i : ℕ). node s i x) same;
    }
sends_there s (BrokerNode t x) (peer.Broker y) h p = absurd (false≢true p)
sends_there s (ClientNode c) (peer.Broker x) h p = record { has = and_of_both _ _ h p; here = refl }
sends_there s (ClientNode c) q h p = absurd (false≢true p)

-- so a node takes nothing from a link of another's, and sends nothing on one
pub takes_nothing : (s : Setup) (k : LinkName) (n : Node) (q : Option Peer) (p : Option Packet) → is_node s n ≡ true → is_input s n q p ≡ true
    → (node_number s n ≡ taker_of s k → ⊥) → taken_over s k n q p ≡ []
takes_nothing s k n None None there fits other = refl
takes_nothing s k n None (Some p) there fits other = refl
takes_nothing s k n (Some q) None there fits other = refl
takes_nothing s k n (Some q) (Some p) there fits other = by (same_link (link_from s n q) k) refl
  where
    by : (b : Bool) → same_link (link_from s n q) k ≡ b → (if b then p ∷ [] else []) ≡ []
    by true e = absurd (other (sym (takes_there s n q there fits).here ∙ ap (taker_of s) (same_link_is (link_from s n q) k e)))
    by false e = refl

-- each of some packets goes to a peer
abbrev pub ToPeers : Setup → Node → List SentPacket → Type 0
ToPeers s n os = Each (λ (o : SentPacket). is_peer s n o.to ≡ true) os

pub sends_nothing : (s : Setup) (k : LinkName) (n : Node) (os : List SentPacket) → is_node s n ≡ true → ToPeers s n os
    → (node_number s n ≡ sender_of s k → ⊥) → sent_over s k n os ≡ []
sends_nothing s k n [] there peers other = refl
sends_nothing s k n (o ∷ os) there peers other = by (same_link (link_to s n o.to) k) refl (sends_nothing s k n os there peers.1 other)
  where
    by : (b : Bool) → same_link (link_to s n o.to) k ≡ b → sent_over s k n os ≡ []
        → (if b then o.packet ∷ sent_over s k n os else sent_over s k n os) ≡ []
    by true e rest = absurd (other (sym (sends_there s n o.to there peers.0).here ∙ ap (sender_of s) (same_link_is (link_to s n o.to) k e)))
    by false e rest = rest

-- stamps: all that an entry sends has its stamp, and what it takes has a smaller one
pub sent_stamps : (s : Setup) (k : LinkName) (n : Node) (low stamp : ℕ) (os : List Out) → low ≤ stamp
    → Each (λ (p : Packet). low ≤ p.stamp) (sent_over s k n (map (sent_with stamp) os))
sent_stamps s k n low stamp [] le = tt
sent_stamps s k n low stamp (o ∷ os) le = by (same_link (link_to s n o.to) k) (sent_stamps s k n low stamp os le)
  where
    later : List Packet
    later = sent_over s k n (map (sent_with stamp) os)

    by : (b : Bool) → Each (λ (p : Packet). low ≤ p.stamp) later → Each (λ (p : Packet). low ≤ p.stamp) (if b then stamped stamp o ∷ later else later)
    by true rest = (le, rest)
    by false rest = rest

pub history_stamps : (s : Setup) (k : LinkName) (n : ℕ) (st : NodeState) (clock low : ℕ) (ds : List RecordedEvent) → Replays s n st clock ds
    → Each (λ (d : RecordedEvent). low ≤ d.stamp) ds → Each (λ (p : Packet). low ≤ p.stamp) (sent_in s k ds)
history_stamps s k n st clock low [] r h = tt
history_stamps s k n st clock low (d ∷ ds) r h =
    let Old : Packet → Type 0 = λ p. low ≤ p.stamp in
    each_both Old (sent_over s k (node_of s d.event) d.sent) (sent_in s k ds)
    (subst (λ (os : List SentPacket). Each Old (sent_over s k (node_of s d.event) os)) (sym r.0.sent)
    (sent_stamps s k (node_of s d.event) low d.stamp (acts s st d.event d.taken).sent h.0))
    (history_stamps s k n (state_after s st d) d.stamp low ds r.1 h.1)

-- at most one packet, with a smaller stamp
pub record IsOlder (stamp : ℕ) (ps : List Packet) : Type 0 where
  pub one : length ps ≤ 1
  pub older : Each (λ (p : Packet). p.stamp < stamp) ps

pub taken_stamp : (s : Setup) (k : LinkName) (n : Node) (q : Option Peer) (p : Option Packet) (clock stamp : ℕ) → stamp ≡ next_stamp clock p
    → IsOlder stamp (taken_over s k n q p)
taken_stamp s k n None None clock stamp e = record { one = omega arith; older = tt }
taken_stamp s k n None (Some p) clock stamp e = record { one = omega arith; older = tt }
taken_stamp s k n (Some q) None clock stamp e = record { one = omega arith; older = tt }
taken_stamp s k n (Some q) (Some p) clock stamp e = by (same_link (link_from s n q) k)
  where
    by : (b : Bool) → IsOlder stamp (if b then p ∷ [] else [])
    by true = record { one = omega arith; older = (omega (arith, e), tt) }
    by false = record { one = omega arith; older = tt }

-- a link, what is still to be taken from it, and what is still to be sent on it
pub record Crossing (l : Link) (takes sends : List Packet) : Type 0 where
  pub gone : List Packet
  pub waiting : List Packet
  pub rest : List Packet
  pub sent : l.sent ≡ gone ++ waiting
  pub taken : l.taken ≡ length gone
  pub begins : waiting ++ sends ≡ takes ++ rest

abbrev first_of_all : List Packet → Packet → Packet
first_of_all [] d = d
first_of_all (p ∷ ps) d = p

abbrev behind : List Packet → List Packet
behind [] = []
behind (p ∷ ps) = ps

-- the packet that is taken next waits on the link
pub crosses_next : (l : Link) (p : Packet) (takes sends : List Packet) (stamp : ℕ) → Crossing l (p ∷ takes) sends → p.stamp < stamp
    → Each (λ (q : Packet). stamp ≤ q.stamp) sends → next_packet l ≡ Some p
crosses_next l p takes sends stamp c older later = by c.waiting c.sent c.begins
  where
    by : (ws : List Packet) → l.sent ≡ c.gone ++ ws → ws ++ sends ≡ p ∷ (takes ++ c.rest) → next_packet l ≡ Some p
    by [] sent begins =
        let first : stamp ≤ p.stamp = (subst (Each (λ (q : Packet). stamp ≤ q.stamp)) begins later).0 in
        absurd (omega (arith, first, older))
    by (u ∷ ws) sent begins =
        let at : l.taken ≡ length c.gone + 0 = omega (arith, c.taken) in
        ap (λ (ps : List Packet). slice_get ps l.taken) sent
        ∙ (ap (slice_get (c.gone ++ u ∷ ws)) at ∙ (get_right c.gone (u ∷ ws) 0 ∙ ap (λ (ps : List Packet). Some (first_of_all ps p)) begins))

-- and a link stays so when an entry takes and sends
pub crosses : (l : Link) (took takes sent sends : List Packet) (stamp : ℕ) → Crossing l (took ++ takes) (sent ++ sends) → IsOlder stamp took
    → Each (λ (q : Packet). stamp ≤ q.stamp) (sent ++ sends) → Crossing (moved l sent (length took)) takes sends
crosses l [] takes sent sends stamp c older later = record {
  gone = c.gone;
  waiting = c.waiting ++ sent;
  rest = c.rest;
  sent = ap (λ (ps : List Packet). ps ++ sent) c.sent ∙ append_assoc c.gone c.waiting sent;
  taken = omega (arith, c.taken);
  begins = append_assoc c.waiting sent sends ∙ c.begins;
}
crosses l (p ∷ []) takes sent sends stamp c older later = by c.waiting c.sent c.begins
  where
    by : (ws : List Packet) → l.sent ≡ c.gone ++ ws → ws ++ (sent ++ sends) ≡ p ∷ (takes ++ c.rest) → Crossing (moved l sent 1) takes sends
    by [] is begins =
        let first : stamp ≤ p.stamp = (subst (Each (λ (q : Packet). stamp ≤ q.stamp)) begins later).0 in
        absurd (omega (arith, first, older.older.0))
    by (u ∷ ws) is begins = record {
      gone = c.gone ++ u ∷ [];
      waiting = ws ++ sent;
      rest = c.rest;
      sent = ap (λ (ps : List Packet). ps ++ sent) is
          ∙ (append_assoc c.gone (u ∷ ws) sent ∙ sym (append_assoc c.gone (u ∷ []) (ws ++ sent)));
      taken = let e = length-append c.gone (u ∷ []) in omega (arith, c.taken, e);
      begins = append_assoc ws sent sends ∙ ap behind begins;
    }
crosses l (p ∷ q ∷ ps) takes sent sends stamp c older later = absurd (let h = older.one in omega (arith, h))

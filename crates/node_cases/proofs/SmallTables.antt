-- The tables of a small script have just the peers of their nodes.
use Rattle.std.proofs.Common.{◌≡◌, ℕ, zero, suc, ◌-◌, ◌<◌, ◌==◌, Bool, true, false, List, [], ◌∷◌, length, refl, ap, ◌∙◌, arith, nat_lt, not, ◌&&◌}
use Rattle.std.specs.Prelude.{if◌then◌else◌}
use Rattle.std.proofs.lemmas.Bool.{ltb-true}
use Rattle.std.proofs.lemmas.Bool.Decides.{nat_tests}
use Rattle.log_parts.specs.declared.table.EndRow.{EndRow}
use Rattle.log_parts.specs.Peers.{same_peer}
use Rattle.log_parts.specs.Rows.{has_peer}
use Rattle.geo_base.specs.declared.packet.Peer.{Peer}
use Rattle.geo_base.specs.declared.packet.Peer.TheVariants as peer
use Rattle.geo_base.specs.Nodes.{BrokerNode, ClientNode, is_peer}
use Rattle.geo_base.specs.Setup.{Setup, declared_at}
use Rattle.node_cases.specs.Small.{IsSmall, peers_in}
use Rattle.node_log.specs.Logs.{HasPeers}

abbrev is_one : List Peer → Peer → Bool
is_one [] q = false
is_one (p ∷ ps) q = if same_peer p q then true else is_one ps q

has_one : {E : Type 0} (rs : List (EndRow E)) (q : Peer) → has_peer rs q ≡ is_one (peers_in rs) q
has_one [] q = refl
has_one (r ∷ rs) q = ap (λ (b : Bool). if same_peer r.peer q then true else b) (has_one rs q)

-- the numbers 0 and 1
below_two : (x : ℕ) → (if 0 == x then true else (if 1 == x then true else false)) ≡ nat_lt x 2
below_two x = grind (arith, nat_tests)

topic_of : (s : Setup) → IsSmall s → (c : ℕ) → c < 2 → (declared_at s c).topic ≡ 0
topic_of s h zero lt = h.first
topic_of s h (suc zero) lt = h.second
topic_of s h (suc (suc c)) lt = absurd (omega (arith, lt))

client_one : (s : Setup) → IsSmall s → (c : ℕ) → c < 2 → (q : Peer) → is_one (peer.Broker 0 ∷ peer.Broker 1 ∷ []) q ≡ is_peer s (ClientNode c) q
client_one s h c lt (peer.Forward x) = refl
client_one s h c lt (peer.Back x) = refl
client_one s h c lt (peer.Client x) = refl
client_one s h c lt (peer.Broker x) = let topic = topic_of s h c lt in below_two x ∙ rw (topic, h.topics, h.clusters) refl

other : (x y z : ℕ) → x < 2 → y ≡ 1 - x → (if y == z then true else false) ≡ (nat_lt z 2 && not (z == x))
other x y z lt is = grind (arith, nat_tests, lt, is)

is_client : (s : Setup) → IsSmall s → (c : ℕ) → nat_lt c 2 ≡ (nat_lt c (length s.clients) && ((declared_at s c).topic == 0))
is_client s h c = by (nat_lt c 2) refl
  where
    by : (b : Bool) → nat_lt c 2 ≡ b → b ≡ (nat_lt c (length s.clients) && ((declared_at s c).topic == 0))
    by true e = let topic = topic_of s h c (ltb-true c 2 e) in rw (h.clients, e, topic) refl
    by false e = rw (h.clients, e) refl

broker_one : (s : Setup) → IsSmall s → (x y : ℕ) → x < 2 → y ≡ 1 - x → (q : Peer)
    → is_one (peer.Forward y ∷ peer.Back y ∷ peer.Client 0 ∷ peer.Client 1 ∷ []) q ≡ is_peer s (BrokerNode 0 x) q
broker_one s h x y lt is (peer.Forward z) = rw h.clusters (other x y z lt is)
broker_one s h x y lt is (peer.Back z) = rw h.clusters (other x y z lt is)
broker_one s h x y lt is (peer.Client c) = below_two c ∙ is_client s h c
broker_one s h x y lt is (peer.Broker z) = refl

pub client_peers : {E : Type 0} (s : Setup) (c : ℕ) (rs : List (EndRow E)) → IsSmall s → c < 2 → peers_in rs ≡ peer.Broker 0 ∷ peer.Broker 1 ∷ [] → HasPeers s (ClientNode c) rs
client_peers s c rs h lt is q = has_one rs q ∙ ap (λ (ps : List Peer). is_one ps q) is ∙ client_one s h c lt q

pub broker_peers : {E : Type 0} (s : Setup) (x y : ℕ) (rs : List (EndRow E)) → IsSmall s → x < 2 → y ≡ 1 - x → peers_in rs ≡ peer.Forward y ∷ peer.Back y ∷ peer.Client 0 ∷ peer.Client 1 ∷ []
    → HasPeers s (BrokerNode 0 x) rs
broker_peers s x y rs h lt other is q = has_one rs q ∙ ap (λ (ps : List Peer). is_one ps q) is ∙ broker_one s h x y lt other q

pub topic_there : (s : Setup) → IsSmall s → 0 < length s.topics
topic_there s h = let one = h.topics in omega (arith, one)

pub cluster_there : (s : Setup) (x : ℕ) → IsSmall s → x < 2 → x < length s.clusters
cluster_there s x h lt = let two = h.clusters in omega (arith, two, lt)

pub client_there : (s : Setup) (c : ℕ) → IsSmall s → c < 2 → c < length s.clients
client_there s c h lt = let two = h.clients in omega (arith, two, lt)

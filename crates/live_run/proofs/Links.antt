-- Peers that are linked, one after another.
use Rattle.std.proofs.Common.{◌≡◌, ℕ, ◌+◌, ◌<◌, ◌≤◌, Bool, true, false, List, [], ◌∷◌, ◌++◌, length, refl, sym, ap, subst, ◌∙◌, ◌==◌, arith}
use Rattle.std.specs.Prelude.{if◌then◌else◌, not, ◌&&◌, ◌||◌, nat_lt, IfSome, Option, Some}
use Rattle.std.proofs.lemmas.Bool.{eq-eqb, lt-ltb}
use Rattle.std.proofs.lemmas.Bool.Decides.{nat_tests}
use Rattle.log_parts.specs.declared.table.EndRow.{EndRow}
use Rattle.log_parts.specs.Peers.{same_peer}
use Rattle.log_parts.specs.Rows.{has_peer}
use Rattle.geo_base.specs.declared.packet.Peer.{Peer}
use Rattle.geo_base.specs.declared.packet.Peer.TheVariants as peer
use Rattle.geo_base.specs.Nodes.{BrokerNode, ClientNode, is_peer}
use Rattle.geo_base.specs.Setup.{Setup, declared_at}
use Rattle.link_rings.specs.declared.either.RingEnd.{RingEnd}
use Rattle.live_run.specs.Opened.{AreOpened, IsOpened}
use Rattle.live_run.specs.Linked.{GainsBroker, GainsPeer, HasBrokers, HasClients, HasPeers, HasSites, are_brokers, are_clients, are_sites}
use Rattle.geo_base.proofs.Bools.{or_assoc}
use Rattle.geo_base.proofs.Sums.{eq_apart}

or_false : (a : Bool) → (a || false) ≡ a
or_false true = refl
or_false false = refl

-- the numbers below n + 1 are those below n, and n
one_more : (n y : ℕ) → (nat_lt y n || (n == y)) ≡ nat_lt y (n + 1)
one_more n y = grind (arith, nat_tests)

-- ---- one more row

row_more : {E : Type 0} (rs : List (EndRow E)) (r : EndRow E) (q : Peer) → has_peer (rs ++ r ∷ []) q ≡ (has_peer rs q || same_peer r.peer q)
row_more [] r q = by (same_peer r.peer q)
  where
    by : (t : Bool) → (if t then true else false) ≡ (false || t)
    by true = refl
    by false = refl
row_more (x ∷ rs) r q = by (same_peer x.peer q) (has_peer (rs ++ r ∷ []) q) (has_peer rs q) (row_more rs r q)
  where
    by : (t a b : Bool) → a ≡ (b || same_peer r.peer q) → (if t then true else a) ≡ ((if t then true else b) || same_peer r.peer q)
    by true a b h = refl
    by false a b h = h

pub linked_row : {E : Type 0} (old new : List (EndRow E)) (r : EndRow E) (p : Peer) → r.peer ≡ p → new ≡ old ++ r ∷ [] → GainsPeer p old new
linked_row {E} old new r p is pushed = record {
  each = λ q. ap (λ (rs : List (EndRow E)). has_peer rs q) pushed ∙ row_more old r q ∙ ap (λ (o : Peer). has_peer old q || same_peer o q) is;
}

pub linked_both : {E : Type 0} (y : ℕ) (old mid new : List (EndRow E)) → GainsPeer (peer.Forward y) old mid → GainsPeer (peer.Back y) mid new → GainsBroker y old new
linked_both y old mid new first second = record {
  each = λ q.
      second.each q ∙ ap (λ (b : Bool). b || same_peer (peer.Back y) q) (first.each q)
      ∙ or_assoc (has_peer old q) (same_peer (peer.Forward y) q) (same_peer (peer.Back y) q);
}

-- ---- brokers

pub no_brokers : {E : Type 0} (x : ℕ) (rs : List (EndRow E)) → rs ≡ [] → HasBrokers x 0 rs
no_brokers {E} x rs is = record { each = λ q. ap (λ (t : List (EndRow E)). has_peer t q) is ∙ none q }
  where
    low : (y : ℕ) → false ≡ (nat_lt y 0 && not (y == x))
    low y = grind (arith, nat_tests)

    none : (q : Peer) → false ≡ are_brokers x 0 q
    none (peer.Forward y) = low y
    none (peer.Back y) = low y
    none (peer.Client c) = refl
    none (peer.Broker y) = refl

-- n is the next cluster, y any; e is whether they are one, lt whether y is below n, o whether y is the own cluster
next_test : (lt e le o : Bool) → (lt || e) ≡ le → (e ≡ true → o ≡ false) → ((lt && not o) || e) ≡ (le && not o)
next_test true true le o is own = let no = own refl in rw (no, ← is) refl
next_test true false le o is own = rw (← is, or_false (not o)) refl
next_test false true le o is own = let no = own refl in rw (no, ← is) refl
next_test false false le o is own = rw (← is) refl

next_one : (x n y : ℕ) → (n ≡ x → ⊥) → ((nat_lt y n && not (y == x)) || (n == y)) ≡ (nat_lt y (n + 1) && not (y == x))
next_one x n y other = next_test (nat_lt y n) (n == y) (nat_lt y (n + 1)) (y == x) (one_more n y) own
  where
    own : (n == y) ≡ true → (y == x) ≡ false
    own same = grind (arith, nat_tests, same, other)

pub brokers_next : {E : Type 0} (x n : ℕ) (old new : List (EndRow E)) → (n ≡ x → ⊥) → HasBrokers x n old → GainsBroker n old new → HasBrokers x (n + 1) new
brokers_next x n old new other before more = record {
  each = λ q. more.each q ∙ ap (λ (b : Bool). b || (same_peer (peer.Forward n) q || same_peer (peer.Back n) q)) (before.each q) ∙ next q;
}
  where
    next : (q : Peer) → (are_brokers x n q || (same_peer (peer.Forward n) q || same_peer (peer.Back n) q)) ≡ are_brokers x (n + 1) q
    next (peer.Forward y) = ap (λ (b : Bool). (nat_lt y n && not (y == x)) || b) (or_false (n == y)) ∙ next_one x n y other
    next (peer.Back y) = next_one x n y other
    next (peer.Client c) = refl
    next (peer.Broker y) = refl

same_test : (lt e le o : Bool) → (lt || e) ≡ le → (e ≡ true → o ≡ true) → (lt && not o) ≡ (le && not o)
same_test true e le o is own = rw (← is) refl
same_test false true le o is own = let yes = own refl in rw (yes, ← is) refl
same_test false false le o is own = rw (← is) refl

same_one : (x n y : ℕ) → n ≡ x → (nat_lt y n && not (y == x)) ≡ (nat_lt y (n + 1) && not (y == x))
same_one x n y own = same_test (nat_lt y n) (n == y) (nat_lt y (n + 1)) (y == x) (one_more n y) yes
  where
    yes : (n == y) ≡ true → (y == x) ≡ true
    yes same = grind (arith, nat_tests, same, own)

pub brokers_same : {E : Type 0} (x n : ℕ) (rs : List (EndRow E)) → n ≡ x → HasBrokers x n rs → HasBrokers x (n + 1) rs
brokers_same x n rs own before = record { each = λ q. before.each q ∙ next q }
  where
    next : (q : Peer) → are_brokers x n q ≡ are_brokers x (n + 1) q
    next (peer.Forward y) = same_one x n y own
    next (peer.Back y) = same_one x n y own
    next (peer.Client c) = refl
    next (peer.Broker y) = refl

-- ---- clients of a topic

-- all clusters were gone through
pub brokers_done : {E : Type 0} (s : Setup) (t x n : ℕ) (rs : List (EndRow E)) → n ≤ length s.clusters → length s.clusters ≤ n → HasBrokers x n rs → HasClients s t x 0 rs
brokers_done s t x n rs le ge before = record {
  each = λ q. before.each q ∙ ap (λ (m : ℕ). are_brokers x m q) all ∙ sym (or_false (are_brokers x (length s.clusters) q))
      ∙ ap (λ (b : Bool). are_brokers x (length s.clusters) q || b) (none q);
}
  where
    all : n ≡ length s.clusters
    all = omega (arith, le, ge)

    low : (c : ℕ) → false ≡ (nat_lt c 0 && ((declared_at s c).topic == t))
    low c = grind (arith, nat_tests)

    none : (q : Peer) → false ≡ are_clients s t 0 q
    none (peer.Client c) = low c
    none (peer.Forward y) = refl
    none (peer.Back y) = refl
    none (peer.Broker y) = refl

-- c is any client, and o whether it is of the topic
next_of : (lt e le o : Bool) → (lt || e) ≡ le → (e ≡ true → o ≡ true) → ((lt && o) || e) ≡ (le && o)
next_of true true le o is own = let yes = own refl in rw (yes, ← is) refl
next_of true false le o is own = rw (← is, or_false o) refl
next_of false true le o is own = let yes = own refl in rw (yes, ← is) refl
next_of false false le o is own = rw (← is) refl

same_of : (lt e le o : Bool) → (lt || e) ≡ le → (e ≡ true → o ≡ false) → (lt && o) ≡ (le && o)
same_of true e le o is own = rw (← is) refl
same_of false true le o is own = let no = own refl in rw (no, ← is) refl
same_of false false le o is own = rw (← is) refl

next_client : (s : Setup) (t n c : ℕ) → (declared_at s n).topic ≡ t → ((nat_lt c n && ((declared_at s c).topic == t)) || (n == c)) ≡ (nat_lt c (n + 1) && ((declared_at s c).topic == t))
next_client s t n c here = next_of (nat_lt c n) (n == c) (nat_lt c (n + 1)) ((declared_at s c).topic == t) (one_more n c) yes
  where
    yes : (n == c) ≡ true → ((declared_at s c).topic == t) ≡ true
    yes same =
        let is : n ≡ c = grind (arith, nat_tests, same) in
        eq-eqb (declared_at s c).topic t (sym (ap (λ (k : ℕ). (declared_at s k).topic) is) ∙ here)

same_client : (s : Setup) (t n c : ℕ) → ((declared_at s n).topic ≡ t → ⊥) → (nat_lt c n && ((declared_at s c).topic == t)) ≡ (nat_lt c (n + 1) && ((declared_at s c).topic == t))
same_client s t n c away = same_of (nat_lt c n) (n == c) (nat_lt c (n + 1)) ((declared_at s c).topic == t) (one_more n c) no
  where
    no : (n == c) ≡ true → ((declared_at s c).topic == t) ≡ false
    no same =
        let is : n ≡ c = grind (arith, nat_tests, same) in
        eq_apart (declared_at s c).topic t (λ so. away (ap (λ (k : ℕ). (declared_at s k).topic) is ∙ so))

pub clients_next : {E : Type 0} (s : Setup) (t x n : ℕ) (old new : List (EndRow E)) → (declared_at s n).topic ≡ t → HasClients s t x n old → GainsPeer (peer.Client n) old new → HasClients s t x (n + 1) new
clients_next s t x n old new here before more = record {
  each = λ q.
      more.each q ∙ ap (λ (b : Bool). b || same_peer (peer.Client n) q) (before.each q)
      ∙ or_assoc (are_brokers x (length s.clusters) q) (are_clients s t n q) (same_peer (peer.Client n) q)
      ∙ ap (λ (b : Bool). are_brokers x (length s.clusters) q || b) (next q);
}
  where
    next : (q : Peer) → (are_clients s t n q || same_peer (peer.Client n) q) ≡ are_clients s t (n + 1) q
    next (peer.Client c) = next_client s t n c here
    next (peer.Forward y) = refl
    next (peer.Back y) = refl
    next (peer.Broker y) = refl

pub clients_same : {E : Type 0} (s : Setup) (t x n : ℕ) (rs : List (EndRow E)) → ((declared_at s n).topic ≡ t → ⊥) → HasClients s t x n rs → HasClients s t x (n + 1) rs
clients_same s t x n rs away before = record { each = λ q. before.each q ∙ ap (λ (b : Bool). are_brokers x (length s.clusters) q || b) (next q) }
  where
    next : (q : Peer) → are_clients s t n q ≡ are_clients s t (n + 1) q
    next (peer.Client c) = same_client s t n c away
    next (peer.Forward y) = refl
    next (peer.Back y) = refl
    next (peer.Broker y) = refl

pub clients_done : {E : Type 0} (s : Setup) (t x n : ℕ) (rs : List (EndRow E)) → n ≤ length s.clients → length s.clients ≤ n → HasClients s t x n rs → HasPeers s (BrokerNode t x) rs
clients_done s t x n rs le ge before = λ q. before.each q ∙ ap (λ (m : ℕ). are_brokers x (length s.clusters) q || are_clients s t m q) all ∙ each q
  where
    all : n ≡ length s.clients
    all = omega (arith, le, ge)

    each : (q : Peer) → (are_brokers x (length s.clusters) q || are_clients s t (length s.clients) q) ≡ is_peer s (BrokerNode t x) q
    each (peer.Forward y) = or_false _
    each (peer.Back y) = or_false _
    each (peer.Client c) = refl
    each (peer.Broker y) = refl

-- ---- the brokers of a client

pub no_sites : {E : Type 0} (rs : List (EndRow E)) → rs ≡ [] → HasSites 0 rs
no_sites {E} rs is = record { each = λ q. ap (λ (t : List (EndRow E)). has_peer t q) is ∙ none q }
  where
    low : (y : ℕ) → false ≡ nat_lt y 0
    low y = grind (arith, nat_tests)

    none : (q : Peer) → false ≡ are_sites 0 q
    none (peer.Broker y) = low y
    none (peer.Forward y) = refl
    none (peer.Back y) = refl
    none (peer.Client c) = refl

pub sites_next : {E : Type 0} (n : ℕ) (old new : List (EndRow E)) → HasSites n old → GainsPeer (peer.Broker n) old new → HasSites (n + 1) new
sites_next n old new before more = record {
  each = λ q. more.each q ∙ ap (λ (b : Bool). b || same_peer (peer.Broker n) q) (before.each q) ∙ next q;
}
  where
    next : (q : Peer) → (are_sites n q || same_peer (peer.Broker n) q) ≡ are_sites (n + 1) q
    next (peer.Broker y) = one_more n y
    next (peer.Forward y) = refl
    next (peer.Back y) = refl
    next (peer.Client c) = refl

pub sites_done : {E : Type 0} (s : Setup) (c n : ℕ) (rs : List (EndRow E)) → (declared_at s c).topic < length s.topics → n ≤ length s.clusters → length s.clusters ≤ n → HasSites n rs
    → HasPeers s (ClientNode c) rs
sites_done s c n rs there le ge before = λ q. before.each q ∙ ap (λ (m : ℕ). are_sites m q) all ∙ each q
  where
    all : n ≡ length s.clusters
    all = omega (arith, le, ge)

    each : (q : Peer) → are_sites (length s.clusters) q ≡ is_peer s (ClientNode c) q
    each (peer.Broker x) = rw (lt-ltb _ _ there) refl
    each (peer.Forward y) = refl
    each (peer.Back y) = refl
    each (peer.Client d) = refl

-- ---- rings that nothing went through

pub none_opened : (rs : List (EndRow RingEnd)) → rs ≡ [] → AreOpened rs
none_opened rs is = subst AreOpened (sym is) tt

pub one_opened : (old new : List (EndRow RingEnd)) (r : EndRow RingEnd) → AreOpened old → IsOpened r → new ≡ old ++ r ∷ [] → AreOpened new
one_opened old new r all one pushed = subst AreOpened (sym pushed) (more old all)
  where
    more : (rs : List (EndRow RingEnd)) → AreOpened rs → AreOpened (rs ++ r ∷ [])
    more [] h = (one, tt)
    more (x ∷ rs) h = (h.0, more rs h.1)

-- ---- rings that wait

pub found_within : (o : Option ℕ) (at n : ℕ) → IfSome o (λ k. k < n) → o ≡ Some at → at < n
found_within o at n within is = subst (λ (u : Option ℕ). IfSome u (λ k. k < n)) is within

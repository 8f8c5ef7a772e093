-- A world as it begins.
use Rattle.std.proofs.Common.{◌≡◌, ℕ, zero, suc, ◌+◌, ◌*◌, ◌/◌, ◌<◌, List, [], ◌∷◌, ◌++◌, length, map, take, refl, sym, ◌∙◌, ap, subst, arith}
use Rattle.std.proofs.lemmas.List.{length-map, length-replicate, map-append, replicate_more, take_more}
use Rattle.std.proofs.lemmas.Nat.{div-mul-add}
use Rattle.std.specs.Prelude.{replicate, slice_index_or}
use Rattle.geo_base.specs.Broker.{Broker, new_broker}
use Rattle.geo_base.specs.Client.{Client, new_client}
use Rattle.geo_base.specs.Scripted.{IsScripted}
use Rattle.geo_base.specs.Setup.{Declared, Setup, declared_at, nobody}
use Rattle.geo_base.specs.World.{node, opening_world}
use Rattle.broker.specs.Events.{IsNodeOf}
use Rattle.broker.specs.Node.{BrokerView}
use Rattle.links.specs.Queues.{empty_links}
use Rattle.kept_laws.proofs.Keeping.{opening}
use Rattle.kept_laws.specs.Kept.{Kept, opening_kept}
use Rattle.kept_laws.specs.Standing.{Stands}
use Rattle.world_laws.proofs.Replicating.Sizes.{node_lt}
use Rattle.kept_laws.proofs.Reaching.{opening_reached}
use Rattle.world.specs.Opening.{AreNew}
use Rattle.world.specs.World.{AreNodes, IsAt, WorldView, kept_of, no_node}

-- ---- brokers

pub none_yet : (s : Setup) → AreNew s 0 []
none_yet s = record { brokers = refl; each = λ t x lt under. absurd (omega (arith, under)) }

-- an item after others
pushed_at : {X : Type 0} (P : X → Type 0) (xs : List X) (x d : X) (k : ℕ) → k < length xs + 1 → (k < length xs → P (slice_index_or xs k d)) → (k ≡ length xs → P x)
    → P (slice_index_or (xs ++ x ∷ []) k d)
pushed_at P [] x d zero lt before last = last refl
pushed_at P [] x d (suc k) lt before last = absurd (omega (arith, lt))
pushed_at P (y ∷ ys) x d zero lt before last = before (omega arith)
pushed_at P (y ∷ ys) x d (suc k) lt before last =
    pushed_at P ys x d k (omega (arith, lt)) (λ here. before (omega (arith, here))) (λ is. last (ap suc is))

-- topic and cluster of a broker's number
same_numbers : (c t x u y : ℕ) → x < c → y < c → u * c + y ≡ t * c + x → (u ≡ t) × (y ≡ x)
same_numbers c t x u y here there is =
    let topic : u ≡ t = sym (div-mul-add u c y there) ∙ ap (λ (k : ℕ). k / c) is ∙ div-mul-add t c x here in
    let rows : u * c ≡ t * c = ap (λ (k : ℕ). k * c) topic in
    (topic, omega (arith, is, rows))

same_node : (s : Setup) (t x u y : ℕ) (v : BrokerView) → x < length s.clusters → y < length s.clusters → node s u y ≡ node s t x → IsNodeOf s t x v → IsNodeOf s u y v
same_node s t x u y v here there is h =
    let same = same_numbers (length s.clusters) t x u y here there is in
    subst (λ (k : ℕ). IsNodeOf s u k v) (sym same.1) (subst (λ (k : ℕ). IsNodeOf s k x v) (sym same.0) h)

new_size : (s : Setup) (n : ℕ) (vs : List BrokerView) → AreNew s n vs → length vs ≡ n
new_size s n vs h =
    sym (length-map vs (λ (v : BrokerView). v.broker)) ∙ ap (λ (bs : List Broker). length bs) h.brokers ∙ length-replicate n (new_broker (length s.clusters) (length s.clients))

pub one_more_node : (s : Setup) (vs : List BrokerView) (t x : ℕ) (v : BrokerView) → x < length s.clusters → AreNew s (t * length s.clusters + x) vs → IsNodeOf s t x v
    → v.broker ≡ new_broker (length s.clusters) (length s.clients) → AreNew s (t * length s.clusters + (x + 1)) (vs ++ v ∷ [])
one_more_node s vs t x v here h is broker =
    let n : ℕ = node s t x in let b = new_broker (length s.clusters) (length s.clients) in let size : length vs ≡ n = new_size s n vs h in
    let next : n + 1 ≡ t * length s.clusters + (x + 1) = omega arith in
    subst (λ (k : ℕ). AreNew s k (vs ++ v ∷ [])) next (record {
      brokers = map-append (λ (u : BrokerView). u.broker) vs (v ∷ []) ∙ ap (λ (bs : List Broker). bs ++ v.broker ∷ []) h.brokers
          ∙ ap (λ (c : Broker). replicate n b ++ c ∷ []) broker ∙ replicate_more n b;
      each = λ u y there under. pushed_at (IsNodeOf s u y) vs v no_node (node s u y) (omega (arith, under, size))
          (λ before. h.each u y there (omega (arith, before, size))) (λ last. same_node s t x u y v here there (last ∙ size) is);
    })

-- ---- clients

pub one_client_more : (s : Setup) (c : ℕ) (ms : List Client) (m : Client) → c < length s.clients → ms ≡ map new_client (take c s.clients) → m ≡ new_client (declared_at s c)
    → ms ++ m ∷ [] ≡ map new_client (take (c + 1) s.clients)
one_client_more s c ms m lt is client =
    ap (λ (ks : List Client). ks ++ m ∷ []) is ∙ ap (λ (k : Client). map new_client (take c s.clients) ++ k ∷ []) client
    ∙ sym (ap (λ (ds : List Declared). map new_client ds) (take_more s.clients c nobody lt) ∙ map-append new_client (take c s.clients) (declared_at s c ∷ []))

-- ---- the world

new_nodes : (s : Setup) (vs : List BrokerView) → AreNew s (length s.topics * length s.clusters) vs → AreNodes s vs
new_nodes s vs h = record { count = new_size s (length s.topics * length s.clusters) vs h; each = λ t x topic cluster. h.each t x cluster (node_lt s t x (topic, cluster)) }

pub new_kept : (s : Setup) (b : WorldView) → AreNew s (length s.topics * length s.clusters) b.brokers → b.clients ≡ map new_client s.clients
    → b.links ≡ empty_links (length s.topics) (length s.clusters) (length s.clients) → b.broker_clocks ≡ replicate (length s.topics * length s.clusters) 0
    → b.client_clocks ≡ replicate (length s.clients) 0 → b.events ≡ 0 → b.idle ≡ 0 → b.rounds ≡ 0 → b.frame_bytes ≡ 0 → kept_of b ≡ opening_kept s
new_kept s b brokers clients links broker_clocks client_clocks events idle rounds frame_bytes = let bs = brokers.brokers in cc

pub new_at : (s : Setup) (b : WorldView) → IsScripted s → AreNew s (length s.topics * length s.clusters) b.brokers → kept_of b ≡ opening_kept s → IsAt s b
new_at s b scripted brokers kept =
    let counts : b.events + b.idle ≡ 0 = ap (λ (k : Kept). k.events + k.idle) kept in let bytes : b.frame_bytes ≡ 0 = ap (λ (k : Kept). k.frame_bytes) kept in
    record {
      setup = scripted;
      brokers = new_nodes s b.brokers brokers;
      world = opening_world s;
      reached = opening_reached s;
      stands = subst (λ (k : Kept). Stands s k (opening_world s)) (sym kept) (opening s);
      within = record { few = omega (arith, counts); short = omega (arith, bytes) };
    }

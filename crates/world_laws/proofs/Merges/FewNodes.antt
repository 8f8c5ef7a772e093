-- A script has few nodes, and each number of one is that of a node.
use Rattle.std.proofs.Common.{◌≡◌, ℕ, zero, suc, ◌+◌, ◌*◌, ◌<◌, ◌≤◌, ◌^◌, ◌==◌, true, List, [], ◌∷◌, length, refl, arith}
use Rattle.std.proofs.lemmas.Bool.{ltb-true}
use Rattle.std.proofs.lemmas.Bool.Decides.{nat_tests}
use Rattle.std.proofs.lemmas.Nat.{mul-le}
use Rattle.std.specs.Prelude.{filter, nat_lt}
use Rattle.std.specs.List.{list_all}
use Rattle.geo_base.specs.Nodes.{broker_count, node_count}
use Rattle.geo_base.specs.Scripted.{IsScripted, is_declared}
use Rattle.geo_base.specs.Setup.{Declared, Setup, declared_at, nobody}
use Rattle.world_laws.proofs.Merges.ClientRoams.{all_index}
use Rattle.world_laws.proofs.Replicating.Sizes.{node_lt}
use Rattle.world_laws.proofs.Walks.Walk.{left, right}

-- ---- clients

abbrev pub below : ℕ → List Declared → List Declared
below n ds = filter (λ (d : Declared). nat_lt d.topic n) ds

abbrev pub of_topic : ℕ → List Declared → List Declared
of_topic n ds = filter (λ (d : Declared). d.topic == n) ds

one_topic_more : (n : ℕ) (ds : List Declared) → length (below (suc n) ds) ≤ length (below n ds) + length (of_topic n ds)
one_topic_more n [] = omega arith
one_topic_more n (d ∷ ds) = grind (arith, nat_tests, one_topic_more n ds)

none_below : (ds : List Declared) → length (below 0 ds) ≡ 0
none_below [] = refl
none_below (d ∷ ds) = grind (arith, nat_tests, none_below ds)

few_below : (n : ℕ) (ds : List Declared) → ((t : ℕ) → length (of_topic t ds) ≤ 32) → length (below n ds) ≤ n * 32
few_below zero ds few = omega (arith, none_below ds)
few_below (suc n) ds few =
    let more : length (below (suc n) ds) ≤ length (below n ds) + length (of_topic n ds) = one_topic_more n ds in
    let before : length (below n ds) ≤ n * 32 = few_below n ds few in let here : length (of_topic n ds) ≤ 32 = few n in
    omega (arith, more, before, here)

all_below : (s : Setup) (ds : List Declared) → list_all (is_declared s) ds ≡ true → length ds ≤ length (below (length s.topics) ds)
all_below s [] h = omega arith
all_below s (d ∷ ds) h = grind (arith, nat_tests, h, all_below s ds)

pub few_clients : (s : Setup) → IsScripted s → length s.clients ≤ 512
few_clients s h =
    let all : length s.clients ≤ length (below (length s.topics) s.clients) = all_below s s.clients h.clients.0 in
    let few : length (below (length s.topics) s.clients) ≤ length s.topics * 32 = few_below (length s.topics) s.clients (λ t. (h.of_a_topic t).0) in
    omega (arith, all, few, h.topics.1)

-- the topic of a client is one
pub topic_there : (s : Setup) (c : ℕ) → IsScripted s → c < length s.clients → (declared_at s c).topic < length s.topics
topic_there s c h lt =
    let all = all_index (is_declared s) s.clients c nobody h.clients.0 lt in
    ltb-true _ _ (right _ _ (left _ _ (left _ _ (left _ _ all))))

-- ---- brokers

pub few_brokers : (s : Setup) → IsScripted s → broker_count s ≤ 128
few_brokers s h = mul-le (length s.topics) (length s.clusters) 16 8 h.topics.1 h.clusters.1

pub few_clusters : (s : Setup) → IsScripted s → length s.clusters ≤ 8
few_clusters s h = h.clusters.1

pub few_topics : (s : Setup) → IsScripted s → length s.topics ≤ 16
few_topics s h = h.topics.1

-- numbers of 32 bits for the topic and for the cluster name a number of 64
pub broker_fits : (s : Setup) (t x : ℕ) → IsScripted s → t < 2 ^ 32 → x < 2 ^ 32 → t * length s.clusters + x < 2 ^ 64
broker_fits s t x h u y = let few = mul-le t (length s.clusters) (2 ^ 32) 8 (omega (arith, u)) h.clusters.1 in omega (arith, few, y)

-- a number of a node is below how many there are
pub broker_there : (s : Setup) (t x : ℕ) → t < length s.topics → x < length s.clusters → t * length s.clusters + x < node_count s
broker_there s t x u y = let lt = node_lt s t x (u, y) in omega (arith, lt)

pub client_there : (s : Setup) (c : ℕ) → c < length s.clients → broker_count s + c < node_count s
client_there s c lt = omega (arith, lt)

-- What a reader keeps of all nodes, by number: the place of one, and how one is set.
use Rattle.std.proofs.Common.{◌≡◌, ℕ, zero, suc, ◌+◌, ◌%◌, ◌<◌, List, [], ◌∷◌, length, refl, sym, ap, ◌∙◌, arith}
use Rattle.std.specs.Prelude.{slice_index_or, slice_set}
use Rattle.std.proofs.lemmas.List.{set-get_or}
use Rattle.geo_base.specs.Broker.{Broker, no_broker}
use Rattle.geo_base.specs.Client.{Client}
use Rattle.geo_base.specs.Nodes.{BrokerNode, ClientNode}
use Rattle.geo_base.specs.Setup.{Setup, declared_at}
use Rattle.geo_base.specs.World.{node}
use Rattle.step_laws.specs.Steps.{ReportChange, unless_none}
use Rattle.step_laws.specs.StepsFold.{Kept, KeptBroker, KeptClient, broker_reads_all, client_reads_all, kept_broker, kept_brokers, kept_client, kept_clients, no_broker_kept, no_client_kept, reads_changed}

-- ---- by number

pub broker_place : (s : Setup) (i n : ℕ) (bs : List Broker) → n < length bs
    → slice_index_or (kept_brokers s i bs) n no_broker_kept ≡ kept_broker s ((i + n) % length s.clusters) (slice_index_or bs n no_broker)
broker_place s i n [] lt = absurd (omega (arith, lt))
broker_place s i zero (b ∷ bs) lt = ap (λ (m : ℕ). kept_broker s (m % length s.clusters) b) (omega arith)
broker_place s i (suc n) (b ∷ bs) lt =
    let more : i + 1 + n ≡ i + suc n = omega arith in
    broker_place s (i + 1) n bs (omega (arith, lt)) ∙ ap (λ (m : ℕ). kept_broker s (m % length s.clusters) (slice_index_or bs n no_broker)) more

pub broker_set : (s : Setup) (i n : ℕ) (bs : List Broker) (b : Broker)
    → slice_set (kept_brokers s i bs) n (kept_broker s ((i + n) % length s.clusters) b) ≡ kept_brokers s i (slice_set bs n b)
broker_set s i n [] b = refl
broker_set s i zero (a ∷ bs) b = ap (λ (m : ℕ). kept_broker s (m % length s.clusters) b ∷ kept_brokers s (i + 1) bs) (omega arith)
broker_set s i (suc n) (a ∷ bs) b =
    let more : i + suc n ≡ i + 1 + n = omega arith in
    ap (λ (ks : List KeptBroker). kept_broker s (i % length s.clusters) a ∷ ks)
    (ap (λ (m : ℕ). slice_set (kept_brokers s (i + 1) bs) n (kept_broker s (m % length s.clusters) b)) more ∙ broker_set s (i + 1) n bs b)

pub brokers_length : (s : Setup) (i : ℕ) (bs : List Broker) → length (kept_brokers s i bs) ≡ length bs
brokers_length s i [] = refl
brokers_length s i (b ∷ bs) = ap suc (brokers_length s (i + 1) bs)

pub client_place : (s : Setup) (i n : ℕ) (ks : List Client) (d : Client) → n < length ks
    → slice_index_or (kept_clients s i ks) n no_client_kept ≡ kept_client s (declared_at s (i + n)) (slice_index_or ks n d)
client_place s i n [] d lt = absurd (omega (arith, lt))
client_place s i zero (k ∷ ks) d lt = ap (λ (m : ℕ). kept_client s (declared_at s m) k) (omega arith)
client_place s i (suc n) (k ∷ ks) d lt =
    let more : i + 1 + n ≡ i + suc n = omega arith in
    client_place s (i + 1) n ks d (omega (arith, lt)) ∙ ap (λ (m : ℕ). kept_client s (declared_at s m) (slice_index_or ks n d)) more

pub client_set : (s : Setup) (i n : ℕ) (ks : List Client) (m : Client)
    → slice_set (kept_clients s i ks) n (kept_client s (declared_at s (i + n)) m) ≡ kept_clients s i (slice_set ks n m)
client_set s i n [] m = refl
client_set s i zero (k ∷ ks) m = ap (λ (j : ℕ). kept_client s (declared_at s j) m ∷ kept_clients s (i + 1) ks) (omega arith)
client_set s i (suc n) (k ∷ ks) m =
    let more : i + suc n ≡ i + 1 + n = omega arith in
    ap (λ (js : List KeptClient). kept_client s (declared_at s i) k ∷ js)
    (ap (λ (j : ℕ). slice_set (kept_clients s (i + 1) ks) n (kept_client s (declared_at s j) m)) more ∙ client_set s (i + 1) n ks m)

pub clients_length : (s : Setup) (i : ℕ) (ks : List Client) → length (kept_clients s i ks) ≡ length ks
clients_length s i [] = refl
clients_length s i (k ∷ ks) = ap suc (clients_length s (i + 1) ks)

-- ---- what is told of one node, also where it is nothing

pub reads_broker : (s : Setup) (k : Kept) (t x : ℕ) (cs : List ReportChange)
    → reads_changed s k (unless_none (BrokerNode t x) cs)
    ≡ record k { brokers = slice_set k.brokers (node s t x) (broker_reads_all (slice_index_or k.brokers (node s t x) no_broker_kept) cs) }
reads_broker s k t x [] = ap (λ (bs : List KeptBroker). record k { brokers = bs }) (sym (set-get_or k.brokers (node s t x) no_broker_kept))
reads_broker s k t x (c ∷ cs) = refl

pub reads_client : (s : Setup) (k : Kept) (c : ℕ) (cs : List ReportChange)
    → reads_changed s k (unless_none (ClientNode c) cs)
    ≡ record k { clients = slice_set k.clients c (client_reads_all (slice_index_or k.clients c no_client_kept) cs) }
reads_client s k c [] = ap (λ (js : List KeptClient). record k { clients = js }) (sym (set-get_or k.clients c no_client_kept))
reads_client s k c (e ∷ cs) = refl

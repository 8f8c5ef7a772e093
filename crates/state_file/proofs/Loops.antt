-- Brokers and clients read one after the other.
use Rattle.std.proofs.Common.{◌≡◌, ℕ, ◌+◌, ◌-◌, ◌*◌, ◌%◌, ◌<◌, ◌≤◌, List, [], ◌∷◌, ◌++◌, length, map, get_or, Ok, refl, sym, ap, subst, ◌∙◌, arith}
use Rattle.std.proofs.lemmas.List.{length-append, length-map, map_push, get_or_default}
use Rattle.client.specs.declared.client.state.ClientState.{ClientState}
use Rattle.client.specs.State.{stopped}
use Rattle.geo_base.specs.Broker.{Broker}
use Rattle.geo_base.specs.Client.{Client}
use Rattle.geo_base.specs.Setup.{Declared, Setup, nobody}
use Rattle.state_nodes.specs.Clients.{client_at}
use Rattle.state_items.specs.declared.fault.ItemFault.{ItemFault}
use Rattle.state_items.specs.Reading.{Fails, Read, many}
use Rattle.state_items.specs.Telling.{Many, TellsFault}
use Rattle.state_items.proofs.Loops as loops
use Rattle.state_items.proofs.Many as told
use Rattle.state_nodes.specs.declared.brokers.NodeParts.{NodeParts}
use Rattle.state_nodes.specs.Nodes.{IsNode, broker_of}
use Rattle.state_file.specs.Reading.{AreNodes, IsNodeBehind, client_behind}

-- ---- brokers

abbrev pub all_nodes : Setup → ℕ
all_nodes s = length s.topics * length s.clusters

-- so many were read, and each answer of what is left of them is one of all
pub record NodesGo (version : ℕ) (s : Setup) (i : ℕ) (items : List NodeParts) (rest bytes : List ℕ) : Type 0 where
  pub passed : length items ≡ i
  pub goes : (answer : Read (List Broker)) → Many (IsNodeBehind version s) (all_nodes s - i) (map broker_of items) rest answer → AreNodes version s bytes answer

pub nodes_begin : (version : ℕ) (s : Setup) (bytes : List ℕ) → NodesGo version s 0 [] bytes bytes
nodes_begin version s bytes = record {
  passed = refl;
  goes = λ answer h.
      let k : all_nodes s - 0 ≡ all_nodes s = omega arith in
      subst (λ (n : ℕ). Many (IsNodeBehind version s) n [] bytes answer) k h;
}

place : (items : List NodeParts) (i : ℕ) → length items ≡ i → i ≡ length (map broker_of items)
place items i e = sym (length-map items broker_of ∙ e)

pub node_more : (version : ℕ) (s : Setup) (i : ℕ) (items new : List NodeParts) (x : NodeParts) (rest after bytes : List ℕ) → i < all_nodes s → new ≡ items ++ x ∷ []
    → IsNode version s.per_ledger s.clusters (i % length s.clusters) rest (Ok (broker_of x, after)) → NodesGo version s i items rest bytes → NodesGo version s (i + 1) new after bytes
node_more version s i items new x rest after bytes lt e h so_far =
    let here : IsNodeBehind version s (map broker_of items) rest (Ok (broker_of x, after)) =
    subst (λ (n : ℕ). IsNode version s.per_ledger s.clusters (n % length s.clusters) rest (Ok (broker_of x, after))) (place items i so_far.passed) h in
    let pushed : map broker_of new ≡ map broker_of items ++ broker_of x ∷ [] = ap (λ (xs : List NodeParts). map broker_of xs) e ∙ map_push broker_of items x in
    record {
      passed = ap (λ (xs : List NodeParts). length xs) e ∙ omega (arith, length-append items (x ∷ []), so_far.passed);
      goes = told.goes_on (IsNodeBehind version s) (all_nodes s) i (map broker_of items) (map broker_of new) rest (broker_of x) after (AreNodes version s bytes) lt pushed here so_far.goes;
    }

pub node_ends : (version : ℕ) (s : Setup) (i : ℕ) (items : List NodeParts) (rest bytes : List ℕ) (e : ItemFault) → i < all_nodes s
    → TellsFault e (IsNode version s.per_ledger s.clusters (i % length s.clusters) rest) → NodesGo version s i items rest bytes → TellsFault e (AreNodes version s bytes)
node_ends version s i items rest bytes e lt h so_far =
    let here : TellsFault e (IsNodeBehind version s (map broker_of items) rest) =
    subst (λ (n : ℕ). TellsFault e (IsNode version s.per_ledger s.clusters (n % length s.clusters) rest)) (place items i so_far.passed) h in
    told.ends (IsNodeBehind version s) e (all_nodes s) i (map broker_of items) rest (AreNodes version s bytes) lt here so_far.goes

pub nodes_done : (version : ℕ) (s : Setup) (i : ℕ) (items : List NodeParts) (rest bytes : List ℕ) → all_nodes s ≤ i → NodesGo version s i items rest bytes → AreNodes version s bytes (Ok (map broker_of items, rest))
nodes_done version s i items rest bytes le so_far =
    told.is_done (IsNodeBehind version s) (all_nodes s) i (map broker_of items) rest (AreNodes version s bytes) le so_far.goes

-- ---- clients

pub record ClientsGo (s : Setup) (i : ℕ) (items : List ClientState) (rest bytes : List ℕ) : Type 0 where
  pub passed : length items ≡ i
  pub left : many (client_behind s) (length s.clients - i) (map stopped items) rest ≡ many (client_behind s) (length s.clients) [] bytes

pub clients_begin : (s : Setup) (bytes : List ℕ) → ClientsGo s 0 [] bytes bytes
clients_begin s bytes = record {
  passed = refl;
  left =
      let k : length s.clients - 0 ≡ length s.clients = omega arith in
      ap (λ (n : ℕ). many (client_behind s) n [] bytes) k;
}

client_here : (s : Setup) (i : ℕ) (d : Declared) (items : List ClientState) (rest : List ℕ) → i < length s.clients → length items ≡ i → client_at (length s.clusters) (get_or s.clients i d).lines rest ≡ client_behind s (map stopped items) rest
client_here s i d items rest lt e =
    let at : i ≡ length (map stopped items) = sym (length-map items stopped ∙ e) in
    ap (λ (x : Declared). client_at (length s.clusters) x.lines rest) (get_or_default s.clients i d nobody lt)
    ∙ ap (λ (n : ℕ). client_at (length s.clusters) (get_or s.clients n nobody).lines rest) at

pub client_more : (s : Setup) (i : ℕ) (d : Declared) (items new : List ClientState) (x : ClientState) (rest after bytes : List ℕ) → i < length s.clients → new ≡ items ++ x ∷ []
    → client_at (length s.clusters) (get_or s.clients i d).lines rest ≡ Ok (stopped x, after) → ClientsGo s i items rest bytes → ClientsGo s (i + 1) new after bytes
client_more s i d items new x rest after bytes lt e h so_far =
    let here : client_behind s (map stopped items) rest ≡ Ok (stopped x, after) = sym (client_here s i d items rest lt so_far.passed) ∙ h in
    let pushed : map stopped new ≡ map stopped items ++ stopped x ∷ [] = ap (λ (xs : List ClientState). map stopped xs) e ∙ map_push stopped items x in
    record {
      passed = ap (λ (xs : List ClientState). length xs) e ∙ omega (arith, length-append items (x ∷ []), so_far.passed);
      left = loops.goes_on (client_behind s) (length s.clients) i (map stopped items) (map stopped new) rest (stopped x) after (many (client_behind s) (length s.clients) [] bytes) lt pushed here so_far.left;
    }

pub client_ends : (s : Setup) (i : ℕ) (d : Declared) (items : List ClientState) (rest bytes : List ℕ) (e : ItemFault) → i < length s.clients
    → Fails e (client_at (length s.clusters) (get_or s.clients i d).lines rest) → ClientsGo s i items rest bytes → Fails e (many (client_behind s) (length s.clients) [] bytes)
client_ends s i d items rest bytes e lt h so_far =
    let here : Fails e (client_behind s (map stopped items) rest) = subst (λ (r : Read Client). Fails e r) (client_here s i d items rest lt so_far.passed) h in
    loops.ends (client_behind s) e (length s.clients) i (map stopped items) rest (many (client_behind s) (length s.clients) [] bytes) lt here so_far.left

pub clients_done : (s : Setup) (i : ℕ) (items : List ClientState) (rest bytes : List ℕ) → length s.clients ≤ i → ClientsGo s i items rest bytes → many (client_behind s) (length s.clients) [] bytes ≡ Ok (map stopped items, rest)
clients_done s i items rest bytes le so_far =
    loops.is_done (client_behind s) (length s.clients) i (map stopped items) rest (many (client_behind s) (length s.clients) [] bytes) le so_far.left

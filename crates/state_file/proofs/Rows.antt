-- Brokers and clients written one after the other.
use Rattle.std.proofs.Common.{◌≡◌, ℕ, zero, suc, ◌+◌, ◌%◌, ◌<◌, ◌≤◌, List, [], ◌∷◌, ◌++◌, length, get_or, drop, map, refl, sym, ap, subst, ◌∙◌, append_assoc, arith}
use Rattle.std.specs.List.{All}
use Rattle.std.proofs.lemmas.List.{append-nil, get_or-map, length-map}
use Rattle.client.specs.declared.client.state.ClientState.{ClientState}
use Rattle.client.specs.State.{stopped}
use Rattle.geo_base.specs.Broker.{Broker}
use Rattle.geo_base.specs.Client.{Client}
use Rattle.state_nodes.specs.Clients.{client_text}
use Rattle.state_file.specs.Texts.{clients_text, nodes_from}
use Rattle.state_nodes.specs.declared.brokers.NodeParts.{NodeParts}
use Rattle.state_nodes.specs.Nodes.{broker_of, node_text}
use Rattle.state_nodes.specs.Writing.{CanWrite}

-- ---- brokers

pub node_can : (ps : List NodeParts) (k : ℕ) (d : NodeParts) → All CanWrite (map broker_of ps) → k < length ps → CanWrite (broker_of (get_or ps k d))
node_can ps k d h lt = subst CanWrite (get_or-map broker_of ps k d (broker_of d) lt) (h k (broker_of d) (omega (arith, lt, length-map ps broker_of)))

next_node : (names : List (List ℕ)) (ps : List NodeParts) (k y : ℕ) (d : NodeParts) → k < length ps → nodes_from names y (drop k (map broker_of ps)) ≡ node_text names (y % length names) (broker_of (get_or ps k d)) ++ nodes_from names (y + 1) (drop (suc k) (map broker_of ps))
next_node names [] k y d lt = absurd (omega (arith, lt))
next_node names (p ∷ ps) zero y d lt = refl
next_node names (p ∷ ps) (suc k) y d lt = next_node names ps k y d (omega (arith, lt))

pub nodes_step : (names : List (List ℕ)) (ps : List NodeParts) (k : ℕ) (d : NodeParts) (out new total : List ℕ) → k < length ps → out ++ nodes_from names k (drop k (map broker_of ps)) ≡ total
    → new ≡ out ++ node_text names (k % length names) (broker_of (get_or ps k d)) → new ++ nodes_from names (k + 1) (drop (k + 1) (map broker_of ps)) ≡ total
nodes_step names ps k d out new total lt so_far e =
    let rest : List ℕ = nodes_from names (k + 1) (drop (suc k) (map broker_of ps)) in
    let next : k + 1 ≡ suc k = omega arith in
    ap (λ (i : ℕ). new ++ nodes_from names (k + 1) (drop i (map broker_of ps))) next
    ∙ ap (λ (x : List ℕ). x ++ rest) e
    ∙ append_assoc out (node_text names (k % length names) (broker_of (get_or ps k d))) rest
    ∙ ap (λ (x : List ℕ). out ++ x) (sym (next_node names ps k k d lt))
    ∙ so_far

none_left : {A B : Type 0} (f : A → B) (xs : List A) (k : ℕ) → length xs ≤ k → drop k (map f xs) ≡ []
none_left f [] zero le = refl
none_left f [] (suc k) le = refl
none_left f (x ∷ xs) zero le = absurd (omega (arith, le))
none_left f (x ∷ xs) (suc k) le = none_left f xs k (omega (arith, le))

pub nodes_end : (names : List (List ℕ)) (ps : List NodeParts) (k : ℕ) (out total : List ℕ) → length ps ≤ k → out ++ nodes_from names k (drop k (map broker_of ps)) ≡ total → out ≡ total
nodes_end names ps k out total le so_far =
    sym (append-nil out) ∙ ap (λ (bs : List Broker). out ++ nodes_from names k bs) (sym (none_left broker_of ps k le)) ∙ so_far

-- ---- clients

next_client : (ks : List ClientState) (k : ℕ) (d : ClientState) → k < length ks → clients_text (drop k (map stopped ks)) ≡ client_text (stopped (get_or ks k d)) ++ clients_text (drop (suc k) (map stopped ks))
next_client [] k d lt = absurd (omega (arith, lt))
next_client (x ∷ ks) zero d lt = refl
next_client (x ∷ ks) (suc k) d lt = next_client ks k d (omega (arith, lt))

pub clients_step : (ks : List ClientState) (k : ℕ) (d : ClientState) (out new total : List ℕ) → k < length ks → out ++ clients_text (drop k (map stopped ks)) ≡ total
    → new ≡ out ++ client_text (stopped (get_or ks k d)) → new ++ clients_text (drop (k + 1) (map stopped ks)) ≡ total
clients_step ks k d out new total lt so_far e =
    let rest : List ℕ = clients_text (drop (suc k) (map stopped ks)) in
    let next : k + 1 ≡ suc k = omega arith in
    ap (λ (i : ℕ). new ++ clients_text (drop i (map stopped ks))) next
    ∙ ap (λ (x : List ℕ). x ++ rest) e
    ∙ append_assoc out (client_text (stopped (get_or ks k d))) rest
    ∙ ap (λ (x : List ℕ). out ++ x) (sym (next_client ks k d lt))
    ∙ so_far

pub clients_end : (ks : List ClientState) (k : ℕ) (out total : List ℕ) → length ks ≤ k → out ++ clients_text (drop k (map stopped ks)) ≡ total → out ≡ total
clients_end ks k out total le so_far =
    sym (append-nil out) ∙ ap (λ (xs : List Client). out ++ clients_text xs) (sym (none_left stopped ks k le)) ∙ so_far

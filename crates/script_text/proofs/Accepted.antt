-- What is kept of an accepted script: it is a scenario.
use Rattle.std.proofs.Common.{◌≡◌, ℕ, ◌^◌, ◌<◌, ◌≤◌, nat_lt, Bool, true, ◌&&◌, List, [], ◌∷◌, length, All, IfSome, Result, Ok, Err, arith, refl}
use Rattle.std.specs.List.{list_all}
use Rattle.std.specs.Prelude.{OnOk}
use Rattle.std.proofs.lemmas.Bool.{and_from, lt-ltb}
use Rattle.std.proofs.lemmas.List.Elements.{All-head, All-tail, All-weaker}
use Rattle.geo_base.specs.Name.{is_name}
use Rattle.geo_base.specs.Scripted.{IsScripted, is_declared, is_line, stays_or_is_silent}
use Rattle.geo_base.specs.Setup.{Declared, Setup}
use Rattle.script_text.specs.Drafts.{IsDeclared}
use Rattle.script_text.specs.Kept.{IsKept, IsKeptClient, IsKeptLine}
use Rattle.script_text.specs.Rules.{script_with}
use Rattle.script_text.specs.Scenario.{IsChance, IsClient, IsScenario, IsStep, has_printable_text}
use Rattle.script_text.specs.Script.{Declarations, Steps}

list_all-from : {X : Type 0} (P : X → Type 0) (p : X → Bool) → ((x : X) → P x → p x ≡ true) → (xs : List X) → All P xs → list_all p xs ≡ true
list_all-from P p each [] all = refl
list_all-from P p each (x ∷ xs) all =
    and_from (p x) (list_all p xs) (each x (All-head P x xs all)) (list_all-from P p each xs (All-tail P x xs all))

client_is : (n : ℕ) (s : Setup) (d : Declared) → IsKeptClient n s d → is_declared s d ≡ true
client_is n s d k =
    and_from (is_name d.name && nat_lt d.topic (length s.topics) && nat_lt d.cluster (length s.clusters) && list_all (is_line s) d.lines) (stays_or_is_silent d.lines) (and_from (is_name d.name && nat_lt d.topic (length s.topics) && nat_lt d.cluster (length s.clusters)) (list_all (is_line s) d.lines) (and_from (is_name d.name && nat_lt d.topic (length s.topics)) (nat_lt d.cluster (length s.clusters)) (and_from (is_name d.name) (nat_lt d.topic (length s.topics)) k.name (lt-ltb _ _ k.topic)) (lt-ltb _ _ k.cluster)) (list_all-from (IsKeptLine s) (is_line s) (λ l m. m.known) d.lines k.lines)) k.silent

client_known : (n : ℕ) (s : Setup) → n ≤ 2 ^ 32 → (d : Declared) → IsKeptClient n s d → IsClient d
client_known n s few d k = record {
  few = omega (arith, k.few);
  texts = list_all-from (IsKeptLine s) has_printable_text (λ l m. m.text) d.lines k.lines;
}

pub kept_clients : (n : ℕ) (d : Declarations) → n ≤ 2 ^ 32 → IsKept n d → All IsClient d.setup.clients
kept_clients n d few k =
    All-weaker (IsKeptClient n d.setup) IsClient (client_known n d.setup few) d.setup.clients k.clients.each

pub kept_declared : (n : ℕ) (d : Declarations) → IsKept n d → IsDeclared d.setup
kept_declared n d k = record {
  ledger = k.ledger;
  clusters = k.clusters.names;
  few_clusters = k.clusters.few;
  topics = k.topics.names;
  few_topics = k.topics.few;
  pair = k.topics.pair;
  clients = list_all-from (IsKeptClient n d.setup) (is_declared d.setup) (client_is n d.setup) d.setup.clients k.clients.each;
  clients_apart = k.clients.apart;
  of_a_topic = λ t. (k.clients.of_topic t, k.clients.subs t);
}

-- with a topic there is all that a script needs
pub scripted : (s : Setup) → IsDeclared s → 0 < length s.topics → IsScripted s
scripted s k some = record {
  ledger = k.ledger;
  clusters = (k.pair some, k.few_clusters);
  topics = (omega arith, k.few_topics);
  cluster_names = (k.clusters.each, k.clusters.apart);
  topic_names = (k.topics.each, k.topics.apart);
  clients = (k.clients, k.clients_apart);
  of_a_topic = k.of_a_topic;
}

-- and what a script can declare is declared so
pub declared_scripted : (s : Setup) → IsScripted s → IsDeclared s
declared_scripted s k = record {
  ledger = k.ledger;
  clusters = record { each = k.cluster_names.0; apart = k.cluster_names.1 };
  few_clusters = k.clusters.1;
  topics = record { each = k.topic_names.0; apart = k.topic_names.1 };
  few_topics = k.topics.1;
  pair = λ _. k.clusters.0;
  clients = k.clients.0;
  clients_apart = k.clients.1;
  of_a_topic = k.of_a_topic;
}

scenario_is : (d : Declarations) (steps : Steps) → IsScripted d.setup → All IsClient d.setup.clients → IfSome d.chance IsChance → All (IsStep d.setup) steps.list → IsScenario (script_with (record { declared = d; steps = steps }))
scenario_is d steps known clients chance all =
    record { setup = known; clients = clients; chance = chance; steps = all }

-- so is what makes a script with whatever steps, with these
pub completed_is : {T E : Type 0} (r : Result T E) (d : Declarations) (steps : Steps) → OnOk r (IsScripted d.setup) → All IsClient d.setup.clients → IfSome d.chance IsChance → All (IsStep d.setup) steps.list → OnOk r (IsScenario (script_with (record { declared = d; steps = steps })))
completed_is (Ok u) d steps known clients chance all = scenario_is d steps known clients chance all
completed_is (Err e) d steps known clients chance all = tt
